-- Each allowed event of a legal history keeps what all tables say, and those of the empty history say nothing.
use Rattle.std.proofs.Common.{List, [], ◌∷◌, ◌++◌}
use Rattle.ccr_wiring.specs.declared.parts.Parts.{Parts}
use Rattle.ccr_wiring.specs.Valid.{IsValid}
use Rattle.ccr_model.specs.declared.history.Event.{Event}
use Rattle.ccr_model.specs.Legal.{IsAllowed, IsLegal}
use Rattle.ccr_ledger.specs.Books.{Books}
use Rattle.ccr_ledger.specs.Events.{after_event, empty_books}
use Rattle.ccr_ledger.specs.Kept.{Keeps}
use Rattle.ccr_ledger.proofs.Sizes.{sizes-event}
use Rattle.ccr_ledger.proofs.ScriptPosts.{script_posts-event}
use Rattle.ccr_ledger.proofs.Flags.{flags-event}
use Rattle.ccr_ledger.proofs.PortsKept.{ports-event, ports-none}
use Rattle.ccr_ledger.proofs.CardsKept.{tasks-event, tasks-none}
use Rattle.ccr_ledger.proofs.KeptRows.{rows-event, rows-none}
use Rattle.ccr_ledger.proofs.Counted.{counts-event, counts-none}
use Rattle.ccr_ledger.proofs.Empty.{sizes-none, script_posts-none, flags-none}

-- each allowed event of a legal history of a valid wiring keeps what all tables say
pub keeps-event : (w : Parts) → IsValid w → (h : List Event) (e : Event) (b : Books) → IsLegal w h → IsAllowed w h e → Keeps w h b → Keeps w (h ++ e ∷ []) (after_event w e b)
keeps-event w valid h e b legal allowed keeps = record {
  sizes = sizes-event w e b keeps.sizes;
  script_posts = script_posts-event w h e b keeps.sizes keeps.script_posts;
  ports = ports-event w valid h e b legal allowed keeps;
  tasks = tasks-event w valid h e b legal allowed keeps;
  rows = rows-event w valid h e b legal allowed keeps;
  flags = flags-event w h e b keeps.sizes keeps.flags;
  counts = counts-event w h e b legal allowed keeps;
}

-- the tables of the empty history are right
pub keeps-none : (w : Parts) → Keeps w [] (empty_books w)
keeps-none w = record {
  sizes = sizes-none w;
  script_posts = script_posts-none w;
  ports = ports-none w;
  tasks = tasks-none w;
  rows = rows-none w;
  flags = flags-none w;
  counts = counts-none w;
}
