-- Each allowed event keeps what the rows of tasks say.
use Rattle.std.proofs.Common.{◌≡◌, ℕ, ◌+◌, ◌*◌, Bool, true, false, List, [], ◌∷◌, ◌++◌, length, refl}
use Rattle.std.specs.Prelude.{if◌then◌else◌, nat_lt}
use Rattle.ccr_base.specs.declared.names.TaskId.{TaskId}
use Rattle.ccr_wiring.specs.declared.parts.Parts.{Parts}
use Rattle.ccr_wiring.specs.Valid.{IsValid}
use Rattle.ccr_wiring.specs.Wirings.{placements}
use Rattle.ccr_model.specs.declared.history.Event.{Event}
use Rattle.ccr_model.specs.Legal.{IsAllowed, IsLegal}
use Rattle.ccr_ledger.specs.Rows.{row, empty_rows}
use Rattle.ccr_ledger.specs.Books.{Books, sites_each, suspended_at}
use Rattle.ccr_ledger.specs.Events.{after_event, empty_books}
use Rattle.ccr_ledger.specs.Kept.{Keeps, KeepsRows}
use Rattle.ccr_ledger.proofs.Queued.{queued-event}
use Rattle.ccr_ledger.proofs.Waiting.{waiting-event}
use Rattle.ccr_ledger.proofs.Suspended.{suspended-event}
use Rattle.ccr_ledger.proofs.Running.{running-event}
use Rattle.ccr_ledger.proofs.RunningBy.{running_by-event}
use Rattle.ccr_ledger.proofs.Empty.{row-none}

-- after each allowed event the rows of tasks say who is queued, who waits for an admission, who is suspended at a site, and which actor runs what
pub rows-event : (w : Parts) → IsValid w → (h : List Event) (e : Event) (b : Books) → IsLegal w h → IsAllowed w h e → Keeps w h b → KeepsRows w (h ++ e ∷ []) (after_event w e b)
rows-event w valid h e b legal allowed keeps = record {
  queued = queued-event w h e b legal allowed keeps.sizes keeps.tasks keeps.rows.queued;
  waiting = waiting-event w valid h e b legal allowed keeps.sizes keeps.tasks keeps.rows.waiting;
  suspended = suspended-event w valid h e b legal allowed keeps.sizes keeps.tasks keeps.rows.suspended;
  running = running-event w h e b legal allowed keeps.tasks keeps.rows.running;
  running_by = running_by-event w h e b legal allowed keeps.tasks keeps.rows.running_by;
}

-- nobody stands in empty rows
suspended-none : (count b k : ℕ) → suspended_at (empty_rows count) b k ≡ []
suspended-none count b k = of_test (nat_lt k sites_each)
  where
    of_test : (is : Bool) → (if is then row (empty_rows {T = TaskId} count) (b * sites_each + k) else []) ≡ []
    of_test true = row-none count (b * sites_each + k)
    of_test false = refl

pub rows-none : (w : Parts) → KeepsRows w [] (empty_books w)
rows-none w = record {
  queued = λ q low. row-none (length w.queues) q;
  waiting = λ i low. row-none (length w.arbiters) i;
  suspended = λ b k. suspended-none (length (placements w) * sites_each) b k;
  running = refl;
  running_by = λ a. refl;
}
