-- What stands in a history before the events of the serial order.
use Rattle.std.specs.Prelude.{◌≡◌, ◌<◌, ℕ, zero, suc, List, [], Option, Some, None}
use Rattle.ccr_wiring.specs.Actors.{actor_count}
use Rattle.ccr_wiring.specs.declared.parts.Parts.{Parts}
use Rattle.ccr_model.specs.declared.history.Event.{Event}
use Rattle.ccr_actor.specs.Actors.{next}
use Rattle.ccr_runs.specs.declared.entries.Entry.{Entry}
use Rattle.ccr_runs.specs.EntryRuns.{IsRunAfter, never, replies_of, scheduled}
use Rattle.ccr_runs.specs.Visible.{visible}
use Rattle.ccr_space.specs.Closes.{IsBroughtToRest}

-- a run in which each poster and each worker made its own steps until it had none left
pub record IsRunToRest (wiring : Parts) (workers : ℕ) (entries : List Entry) : Type 0 where
  pub steps : IsRunAfter wiring workers never [] entries
  pub rest : (actor : ℕ) → actor < actor_count wiring workers → next wiring actor None (replies_of wiring entries actor) ≡ None

-- what stands before the events of the serial order: with turns what is visible of their run; else with workers what is visible of
-- some run to rest, whatever the threads do, which is what closed locks tell, whose passes all came to rest; else nothing
abbrev pub Begins : Parts → ℕ → Option (List ℕ) → List Event → Type 0
Begins wiring workers (Some turns) first = first ≡ visible (scheduled wiring turns)
Begins wiring zero None first = first ≡ []
Begins wiring (suc n) None first = (entries : List Entry) × IsRunToRest wiring (suc n) entries × IsBroughtToRest wiring (actor_count wiring (suc n)) entries [] × (first ≡ visible entries)
