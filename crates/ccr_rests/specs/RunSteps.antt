-- What an actor asked in a run, and what it was replied.
use Rattle.std.specs.Prelude.{ℕ, List, [], ◌∷◌, ◌++◌, Option, Some, None}
use Rattle.ccr_wiring.specs.declared.parts.Parts.{Parts}
use Rattle.ccr_claim.specs.declared.asks.Asked.{Asked}
use Rattle.ccr_claim.specs.declared.asks.Reply.{Reply}
use Rattle.ccr_actor.specs.Actors.{next}
use Rattle.ccr_actor.specs.Nets.{Step}
use Rattle.ccr_runs.specs.declared.entries.Entry.{Entry}
use Rattle.ccr_runs.specs.EntryRuns.{Lacks, replies_of}

-- the step that an ask and its reply are; none where nothing was asked
abbrev pub step_to : Option Asked → Reply → List Step
step_to None reply = []
step_to (Some one) reply = record { asked = one; reply = reply } ∷ []

-- each reply is to the ask that came next after those before it
abbrev pub steps_from : Parts → ℕ → Option ℕ → List Reply → List Reply → List Step
steps_from wiring actor lack given [] = []
steps_from wiring actor lack given (reply ∷ replies) = step_to (next wiring actor lack given) reply ++ steps_from wiring actor lack (given ++ reply ∷ []) replies

-- the steps of the actor in the run
abbrev pub steps_of : Parts → Lacks → List Entry → ℕ → List Step
steps_of wiring lacks entries actor = steps_from wiring actor (lacks actor) [] (replies_of wiring entries actor)
