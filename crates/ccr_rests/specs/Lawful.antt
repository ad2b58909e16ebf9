-- What a law says of an actor at rest.
use Rattle.std.specs.Prelude.{◌≡◌, ℕ, List, Option, None}
use Rattle.ccr_wiring.specs.declared.parts.Parts.{Parts}
use Rattle.ccr_actor.specs.Actors.{next}
use Rattle.ccr_actor.specs.Nets.{Step, replies_of}
use Rattle.ccr_runs.specs.declared.entries.Entry.{Entry}
use Rattle.ccr_runs.specs.EntryRuns.{Lacks, replies_of as replied}
use Rattle.ccr_rests.specs.RunSteps.{steps_of}
use Rattle.ccr_rests.specs.Trials.{AreSettled}

-- an actor that has nothing more to ask after these steps has settled its attempts among them
abbrev pub SettlesAtRest : Parts → ℕ → Option ℕ → List Step → Type 0
SettlesAtRest wiring actor lack steps = next wiring actor lack (replies_of steps) ≡ None → AreSettled wiring actor steps

-- the same of its steps in a run
abbrev pub SettlesInRun : Parts → Lacks → List Entry → ℕ → Type 0
SettlesInRun wiring lacks entries actor = next wiring actor (lacks actor) (replied wiring entries actor) ≡ None → AreSettled wiring actor (steps_of wiring lacks entries actor)
