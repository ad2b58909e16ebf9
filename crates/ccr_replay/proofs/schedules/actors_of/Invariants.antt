use Rattle.std.proofs.Common.{◌≡◌, take}
use Rattle.ccr_replay.specs.Schedules.{schedule}
use Rattle.ccr_replay.proofs.schedules.actors_of.Given as goal

abbrev pub invariant-loop-entry : goal.invariant-loop-entry
invariant-loop-entry l = l.actors.items ≡ schedule (take l.entry-index l.entries)
