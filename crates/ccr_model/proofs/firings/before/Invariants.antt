use Rattle.std.proofs.Common.{◌≡◌, ◌++◌, drop, take}
use Rattle.ccr_model.specs.Sites.{before}
use Rattle.ccr_model.proofs.firings.before.Given as goal

abbrev pub invariant-loop-index : goal.invariant-loop-index
invariant-loop-index l = before l.task l.events ≡ take l.index l.events ++ before l.task (drop l.index l.events)
