use Rattle.std.proofs.Common.{take}
use Rattle.ccr_trace.specs.Values.{HaveSmallValues}
use Rattle.ccr_trace.proofs.values.values_are_small.Given as goal

abbrev pub invariant-loop-event : goal.invariant-loop-event
invariant-loop-event l = HaveSmallValues (take l.event-index l.events)
