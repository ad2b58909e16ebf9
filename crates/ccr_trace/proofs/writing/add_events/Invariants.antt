use Rattle.std.proofs.Common.{take}
use Rattle.ccr_trace.specs.Written.{IsWritten}
use Rattle.ccr_trace.proofs.writing.add_events.Given as goal

abbrev pub invariant-loop-event : goal.invariant-loop-event
invariant-loop-event l = IsWritten l.names (take l.event-index l.events) l.text
