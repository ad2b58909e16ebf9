use Rattle.std.proofs.Common.{arith}
use Rattle.ccr_trace.proofs.Written.{IsWritten-event}
use Rattle.ccr_trace.proofs.writing.add_event.Goals as goal

pub returns-clause-written : goal.returns-clause-written
returns-clause-written c = λ history before. IsWritten-event c.args.names.now history c.args.event.now c.args.text.now c.put_event.new.out before (grind arith) c.in_ok-put_event.ensures.numbers c.event_is_small.ensures
