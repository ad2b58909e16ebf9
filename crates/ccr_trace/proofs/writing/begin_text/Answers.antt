use Rattle.std.proofs.Common.{arith}
use Rattle.std.proofs.lemmas.Grind.{common_steps}
use Rattle.ccr_trace.proofs.Written.{IsWritten-none}
use Rattle.ccr_trace.proofs.writing.begin_text.Goals as goal

pub returns-clause-written : goal.returns-clause-written
returns-clause-written c = IsWritten-none c.args.names.now _ (grind (arith, common_steps))
