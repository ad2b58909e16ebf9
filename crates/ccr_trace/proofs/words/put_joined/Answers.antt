use Rattle.std.proofs.Common.{arith}
use Rattle.std.proofs.lemmas.Grind.{common_steps}
use Rattle.ccr_trace.proofs.Lines.{value_first}
use Rattle.ccr_trace.proofs.words.put_joined.Goals as goal

pub returns-clause-text : goal.returns-clause-text
returns-clause-text c =
    let value = value_first c.in-Some.first.now c.in-Some.others.now in
    grind (arith, common_steps, value)
