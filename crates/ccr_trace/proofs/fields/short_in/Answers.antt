use Rattle.std.proofs.Common.{arith}
use Rattle.std.proofs.lemmas.Grind.{common_steps}
use Rattle.ccr_trace.proofs.Firsts.{field_short, field_long}
use Rattle.ccr_trace.proofs.fields.short_in.Goals as goal

pub returns-then-number-from-clause-none : goal.returns-then-number-from-clause-none
returns-then-number-from-clause-none c = field_long c.args.numbers.now c.number.new.self c.in_ok-number.number c.in_ok-number.ensures.some (grind (arith, common_steps, c.if-number-from.true, c.from.ensures))

pub returns-clause-some : goal.returns-clause-some
returns-clause-some c = field_short c.args.numbers.now c.number.new.self c.in_ok-number.number c.in_ok-number.ensures.some (grind (arith, common_steps, c.if-number-from.false, c.from.ensures))
