use Rattle.std.proofs.Common.{Some, sym, ap, ◌∙◌}
use Rattle.ccr_trace.proofs.Firsts.{single_is, single_more, single_fails}
use Rattle.ccr_trace.proofs.fields.single_of.Goals as goal

pub returns-in_err-number : goal.returns-in_err-number
returns-in_err-number c = c.from_residual.ensures ∙ sym (single_fails c.args.word.now c.new-parts.result c.new-parts.ensures c.in_err-number.ensures.none)

pub returns-then-not-is_empty : goal.returns-then-not-is_empty
returns-then-not-is_empty c = sym (single_more c.args.word.now c.new-parts.result c.number.new.self c.in_ok-number.number c.new-parts.ensures c.in_ok-number.ensures.some (sym c.is_empty.ensures ∙ c.if-not-is_empty.true))

pub returns : goal.returns
returns c = ap Some c.one.ensures ∙ sym (single_is c.args.word.now c.new-parts.result c.number.new.self c.in_ok-number.number c.new-parts.ensures c.in_ok-number.ensures.some (sym c.is_empty.ensures ∙ c.if-not-is_empty.false))
