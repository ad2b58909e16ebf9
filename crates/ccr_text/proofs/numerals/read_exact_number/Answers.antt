use Rattle.std.proofs.Common.{sym, ◌∙◌}
use Rattle.ccr_text.proofs.Exact.{exact_some, exact_none}
use Rattle.ccr_text.proofs.numerals.read_exact_number.Goals as goal

pub returns-then-not-may_begin : goal.returns-then-not-may_begin
returns-then-not-may_begin c = sym (exact_none c.args.word.now (sym c.may_begin.ensures ∙ c.if-not-may_begin.true))

pub returns : goal.returns
returns c = c.read_number.ensures ∙ sym (exact_some c.args.word.now (sym c.may_begin.ensures ∙ c.if-not-may_begin.false))
