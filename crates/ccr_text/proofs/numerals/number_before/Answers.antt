use Rattle.std.proofs.Common.{Some, sym, ap, ◌∙◌}
use Rattle.ccr_text.specs.Exact.{first_part, parts}
use Rattle.ccr_text.proofs.Digits.{read_after}
use Rattle.ccr_text.proofs.Exact.{first_begins, first_fails, first_found, at_separator, at_other, at_end}
use Rattle.ccr_text.proofs.numerals.number_before.Goals as goal

pub returns-then-not-may_begin_before : goal.returns-then-not-may_begin_before
returns-then-not-may_begin_before c = sym (first_begins c.args.separator c.args.bytes.now (sym c.may_begin_before.ensures ∙ c.if-not-may_begin_before.true))

-- the separator
pub returns-then-byte-separator : goal.returns-then-byte-separator
returns-then-byte-separator c =
    let at = at_separator c.args.separator c.in-Some.byte.now c.digits.rest.now c.in-Some.behind.now c.in-Some.ensures.cases.0 c.if-byte-separator.true in
    sym (first_found c.args.separator c.args.bytes.now c.digits.number (parts c.args.separator c.in-Some.behind.now) (sym c.may_begin_before.ensures ∙ c.if-not-may_begin_before.false)
    (sym c.digits.invariant.read ∙ ap (read_after (Some c.digits.number)) at.0) (sym c.digits.invariant.others ∙ at.1))

-- a byte that is no digit, or one digit too many
pub returns-in_err-number : goal.returns-in_err-number
returns-in_err-number c =
    let at = at_other c.args.separator c.in-Some.byte.now c.digits.rest.now c.in-Some.behind.now c.in-Some.ensures.cases.0 c.if-byte-separator.false in
    rw c.from_residual.ensures (sym (first_fails c.args.separator c.args.bytes.now (sym c.may_begin_before.ensures ∙ c.if-not-may_begin_before.false)
    (sym c.digits.invariant.read ∙ ap (read_after (Some c.digits.number)) at.0 ∙ ap (λ o. read_after o (first_part c.args.separator c.in-Some.behind.now)) (sym c.in_err-number.ensures))))

-- the end
pub returns : goal.returns
returns c =
    let at = at_end c.args.separator c.digits.rest.now c.in_default.ensures.cases in
    sym (first_found c.args.separator c.args.bytes.now c.digits.number _ (sym c.may_begin_before.ensures ∙ c.if-not-may_begin_before.false)
    (sym c.digits.invariant.read ∙ ap (read_after (Some c.digits.number)) at.0) (sym c.digits.invariant.others ∙ at.1))
