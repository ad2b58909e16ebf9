use Rattle.std.proofs.Common.{◌∙◌, sym}
use Rattle.ccr_telling.proofs.JudgedText.{judged_past_if, judged_refused_if, judged_accepted_if}
use Rattle.ccr_telling.proofs.judging.judge_next.Goals as goal

pub returns-then-is_some : goal.returns-then-is_some
returns-then-is_some c = λ old now next so_far read here.
    judged_past_if c.args.refusal.now (sym c.is_some.ensures ∙ c.if-is_some.true) old now next c.args.checker.now c.args.tally.now c.args.event.now so_far read

pub returns-in-Some : goal.returns-in-Some
returns-in-Some c = λ old now next so_far read here.
    judged_refused_if c.args.refusal.now (sym c.is_some.ensures ∙ c.if-is_some.false) old now next c.args.checker.now c.judge_event.new.checker c.args.tally.now c.judge_event.new.tally c.args.event.now c.args.at c.in-Some.rule
    so_far read (sym c.in-Some.is ∙ c.in_ok-rule.ensures.rule) here

pub returns-in_default : goal.returns-in_default
returns-in_default c = λ old now next so_far read here.
    judged_accepted_if c.args.refusal.now (sym c.is_some.ensures ∙ c.if-is_some.false) old now next c.args.checker.now c.judge_event.new.checker c.args.tally.now c.judge_event.new.tally c.args.event.now
    so_far read (sym c.in_default.is ∙ c.in_ok-rule.ensures.rule) (rw c.in_default.is at c.in_ok-rule.ensures.accepted) (rw c.in_default.is at c.in_ok-rule.ensures.counted)
