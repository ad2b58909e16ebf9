use Rattle.std.proofs.Common.{refl, ◌∙◌, ◌++◌, sym, ap, append-nil, option_to_list}
use Rattle.ccr_ledger.specs.Taken.{without_first}
use Rattle.ccr_ledger.proofs.HeldLefts.{left_first, left_same, left_then}
use Rattle.ccr_ledger.proofs.Taking.{some_more, taken-step}
use Rattle.ccr_ledger.proofs.held.HeldMessages.take_some.Goals as goal
use Rattle.ccr_ledger.proofs.held.HeldMessages.take_some.Goals.{in-Some+in_ok-push, in_default}

pub loop-preserved : goal.loop-preserved
loop-preserved c = record {
  rest = c.in_ok-message.ensures.rest ∙ ap (without_first c.args.pred) c.loop.invariant.rest ∙ sym (some_more c.loop.counter c.args.pred c.args.self.now);
  taken = taken-step c.loop.counter c.args.pred c.args.self.now c.args.taken.now.items c.match-branch-2.taken.items c.loop.taken.items c.loop.self c.in_ok-message.field-0 c.loop.invariant.rest c.loop.invariant.taken c.in_ok-message.ensures.message (elim c.match-branch-2.branch [
    | in-Some+in_ok-push w ↦ ap (λ v. v.items) w.taken-is ∙ (w.in_ok-push.ensures.items ∙ ap (λ o. c.loop.taken.items ++ option_to_list o) (sym w.in-Some.is))
    | in_default w ↦ ap (λ v. v.items) w.taken-is ∙ (sym (append-nil c.loop.taken.items) ∙ ap (λ o. c.loop.taken.items ++ option_to_list o) (sym w.in_default.is))
  ]);
  left = left_then c.args.self.now c.loop.self _ c.loop.invariant.left (rw c.in_ok-message.ensures.rest (left_first c.args.pred c.loop.self));
}

pub loop-init : goal.loop-init
loop-init c = record { rest = refl; taken = sym (append-nil c.args.taken.now.items); left = left_same c.args.self.now }

pub returns-in_err-push-clause-left : goal.returns-in_err-push-clause-left
returns-in_err-push-clause-left c = left_then c.args.self.now c.loop.self _ c.loop.invariant.left (rw c.in_ok-message.ensures.rest (left_first c.args.pred c.loop.self))
