use Rattle.std.proofs.Common.{◌∙◌, ◌++◌, ◌∷◌, [], ap, arith}
use Rattle.ccr_model.specs.Legal.{IsAllowed}
use Rattle.ccr_model.proofs.LegalParts.{legal_push}
use Rattle.ccr_checker.specs.Judges.{Judged}
use Rattle.ccr_check.proofs.JudgesStayJudges.{IsJudge-more}
use Rattle.ccr_check.proofs.judge.Judge.feed.Goals as goal

pub invariant_of-self-2 : goal.invariant_of-self-2
invariant_of-self-2 c =
    let known = c.self.invariant in
    let w = c.self.inside.wiring.now in
    let h = c.self.inside.history in
    let allowed : IsAllowed w h c.args.event.now = grind arith in
    let short = c.valid_histories_are_short.ensures w known.valid known.closed (h ++ c.args.event.now ∷ []) (legal_push w [] h c.args.event.now known.legal allowed) in
    IsJudge-more _ c.refusal.new.self _ c.append.new.self c.args.event.now known.valid known.closed known.legal allowed (rw (← c.in_ok-kept.ensures) c.in_ok-append.ensures.ok) (rw (c.in_ok-append.ensures.ok, c.in_ok-kept.ensures) (omega (arith, short)))
    (grind arith) (c.in_ok-accept.ensures.ok ∙ ap (λ (j : Judged). record j { history = j.history ++ c.args.event.now ∷ [] }) c.deref_mut-2.ensures.value)
