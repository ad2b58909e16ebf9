use Rattle.std.proofs.Common.{◌≡◌, true, ◌++◌, ◌∷◌, [], subst, arith}
use Rattle.ccr_wiring.specs.Openness.{is_closed}
use Rattle.ccr_model.specs.Legal.{IsAllowed}
use Rattle.ccr_model.proofs.LegalParts.{legal_push}
use Rattle.ccr_checker.specs.Judges.{Judged}
use Rattle.ccr_telling.specs.Tallies.{IsCounting}
use Rattle.ccr_telling.proofs.judging.judge_event.Goals as goal

pub returns-clause-counted : goal.returns-clause-counted
returns-clause-counted c = λ closed before.
    let r = c.refusal.new.self in
    let e = c.args.event.now in
    let allowed : IsAllowed r.wiring r.history e = grind arith in
    let legal = legal_push r.wiring [] r.history e c.in_ok-tables.ensures.legal allowed in
    let counted = λ (shut : is_closed r.wiring ≡ true). c.count.ensures r.wiring r.history c.in_ok-tables.ensures.valid shut c.in_ok-tables.ensures.tables legal in
    subst (λ (j : Judged). is_closed j.wiring ≡ true → IsCounting j.wiring j.history c.args.tally.now → IsCounting j.wiring (j.history ++ e ∷ []) c.count.new.self) c.in_ok-rule.ensures.kept counted closed before
