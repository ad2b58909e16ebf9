use Rattle.std.proofs.Common.{◌≡◌, true, false, refl, sym, subst}
use Rattle.std.specs.Prelude.{OnErr}
use Rattle.ccr_actor.specs.declared.course.Part.{Part}
use Rattle.ccr_actor.specs.declared.course.Part.TheVariants as parts
use Rattle.ccr_actor.specs.Actors.{State}
use Rattle.ccr_actor.specs.Courses.{IsAnswered, IsStep, answer_needs, answer_unnumbered, heard_needs, state_of, target}
use Rattle.ccr_actor.proofs.AnswersNeedMemory.{driven_needs, on_err}
use Rattle.ccr_actor.proofs.StepsOfAttempts.{always_ok, first_spot, driven_target}
use Rattle.ccr_actor.proofs.course.Course.answer.Goals as goal

pub returns-in-Drive-clause-step : goal.returns-in-Drive-clause-step
returns-in-Drive-clause-step c =
    let old = c.args.self.now in
    let new = state_of c.hear.new.self in
    let answered : IsAnswered old parts.Drive c.args.reply = subst (λ (p : Part). IsAnswered old p c.args.reply) c.in-Drive.is c.requires.answered in
    let first = first_spot old.wiring.now (record { actor = old.number; attempt = old.count }) old.spots old.attempt answered.0.runs in
    let same = driven_target old first.0 first.1 c.args.reply answered.0 answered.1.0 first.2 in
    subst (λ (p : Part). IsStep c.hear.result old.wiring.now old.number (target p old.wiring.now old.number (state_of old) c.args.reply) new) (sym c.in-Drive.is)
    (subst (λ (s : State). IsStep c.hear.result old.wiring.now old.number s new) (sym same) (c.hear.ensures.step first.0 first.1 first.2))

pub returns-in-Drive-clause-needs : goal.returns-in-Drive-clause-needs
returns-in-Drive-clause-needs c =
    let old = c.args.self.now in
    let needs = on_err c.hear.result (heard_needs c.args.reply ≡ true) (answer_needs parts.Drive old.wiring.now (state_of old) c.args.reply ≡ true) (driven_needs old.wiring.now (state_of old) c.args.reply) c.hear.ensures.needs in
    subst (λ (p : Part). OnErr c.hear.result (answer_needs p old.wiring.now (state_of old) c.args.reply ≡ true)) (sym c.in-Drive.is) needs

pub returns-in-Drive-clause-numbered : goal.returns-in-Drive-clause-numbered
returns-in-Drive-clause-numbered c =
    let old = c.args.self.now in
    always_ok c.hear.result _ (subst (λ (p : Part). answer_unnumbered p old.wiring.now (state_of old) c.args.reply ≡ false) (sym c.in-Drive.is) refl)
