use Rattle.std.proofs.Common.{◌≡◌, true, false, None, Some, subst}
use Rattle.std.specs.Prelude.{IfOk}
use Rattle.ccr_actor.specs.Acting.{Acting, IsAfter}
use Rattle.ccr_actor.specs.Courses.{IsSound, IsUnanswered, seen}
use Rattle.ccr_actor.proofs.FieldsAfterAStep.{IsFinished, got_after, got_sound, may_so, within}
use Rattle.ccr_actor.specs.Needs.{needs_memory, takes_unnumbered}
use Rattle.ccr_actor.proofs.AnswersNeedMemory.{got_needs, got_unnumbered}
use Rattle.ccr_actor.proofs.actor.Actor.got.Goals as goal

finished : (c : goal.After-finish) → IsFinished c.answer-made.result c.answer-made.new.self c.finish.new.self
finished c = record { state = c.finish.ensures.state; refused = c.finish.ensures.refused; same = c.finish.ensures.same }

sound : (c : goal.After-finish) → IsSound c.finish.new.self None
sound c =
    let e = c.answer-made.ensures in
    got_sound c.answer-made.result c.self.inside.course c.answer-made.new.self c.finish.new.self c.self.inside.unanswered c.in-Some.part c.args.reply c.self.invariant e.beside e.step (finished c) c.finish.ensures.ready c.finish.ensures.quiet c.finish.ensures.counted

pub invariant_of-self : goal.invariant_of-self
invariant_of-self c = sound c

pub returns-clause-after : goal.returns-clause-after
returns-clause-after c =
    let old = c.self.inside.course in
    let u = c.self.inside.unanswered in
    let part = c.in-Some.part in
    let due = c.in-Some.field-0-1 in
    let e = c.answer-made.ensures in
    let asked : IsUnanswered old (Some (part, due)) = subst (IsUnanswered old) c.in-Some.is c.self.invariant.asked in
    let may = may_so old u c.args.self.now part due c.args.reply c.self.view_is c.in-Some.is c.requires in
    let view : seen old (Some (part, due)) ≡ c.args.self.now = subst (λ v. seen old v ≡ c.args.self.now) c.in-Some.is c.self.view_is in
    subst (λ (a : Acting). IsAfter a c.args.reply (seen c.finish.new.self None)) view (got_after c.answer-made.result old c.answer-made.new.self c.finish.new.self part due c.args.reply asked.0 may e.beside e.step e.refused (finished c))

pub returns-clause-needs : goal.returns-clause-needs
returns-clause-needs c =
    let old = c.self.inside.course in
    let part = c.in-Some.part in
    let due = c.in-Some.field-0-1 in
    let e = c.answer-made.ensures in
    let asked : IsUnanswered old (Some (part, due)) = subst (IsUnanswered old) c.in-Some.is c.self.invariant.asked in
    let view : seen old (Some (part, due)) ≡ c.args.self.now = subst (λ v. seen old v ≡ c.args.self.now) c.in-Some.is c.self.view_is in
    subst (λ (a : Acting). IfOk c.args.reply (λ r. a.state.is_short ≡ false → (seen c.finish.new.self None).state.is_short ≡ true → needs_memory a r ≡ true)) view
    (got_needs c.answer-made.result old c.answer-made.new.self c.finish.new.self part due c.args.reply asked.0 e.beside e.step e.needs c.finish.ensures.needs)

pub returns-clause-unnumbered : goal.returns-clause-unnumbered
returns-clause-unnumbered c =
    let old = c.self.inside.course in
    let part = c.in-Some.part in
    let due = c.in-Some.field-0-1 in
    let asked : IsUnanswered old (Some (part, due)) = subst (IsUnanswered old) c.in-Some.is c.self.invariant.asked in
    let view : seen old (Some (part, due)) ≡ c.args.self.now = subst (λ v. seen old v ≡ c.args.self.now) c.in-Some.is c.self.view_is in
    subst (λ (a : Acting). IfOk c.args.reply (λ r. takes_unnumbered a r ≡ true → (seen c.finish.new.self None).state.is_short ≡ true)) view
    (got_unnumbered c.answer-made.result old c.finish.new.self part due c.args.reply asked.0 c.answer-made.ensures.numbered c.finish.ensures.short)

pub returns-clause-within : goal.returns-clause-within
returns-clause-within c = within c.finish.new.self (sound c)
