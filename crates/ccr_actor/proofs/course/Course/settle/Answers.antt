use Rattle.std.proofs.Common.{◌≡◌, ◌∷◌, Some, sym, subst, ◌∙◌}
use Rattle.std.specs.Prelude.{OnOk, OnErr}
use Rattle.ccr_claim.specs.Attempts.{over_dropped}
use Rattle.ccr_actor.specs.Acting.{kept}
use Rattle.ccr_actor.specs.Actors.{State, admit_too}
use Rattle.ccr_actor.specs.Courses.{IsStep, dropped_by, state_of}
use Rattle.ccr_actor.proofs.StepsOfAttempts.{ends_kept, past_phase, same_state, settled_drop}
use Rattle.ccr_actor.proofs.course.Course.settle.Goals as goal

pub returns-in-Some-clause-step : goal.returns-in-Some-clause-step
returns-in-Some-clause-step c =
    let old = c.args.self.now in
    let w = old.wiring.now in
    let task = c.in-Some.task in
    let new = c.drop_task.new.self in
    let phase = past_phase old.attempt c.requires.past in
    let same : state_of (record old { attempt = c.told.new.attempt }) ≡ state_of old = same_state old c.told.new.attempt c.told.ensures.hand (past_phase c.told.new.attempt c.told.ensures.past ∙ sym phase) in
    let dropped : dropped_by c.args.reply ≡ Some task = sym c.told.ensures.dropped ∙ c.in-Some.is in
    let target : State = record (state_of old) { hand = over_dropped task ∷ (state_of old).hand; domains = admit_too w (state_of old) task } in
    let ok : OnOk c.drop_task.result (kept (state_of new) ≡ kept target) = subst (λ (s : State). OnOk c.drop_task.result (kept (state_of new) ≡ kept (record s { hand = over_dropped task ∷ s.hand; domains = admit_too w s task }))) same c.drop_task.ensures.ok in
    let err : OnErr c.drop_task.result ((state_of new).hand ≡ target.hand) = subst (λ (s : State). OnErr c.drop_task.result ((state_of new).hand ≡ over_dropped task ∷ s.hand)) same c.drop_task.ensures.err in
    subst (λ (t : State). IsStep c.drop_task.result w old.number t (state_of new)) (sym (settled_drop w (state_of old) (state_of old).hand task c.args.reply dropped)) (ends_kept c.drop_task.result w old.number target (state_of new) phase ok err)
