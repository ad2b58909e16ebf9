use Rattle.std.proofs.Common.{◌≡◌, sym, subst, arith}
use Rattle.std.proofs.lemmas.Grind.{common_steps}
use Rattle.ccr_actor.specs.Actors.{Work, after_work, resting}
use Rattle.ccr_actor.specs.Courses.{IsStep, state_of}
use Rattle.ccr_actor.specs.Inside.{play_of, playing_of, work_of}
use Rattle.ccr_actor.proofs.StepsOfWork.{play_step}
use Rattle.ccr_actor.proofs.course.Course.worked.Goals as goal

pub returns-in-Playing-clause-step : goal.returns-in-Playing-clause-step
returns-in-Playing-clause-step c =
    let old = c.args.self.now in
    let p = c.in-Playing.playing in
    let new = state_of c.played.new.self in
    let is : work_of old.work ≡ playing_of p = grind (arith, common_steps, c.replace.ensures.value, c.in-Playing.is) in
    subst (λ (work : Work). IsStep c.played.result old.wiring.now old.number (after_work old.wiring.now (state_of old) work c.args.reply) new) (sym is)
    (play_step c.played.result old.wiring.now old.number (state_of old) resting p.task p.index (play_of p) c.args.reply new c.requires.phase c.played.ensures.ok c.played.ensures.err)
