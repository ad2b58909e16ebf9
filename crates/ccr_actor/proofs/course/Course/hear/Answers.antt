use Rattle.std.proofs.Common.{◌≡◌, true, false, List, ◌∷◌, Some, refl, sym, ap, subst, inl, ◌∙◌}
use Rattle.std.specs.Prelude.{OnOk, OnErr}
use Rattle.ccr_base.specs.declared.names.Spot.{Spot}
use Rattle.ccr_claim.specs.declared.outcomes.Progress.TheVariants as progresses
use Rattle.ccr_claim.specs.Attempts.{progress_of}
use Rattle.ccr_actor.specs.Acting.{kept}
use Rattle.ccr_actor.specs.Actors.{State, end_attempt}
use Rattle.ccr_actor.specs.Courses.{EndsSo, IsHeard, IsGivenUp, IsPast, is_memory, fired_on, heard, heard_needs, state_of}
use Rattle.ccr_actor.proofs.AnswersNeedMemory.{heard_wants, on_err, wants}
use Rattle.ccr_actor.proofs.StepsOfAttempts.{heard_in, ends, first_spot, is_first, hand_alone, fired_in, given_in, always_ok, always_err}
use Rattle.ccr_actor.proofs.course.Course.hear.Goals as goal

fired_so : (c : goal.After-fire) (spot : Spot) (more : List Spot) → c.args.self.now.spots ≡ spot ∷ more → EndsSo (heard c.args.self.now.wiring.now c.args.self.now.number (state_of c.args.self.now) spot more c.args.reply) (fired_on c.args.self.now.wiring.now (state_of c.args.self.now) spot more c.in-Fired.waits c.answer.new.attempt.hand) c.answer.new.attempt
fired_so c spot more at =
    let old = c.args.self.now in
    let new = c.answer.new.attempt in
    let so = heard_in old c.in-Some-attempt.attempt new c.args.reply spot more c.in-Some-attempt.is c.requires.way.dropped c.requires.way.put at c.requires.way.runs c.requires.asked c.requires.reply c.answer.ensures.after in
    let stand : progress_of new.ended ≡ progresses.Fired c.in-Fired.waits = sym c.answer.ensures.progress ∙ c.in-Fired.is in
    subst (λ s. IsHeard old.wiring.now old.number (record { actor = old.number; attempt = old.count }) (state_of old) spot more (heard old.wiring.now old.number (state_of old) spot more c.args.reply) s new) stand so

pub returns-in-Fired-clause-step : goal.returns-in-Fired-clause-step
returns-in-Fired-clause-step c = λ spot more at.
    let old = c.args.self.now in
    let new = c.answer.new.attempt in
    let it = fired_so c spot more at in
    let wanted : State = fired_on old.wiring.now (state_of old) spot more c.in-Fired.waits new.hand in
    let same = fired_in old new c.in-Some.spot spot more c.in-Fired.waits c.requires.way.dropped c.requires.way.put at (is_first old.spots c.in-Some.spot spot more (sym c.first.ensures ∙ c.in-Some.is) at) in
    let hand = hand_alone (record old { attempt = Some new }) c.requires.way.dropped c.requires.way.put in
    ends c.fire.result old.wiring.now old.number (heard old.wiring.now old.number (state_of old) spot more c.args.reply) wanted (state_of c.fire.new.self) it.reached refl
    (subst (λ (s : State). OnOk c.fire.result (state_of c.fire.new.self ≡ s)) same c.fire.ensures.ok)
    (subst (λ h. OnErr c.fire.result ((state_of c.fire.new.self).hand ≡ h)) hand c.fire.ensures.err)

fired_past : (c : goal.After-fire) → IsPast c.fire.new.self.attempt
fired_past c =
    let old = c.args.self.now in
    let first = first_spot old.wiring.now (record { actor = old.number; attempt = old.count }) old.spots old.attempt c.requires.way.runs in
    subst IsPast (sym c.fire.ensures.attempt) (fired_so c first.0 first.1 first.2).ended

pub returns-in-Fired-clause-attempt : goal.returns-in-Fired-clause-attempt
returns-in-Fired-clause-attempt c = always_ok c.fire.result _ (inl (fired_past c))

pub returns-in-Fired-clause-past : goal.returns-in-Fired-clause-past
returns-in-Fired-clause-past c = always_err c.fire.result _ (fired_past c)

given_so : (c : goal.After-give_up) (spot : Spot) (more : List Spot) → c.args.self.now.spots ≡ spot ∷ more → EndsSo (heard c.args.self.now.wiring.now c.args.self.now.number (state_of c.args.self.now) spot more c.args.reply) (end_attempt (state_of c.args.self.now) c.answer.new.attempt.hand more) c.answer.new.attempt
given_so c spot more at =
    let old = c.args.self.now in
    let new = c.answer.new.attempt in
    let so = heard_in old c.in-Some-attempt.attempt new c.args.reply spot more c.in-Some-attempt.is c.requires.way.dropped c.requires.way.put at c.requires.way.runs c.requires.asked c.requires.reply c.answer.ensures.after in
    let stand : progress_of new.ended ≡ progresses.GaveUp c.in-GaveUp.why = sym c.answer.ensures.progress ∙ c.in-GaveUp.is in
    let target = heard old.wiring.now old.number (state_of old) spot more c.args.reply in
    let up : IsGivenUp (is_memory c.in-GaveUp.why) old.wiring.now old.number (state_of old) more target new = subst (λ s. IsHeard old.wiring.now old.number (record { actor = old.number; attempt = old.count }) (state_of old) spot more target s new) stand so in
    let other : is_memory c.in-GaveUp.why ≡ false = sym c.is_memory.ensures ∙ c.if-is_memory.false in
    subst (λ b. IsGivenUp b old.wiring.now old.number (state_of old) more target new) other up

pub returns-else-is_memory-clause-step : goal.returns-else-is_memory-clause-step
returns-else-is_memory-clause-step c = λ spot more at.
    let old = c.args.self.now in
    ap kept (c.give_up.ensures.state ∙ given_in old c.answer.new.attempt spot more c.requires.way.dropped c.requires.way.put at ∙ sym (given_so c spot more at).reached)

pub returns-else-is_memory-clause-attempt : goal.returns-else-is_memory-clause-attempt
returns-else-is_memory-clause-attempt c =
    let old = c.args.self.now in
    let first = first_spot old.wiring.now (record { actor = old.number; attempt = old.count }) old.spots old.attempt c.requires.way.runs in
    inl (subst IsPast (sym c.give_up.ensures.attempt) (given_so c first.0 first.1 first.2).ended)

pub returns-then-is_memory-clause-past : goal.returns-then-is_memory-clause-past
returns-then-is_memory-clause-past c =
    let old = c.args.self.now in
    let new = c.answer.new.attempt in
    let first = first_spot old.wiring.now (record { actor = old.number; attempt = old.count }) old.spots old.attempt c.requires.way.runs in
    let so = heard_in old c.in-Some-attempt.attempt new c.args.reply first.0 first.1 c.in-Some-attempt.is c.requires.way.dropped c.requires.way.put first.2 c.requires.way.runs c.requires.asked c.requires.reply c.answer.ensures.after in
    let stand : progress_of new.ended ≡ progresses.GaveUp c.in-GaveUp.why = sym c.answer.ensures.progress ∙ c.in-GaveUp.is in
    let reached = heard old.wiring.now old.number (state_of old) first.0 first.1 c.args.reply in
    let up : IsGivenUp (is_memory c.in-GaveUp.why) old.wiring.now old.number (state_of old) first.1 reached new = subst (λ s. IsHeard old.wiring.now old.number (record { actor = old.number; attempt = old.count }) (state_of old) first.0 first.1 reached s new) stand so in
    let memory : is_memory c.in-GaveUp.why ≡ true = sym c.is_memory.ensures ∙ c.if-is_memory.true in
    (subst (λ b. IsGivenUp b old.wiring.now old.number (state_of old) first.1 reached new) memory up).ended

pub returns-in-Fired-clause-needs : goal.returns-in-Fired-clause-needs
returns-in-Fired-clause-needs c =
    let new = c.answer.new.attempt in
    let stand : progress_of new.ended ≡ progresses.Fired c.in-Fired.waits = sym c.answer.ensures.progress ∙ c.in-Fired.is in
    on_err c.fire.result (c.in-Fired.waits ≡ true) (heard_needs c.args.reply ≡ true)
    (λ waits. heard_wants c.args.self.now.attempt c.in-Some-attempt.attempt new c.args.reply c.in-Some-attempt.is c.requires.reply c.requires.asked c.answer.ensures.after (ap wants stand ∙ waits))
    c.fire.ensures.needs

pub returns-then-is_memory-clause-needs : goal.returns-then-is_memory-clause-needs
returns-then-is_memory-clause-needs c =
    let new = c.answer.new.attempt in
    let stand : progress_of new.ended ≡ progresses.GaveUp c.in-GaveUp.why = sym c.answer.ensures.progress ∙ c.in-GaveUp.is in
    let memory : is_memory c.in-GaveUp.why ≡ true = sym c.is_memory.ensures ∙ c.if-is_memory.true in
    heard_wants c.args.self.now.attempt c.in-Some-attempt.attempt new c.args.reply c.in-Some-attempt.is c.requires.reply c.requires.asked c.answer.ensures.after (ap wants stand ∙ memory)
