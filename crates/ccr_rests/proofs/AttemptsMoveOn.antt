-- Where an actor stands in its attempts, and how one reply, or running out of memory, moves it on.
use Rattle.std.proofs.Common.{◌≡◌, ◌⊎◌, inl, inr, ℕ, ◌^◌, true, false, List, [], ◌∷◌, ◌++◌, flat_map, Option, Some, None, Ok, refl, sym, ap, subst, arith, ◌∙◌, append_assoc}
use Rattle.std.specs.Prelude.{nat_lt}
use Rattle.std.proofs.lemmas.Grind.{common_steps}
use Rattle.std.proofs.lemmas.Option.{same_Some}
use Rattle.ccr_base.specs.declared.names.Spot.{Spot}
use Rattle.ccr_base.specs.declared.names.TaskId.{TaskId}
use Rattle.ccr_base.specs.declared.tasks.Task.{Task}
use Rattle.ccr_wiring.specs.declared.parts.Parts.{Parts}
use Rattle.ccr_claim.specs.declared.asks.Asked.{Asked}
use Rattle.ccr_claim.specs.declared.asks.Due.TheVariants as dues
use Rattle.ccr_claim.specs.declared.asks.Reply.{Reply}
use Rattle.ccr_claim.specs.declared.asks.Reply.TheVariants as replies
use Rattle.ccr_claim.specs.declared.outcomes.Outcome.{Outcome}
use Rattle.ccr_claim.specs.declared.outcomes.Outcome.TheVariants as outcomes
use Rattle.ccr_claim.specs.declared.outcomes.Why.{Why}
use Rattle.ccr_claim.specs.declared.outcomes.Why.TheVariants as whys
use Rattle.ccr_claim.specs.declared.plan.ClaimPlan.{ClaimPlan}
use Rattle.ccr_claim.specs.Asks.{MaybeReply, due_of, fits, may_come}
use Rattle.ccr_claim.specs.Plans.{slots_in}
use Rattle.ccr_claim.specs.Attempts.{AttemptState, Phase, booking, claiming, had_in, attempt_ask, release, firing_hand, over_dropped, claimed, port_of, waits, sent, after as answered_after}
use Rattle.ccr_claim.specs.Settling.{AttemptStep, Shot, step_of, AreAnswers}
use Rattle.ccr_claim.proofs.HandsAreOwed.{stands, gave_up, fired}
use Rattle.ccr_actor.specs.Plans.{plan_of}
use Rattle.ccr_actor.specs.Actors.{State, settle, drive, turn, name_at, asked, ask_in, settled, after_attempt, fire, give_up, after_in, after}
use Rattle.ccr_actor.proofs.AttemptsGoOn.{is_own, own}
use Rattle.ccr_rests.specs.Trials.{Trial, state_of, steps_of, Stretch, attempt, steps_in, GaveUp, Fired, IsOwn, IsDone, AreDone}
use Rattle.ccr_rests.proofs.Answering.{IsWithin, state_more, steps_more, may_more}
use Rattle.ccr_rests.proofs.Hands.{IsOrdered, release_ordered, firing_ordered, IsBetween, done_alone, dropped_alone}

-- ---- stretches

done-both : (w : Parts) (a : ℕ) (stretches more : List Stretch) → AreDone w a stretches → AreDone w a more → AreDone w a (stretches ++ more)
done-both w a [] more all rest = rest
done-both w a (stretch ∷ stretches) more all rest = (all.0, done-both w a stretches more all.1 rest)

steps-both : (stretches : List Stretch) (stretch : Stretch) → flat_map steps_in (stretches ++ stretch ∷ []) ≡ flat_map steps_in stretches ++ steps_in stretch
steps-both stretches stretch = grind (arith, common_steps)

-- stretches of which nothing is left to do, which make up these steps
pub record Past (w : Parts) (a : ℕ) (past : List AttemptStep) : Type 0 where
  pub stretches : List Stretch
  pub are : past ≡ flat_map steps_in stretches
  pub done : AreDone w a stretches

-- one stretch more
pub and : (w : Parts) (a : ℕ) (past : List AttemptStep) (stretch : Stretch) → Past w a past → IsDone w a stretch → Past w a (past ++ steps_in stretch)
and w a past stretch all is = record {
  stretches = all.stretches ++ stretch ∷ [];
  are = ap (λ steps. steps ++ steps_in stretch) all.are ∙ sym (steps-both all.stretches stretch);
  done = done-both w a all.stretches (stretch ∷ []) all.done (is, tt);
}

-- ---- where an actor stands

-- stretches, and then what this attempt has asked so far
pub record Trying (w : Parts) (a : ℕ) (past : List AttemptStep) (t : Trial) : Type 0 where
  pub before : List AttemptStep
  pub earlier : Past w a before
  pub are : past ≡ before ++ steps_of t
  pub own : IsOwn w a t
  pub within : IsWithin t.lack t.answers
  pub may : AreAnswers t.plan t.task t.lack t.answers

-- between attempts
pub record Idle (w : Parts) (a : ℕ) (past : List AttemptStep) (st : State) : Type 0 where
  pub all : Past w a past
  pub phase : st.phase ≡ booking
  pub hand : IsBetween st.hand

-- an attempt that runs at this spot
abbrev pub running : Parts → ℕ → State → Spot → AttemptState
running w a st spot = record { plan = plan_of w spot; task = name_at a st; hand = []; phase = st.phase; ended = None; due = dues.Nothing }

abbrev pub trial : Parts → ℕ → State → Spot → List MaybeReply → Trial
trial w a st spot answers = record { plan = plan_of w spot; task = name_at a st; lack = None; answers = answers }

pub record Runs (w : Parts) (a : ℕ) (past : List AttemptStep) (st : State) : Type 0 where
  pub spot : Spot
  pub more : List Spot
  pub answers : List MaybeReply
  pub trying : Trying w a past (trial w a st spot answers)
  pub state : state_of (trial w a st spot answers) ≡ running w a st spot
  pub hand : st.hand ≡ []
  pub domains : st.domains ≡ []
  pub spots : st.spots ≡ spot ∷ more
  pub low : nat_lt st.attempt (2 ^ 32) ≡ true
  pub long : st.is_short ≡ false

-- an attempt that has ended so, with this in hand
abbrev pub ending : Trial → List Asked → Outcome → AttemptState
ending t hand outcome = record { plan = t.plan; task = t.task; hand = hand; phase = booking; ended = Some outcome; due = dues.Nothing }

pub record Settles (w : Parts) (a : ℕ) (past : List AttemptStep) (st : State) : Type 0 where
  pub t : Trial
  pub first : Asked
  pub rest : List Asked
  pub outcome : Outcome
  pub trying : Trying w a past t
  pub state : state_of t ≡ ending t (first ∷ rest) outcome
  pub hand : st.hand ≡ first ∷ rest
  pub order : IsOrdered (first ∷ rest)
  pub phase : st.phase ≡ booking

abbrev pub Goes : Parts → ℕ → List AttemptStep → State → Type 0
Goes w a past st = Idle w a past st ⊎ (Runs w a past st ⊎ Settles w a past st)

-- ---- an attempt ends

settled-so : (t : Trial) (outcome : Outcome) → AreAnswers t.plan t.task t.lack t.answers → state_of t ≡ ending t [] outcome → GaveUp t ⊎ Fired t
settled-so t (outcomes.GaveUp why) may is =
    let at = stands t.plan t.task t.lack t.answers may in
    let ended : (state_of t).ended ≡ Some (outcomes.GaveUp why) = ap (λ (s : AttemptState). s.ended) is in
    let facts = gave_up t.plan t.task (steps_of t) (state_of t) why at ended (ap (λ (s : AttemptState). s.hand) is) in
    inl (why, ended, facts.0, facts.1)
settled-so t (outcomes.Fired waiting dropped) may is =
    let at = stands t.plan t.task t.lack t.answers may in
    let ended : (state_of t).ended ≡ Some (outcomes.Fired waiting dropped) = ap (λ (s : AttemptState). s.ended) is in
    let facts = fired t.plan t.task (steps_of t) (state_of t) waiting dropped at ended (ap (λ (s : AttemptState). s.hand) is) in
    let shot : Shot = facts.0.0 in
    let told : (state_of t).ended ≡ Some (outcomes.Fired (waits shot.task) dropped) = ended ∙ ap (λ b. Some (outcomes.Fired b dropped)) facts.0.2 in
    inr (shot, dropped, told, facts.0.1, facts.1)

-- it has nothing in hand
closed : (w : Parts) (a : ℕ) (past : List AttemptStep) (t : Trial) (outcome : Outcome) → Trying w a past t → state_of t ≡ ending t [] outcome → Past w a past
closed w a past t outcome trying is = subst (Past w a) (sym trying.are) (and w a trying.before (attempt t) trying.earlier (trying.own, settled-so t outcome trying.may is))

-- it has this in hand, and so has the actor
pub ends : (w : Parts) (a : ℕ) (past : List AttemptStep) (st : State) (t : Trial) (hand : List Asked) (outcome : Outcome) → Trying w a past t → state_of t ≡ ending t hand outcome → st.hand ≡ hand → IsOrdered hand → st.phase ≡ booking → Goes w a past st
ends w a past st t [] outcome trying is own order phase = inl (record { all = closed w a past t outcome trying is; phase = phase; hand = subst IsBetween (sym own) tt })
ends w a past st t (first ∷ rest) outcome trying is own order phase = inr (inr (record { t = t; first = first; rest = rest; outcome = outcome; trying = trying; state = is; hand = own; order = order; phase = phase }))

-- ---- one more answer to it

abbrev answered : Trial → MaybeReply → Trial
answered t answer = record t { answers = t.answers ++ answer ∷ [] }

within-more : (lack : Option ℕ) (answers : List MaybeReply) (answer : MaybeReply) → IsWithin lack answers → IsWithin lack (answers ++ answer ∷ [])
within-more None answers answer within = tt
within-more (Some n) answers answer within = grind (arith, common_steps, within)

go-on : (w : Parts) (a : ℕ) (past : List AttemptStep) (t : Trial) (state : AttemptState) (answer : MaybeReply) → Trying w a past t → state_of t ≡ state → may_come (sent state).due answer ≡ true → Trying w a (past ++ step_of state answer) (answered t answer)
go-on w a past t state answer trying is may = record {
  before = trying.before;
  earlier = trying.earlier;
  are = longer;
  own = trying.own;
  within = within-more t.lack t.answers answer trying.within;
  may = may_more t.plan t.task t.lack t.answers answer trying.within trying.may (subst (λ (s : AttemptState). may_come (sent s).due answer ≡ true) (sym is) may);
}
  where
    more : steps_of (answered t answer) ≡ steps_of t ++ step_of state answer
    more = steps_more t.plan t.task t.lack t.answers answer trying.within ∙ ap (λ (s : AttemptState). steps_of t ++ step_of s answer) is

    longer : past ++ step_of state answer ≡ trying.before ++ steps_of (answered t answer)
    longer = ap (λ steps. steps ++ step_of state answer) trying.are ∙ (append_assoc trying.before (steps_of t) (step_of state answer) ∙ ap (λ steps. trying.before ++ steps) (sym more))

now : (t : Trial) (state : AttemptState) (answer : MaybeReply) → IsWithin t.lack t.answers → state_of t ≡ state → state_of (answered t answer) ≡ answered_after state answer
now t state answer within is = state_more t.plan t.task t.lack t.answers answer within ∙ ap (λ (s : AttemptState). answered_after s answer) is

-- ---- a reply to an attempt that runs

module _ (w : Parts) (a : ℕ) (past : List AttemptStep) (st : State) (run : Runs w a past st) where
  abbrev plan : ClaimPlan
  plan = plan_of w run.spot

  abbrev name : TaskId
  name = name_at a st

  abbrev step : Reply → AttemptStep
  step reply = record { asked = attempt_ask plan name st.phase; answer = Ok reply }

  abbrev later : Reply → Trial
  later reply = answered (trial w a st run.spot run.answers) (Ok reply)

  tried : (reply : Reply) → fits (due_of (attempt_ask plan name st.phase).ask) reply ≡ true → Trying w a (past ++ step reply ∷ []) (later reply)
  tried reply fit = go-on w a past (trial w a st run.spot run.answers) (running w a st run.spot) (Ok reply) run.trying run.state fit

  state-at : (reply : Reply) → state_of (later reply) ≡ answered_after (running w a st run.spot) (Ok reply)
  state-at reply = now (trial w a st run.spot run.answers) (running w a st run.spot) (Ok reply) run.trying.within run.state

  -- it runs on in this phase
  runs-on : (reply : Reply) (phase : Phase) → fits (due_of (attempt_ask plan name st.phase).ask) reply ≡ true → answered_after (running w a st run.spot) (Ok reply) ≡ running w a (record st { phase = phase }) run.spot → Goes w a (past ++ step reply ∷ []) (record st { phase = phase })
  runs-on reply phase fit is = inr (inl (record {
    spot = run.spot;
    more = run.more;
    answers = run.answers ++ Ok reply ∷ [];
    trying = tried reply fit;
    state = state-at reply ∙ is;
    hand = run.hand;
    domains = run.domains;
    spots = run.spots;
    low = run.low;
    long = run.long;
  }))

  -- it is given up
  given-up : (reply : Reply) (why : Why) → fits (due_of (attempt_ask plan name st.phase).ask) reply ≡ true → answered_after (running w a st run.spot) (Ok reply) ≡ ending (later reply) (release plan name st.phase) (outcomes.GaveUp why) → Goes w a (past ++ step reply ∷ []) (give_up w a st run.spot run.more)
  given-up reply why fit is = ends w a (past ++ step reply ∷ []) (give_up w a st run.spot run.more) (later reply) (release plan name st.phase) (outcomes.GaveUp why) (tried reply fit) (state-at reply ∙ is) refl (release_ordered plan name st.phase) refl

  driven : (reply : Reply) → fits (due_of (attempt_ask plan name st.phase).ask) reply ≡ true → is_own reply ≡ true → Goes w a (past ++ step reply ∷ []) (after_attempt w a st run.spot run.more reply)
  driven replies.Booked fit own = runs-on replies.Booked (claiming (slots_in plan.pattern) []) fit refl
  driven (replies.Got ms) fit own = runs-on (replies.Got ms) (claimed plan ms st.phase) fit refl
  driven (replies.Fired task cuts) fit own =
      ends w a (past ++ step (replies.Fired task cuts) ∷ []) (fire w a st run.spot run.more task cuts) (later (replies.Fired task cuts)) (firing_hand name (had_in st.phase) task cuts) (outcomes.Fired (waits task) None)
      (tried (replies.Fired task cuts) fit) (state-at (replies.Fired task cuts)) refl (firing_ordered name (had_in st.phase) task cuts) refl
  driven (replies.Full n) fit own = given-up (replies.Full n) (whys.Full n) fit refl
  driven (replies.Busy t) fit own = given-up (replies.Busy t) (whys.Busy (port_of st.phase) t) fit refl
  driven (replies.Short n) fit own = given-up (replies.Short n) (whys.Short (port_of st.phase) n) fit refl
  driven (replies.Dead by) fit own = given-up (replies.Dead by) (whys.Dead by) fit refl
  driven replies.Done fit own = cc own
  driven (replies.Admitted t) fit own = cc own
  driven (replies.Dropped t) fit own = cc own
  driven (replies.Taken t) fit own = cc own
  driven (replies.Drawn n) fit own = cc own
  driven replies.Spent fit own = cc own
  driven (replies.Left n) fit own = cc own

  turns : turn st ≡ drive run.spot run.more
  turns = rw (run.long, run.hand, run.domains, run.low, run.spots) refl

  pub runs_go : (one : Asked) (reply : Reply) → asked w a st ≡ Some one → fits (due_of one.ask) reply ≡ true → Goes w a (past ++ (record { asked = one; answer = Ok reply }) ∷ []) (after w a st reply)
  runs_go one reply asks fit =
      let is : attempt_ask plan name st.phase ≡ one = same_Some _ _ (sym (ap (ask_in w a st) turns) ∙ asks) in
      let may : fits (due_of (attempt_ask plan name st.phase).ask) reply ≡ true = subst (λ (x : Asked). fits (due_of x.ask) reply ≡ true) (sym is) fit in
      let goes : Goes w a (past ++ step reply ∷ []) (after_attempt w a st run.spot run.more reply) = driven reply may (own plan name st.phase reply may) in
      let same : after_attempt w a st run.spot run.more reply ≡ after w a st reply = sym (ap (λ t. after_in w a st t reply) turns) in
      subst (λ (x : Asked). Goes w a (past ++ (record { asked = x; answer = Ok reply }) ∷ []) (after w a st reply)) is (subst (Goes w a (past ++ step reply ∷ [])) same goes)

-- ---- a reply to what an attempt that has ended settles

module _ (w : Parts) (a : ℕ) (past : List AttemptStep) (st : State) (at : Settles w a past st) where
  abbrev ask-step : Reply → AttemptStep
  ask-step reply = record { asked = at.first; answer = Ok reply }

  abbrev settled-trial : Reply → Trial
  settled-trial reply = answered at.t (Ok reply)

  -- the outcome, where the put dropped this
  abbrev told : Option Task → Outcome → Outcome
  told dropped (outcomes.Fired waiting other) = outcomes.Fired waiting dropped
  told dropped (outcomes.GaveUp why) = outcomes.GaveUp why

  tried-on : (reply : Reply) → fits (due_of at.first.ask) reply ≡ true → Trying w a (past ++ ask-step reply ∷ []) (settled-trial reply)
  tried-on reply fit = go-on w a past at.t (ending at.t (at.first ∷ at.rest) at.outcome) (Ok reply) at.trying at.state fit

  now-at : (reply : Reply) → state_of (settled-trial reply) ≡ answered_after (ending at.t (at.first ∷ at.rest) at.outcome) (Ok reply)
  now-at reply = now at.t (ending at.t (at.first ∷ at.rest) at.outcome) (Ok reply) at.trying.within at.state

  done-state : state_of (settled-trial replies.Done) ≡ ending (settled-trial replies.Done) at.rest at.outcome
  done-state = now-at replies.Done

  dropped-state : (dropped : Option Task) → state_of (settled-trial (replies.Dropped dropped)) ≡ ending (settled-trial (replies.Dropped dropped)) at.rest (told dropped at.outcome)
  dropped-state dropped = now-at (replies.Dropped dropped) ∙ by at.outcome
    where
      by : (outcome : Outcome) → answered_after (ending at.t (at.first ∷ at.rest) outcome) (Ok (replies.Dropped dropped)) ≡ ending (settled-trial (replies.Dropped dropped)) at.rest (told dropped outcome)
      by (outcomes.Fired waiting other) = refl
      by (outcomes.GaveUp why) = refl

  order-on : (rest : List Asked) → IsOrdered (at.first ∷ rest) → IsOrdered rest
  order-on [] all = tt
  order-on (two ∷ more) all = all.1

  -- a put comes last
  last : (rest : List Asked) → IsOrdered (at.first ∷ rest) → due_of at.first.ask ≡ dues.Put → rest ≡ []
  last [] all is = refl
  last (two ∷ more) all is = absurd (let other = all.0 in cc)

  done : fits (due_of at.first.ask) replies.Done ≡ true → Goes w a (past ++ ask-step replies.Done ∷ []) (settled w st at.rest replies.Done)
  done fit = ends w a (past ++ ask-step replies.Done ∷ []) (record st { hand = at.rest }) (settled-trial replies.Done) at.rest at.outcome (tried-on replies.Done fit) done-state refl (order-on at.rest at.order) at.phase

  dropped : (o : Option Task) → fits (due_of at.first.ask) (replies.Dropped o) ≡ true → at.rest ≡ [] → Goes w a (past ++ ask-step (replies.Dropped o) ∷ []) (settled w st at.rest (replies.Dropped o))
  dropped None fit none = ends w a (past ++ ask-step (replies.Dropped None) ∷ []) (record st { hand = at.rest }) (settled-trial (replies.Dropped None)) at.rest (told None at.outcome) (tried-on (replies.Dropped None) fit) (dropped-state None) refl (order-on at.rest at.order) at.phase
  dropped (Some task) fit none = inl (record {
    all = closed w a (past ++ ask-step (replies.Dropped (Some task)) ∷ []) (settled-trial (replies.Dropped (Some task))) (told (Some task) at.outcome) (tried-on (replies.Dropped (Some task)) fit) (subst (λ (hand : List Asked). state_of (settled-trial (replies.Dropped (Some task))) ≡ ending (settled-trial (replies.Dropped (Some task))) hand (told (Some task) at.outcome)) none (dropped-state (Some task)));
    phase = at.phase;
    hand = subst (λ (hand : List Asked). IsBetween (over_dropped task ∷ hand)) (sym none) refl;
  })

  replied : (reply : Reply) → (due_of at.first.ask ≡ dues.Settled) ⊎ (due_of at.first.ask ≡ dues.Put) → fits (due_of at.first.ask) reply ≡ true → Goes w a (past ++ ask-step reply ∷ []) (settled w st at.rest reply)
  replied reply (inl is) fit =
      let alone : reply ≡ replies.Done = done_alone reply (subst (λ d. fits d reply ≡ true) is fit) in
      subst (λ (r : Reply). Goes w a (past ++ ask-step r ∷ []) (settled w st at.rest r)) (sym alone) (done (subst (λ (r : Reply). fits (due_of at.first.ask) r ≡ true) alone fit))
  replied reply (inr is) fit =
      let alone = dropped_alone reply (subst (λ d. fits d reply ≡ true) is fit) in
      subst (λ (r : Reply). Goes w a (past ++ ask-step r ∷ []) (settled w st at.rest r)) (sym alone.1) (dropped alone.0 (subst (λ (r : Reply). fits (due_of at.first.ask) r ≡ true) alone.1 fit) (last at.rest at.order is))

  due-is : (rest : List Asked) → IsOrdered (at.first ∷ rest) → (due_of at.first.ask ≡ dues.Settled) ⊎ (due_of at.first.ask ≡ dues.Put)
  due-is [] all = all
  due-is (two ∷ more) all = inl all.0

  turns-so : turn st ≡ settle at.first at.rest
  turns-so = rw at.hand refl

  pub settles_go : (one : Asked) (reply : Reply) → asked w a st ≡ Some one → fits (due_of one.ask) reply ≡ true → Goes w a (past ++ (record { asked = one; answer = Ok reply }) ∷ []) (after w a st reply)
  settles_go one reply asks fit =
      let is : at.first ≡ one = same_Some _ _ (sym (ap (ask_in w a st) turns-so) ∙ asks) in
      let may : fits (due_of at.first.ask) reply ≡ true = subst (λ (x : Asked). fits (due_of x.ask) reply ≡ true) (sym is) fit in
      let goes : Goes w a (past ++ ask-step reply ∷ []) (settled w st at.rest reply) = replied reply (due-is at.rest at.order) may in
      let same : settled w st at.rest reply ≡ after w a st reply = sym (ap (λ t. after_in w a st t reply) turns-so) in
      subst (λ (x : Asked). Goes w a (past ++ (record { asked = x; answer = Ok reply }) ∷ []) (after w a st reply)) is (subst (Goes w a (past ++ ask-step reply ∷ [])) same goes)
