-- What an actor does between attempts: one step that belongs to none, or the first of an attempt.
use Rattle.std.proofs.Common.{◌≡◌, inl, inr, ℕ, ◌+◌, ◌^◌, Bool, true, false, List, [], ◌∷◌, ◌++◌, length, Some, None, Ok, refl, sym, ap, subst, arith, ◌∙◌, append-nil}
use Rattle.std.proofs.lemmas.Option.{same_Some}
use Rattle.std.specs.Prelude.{nat_lt, if◌then◌else◌}
use Rattle.ccr_base.specs.declared.messages.Sent.{Sent}
use Rattle.ccr_base.specs.declared.names.Spot.{Spot}
use Rattle.ccr_base.specs.declared.tasks.Task.{Task}
use Rattle.ccr_handler.specs.declared.segments.Play.{Play}
use Rattle.ccr_handler.specs.declared.segments.PlayEnd.{PlayEnd}
use Rattle.ccr_handler.specs.declared.segments.PlayEnd.TheVariants as plays
use Rattle.ccr_wiring.specs.declared.parts.Parts.{Parts}
use Rattle.ccr_claim.specs.declared.asks.Asked.{Asked}
use Rattle.ccr_claim.specs.declared.asks.Due.TheVariants as dues
use Rattle.ccr_claim.specs.declared.asks.Reply.{Reply}
use Rattle.ccr_claim.specs.declared.asks.Reply.TheVariants as replies
use Rattle.ccr_claim.specs.declared.outcomes.Outcome.TheVariants as outcomes
use Rattle.ccr_claim.specs.declared.outcomes.Why.TheVariants as whys
use Rattle.ccr_claim.specs.Asks.{due_of, fits}
use Rattle.ccr_claim.specs.Attempts.{Phase, booking, release, out_of_memory}
use Rattle.ccr_claim.specs.Lines.{line_ask}
use Rattle.ccr_claim.specs.Settling.{AttemptStep}
use Rattle.ccr_actor.specs.Plans.{plan_of}
use Rattle.ccr_actor.specs.Actors.{State, Work, lines, round, taking, playing, posting, shedding, resting, Turn, settle, admit, go_on, stop, turn, turn_of, spots_left, name_at, asked, ask_in, work_ask, play_ask, end_ask, settled, after_admit, after_in, after, shorten}
use Rattle.ccr_actor.proofs.StepsOfAttempts.{none-owed}
use Rattle.ccr_net.proofs.Owed.WorkKeepsStates.{worked}
use Rattle.ccr_rests.specs.Trials.{Trial, between, is_of_attempt}
use Rattle.ccr_rests.proofs.Answering.{state_lacking, steps_lacking, may_lacking}
use Rattle.ccr_rests.proofs.Hands.{IsBetween, release_ordered}
use Rattle.ccr_rests.proofs.AttemptsMoveOn.{and, Idle, Runs, Goes, ends, runs_go, settles_go}

-- ---- what the work asks

end-ask : (task : Task) (play : Play) (how : PlayEnd) → is_of_attempt (end_ask task play how).ask ≡ false
end-ask task play plays.Done = refl
end-ask task play (plays.Failed value) = refl
end-ask task play (plays.Yield site) = refl

play-ask : (task : Task) (play : Play) (posts : List Sent) → is_of_attempt (play_ask task play posts).ask ≡ false
play-ask task play [] = end-ask task play play.end
play-ask task play (sent ∷ posts) = refl

line-ask : (actor index : ℕ) (sents : List Sent) → is_of_attempt (line_ask actor index sents).ask ≡ false
line-ask actor index [] = refl
line-ask actor index (sent ∷ sents) = refl

work-asks : (actor : ℕ) (work : Work) (one : Asked) → work_ask actor work ≡ Some one → is_of_attempt one.ask ≡ false
work-asks actor work one is = by work is
  where
    told : (x : Asked) → Some x ≡ Some one → is_of_attempt x.ask ≡ false → is_of_attempt one.ask ≡ false
    told x same apart = subst (λ (y : Asked). is_of_attempt y.ask ≡ false) (same_Some _ _ same) apart

    by : (work : Work) → work_ask actor work ≡ Some one → is_of_attempt one.ask ≡ false
    by (lines index sents) now = told (line_ask actor index sents) now (line-ask actor index sents)
    by round now = told _ now refl
    by (taking left queue more) now = told _ now refl
    by (playing task index play) now = told (play_ask task play play.posts) now (play-ask task play play.posts)
    by (posting task index play sent) now = told _ now refl
    by (shedding task) now = told _ now refl
    by resting now = cc now

-- ---- what an admission leaves, and what is settled between attempts

admitted-aside : (st : State) (more : List ℕ) (reply : Reply) → st.hand ≡ [] → IsBetween (after_admit st more reply).hand × ((after_admit st more reply).phase ≡ st.phase)
admitted-aside st more (replies.Admitted (Some task)) none = (refl, refl)
admitted-aside st more (replies.Admitted None) none = (subst IsBetween (sym none) tt, refl)
admitted-aside st more replies.Done none = (subst IsBetween (sym none) tt, refl)
admitted-aside st more (replies.Got m) none = (subst IsBetween (sym none) tt, refl)
admitted-aside st more (replies.Busy t) none = (subst IsBetween (sym none) tt, refl)
admitted-aside st more (replies.Short n) none = (subst IsBetween (sym none) tt, refl)
admitted-aside st more (replies.Fired t cuts) none = (subst IsBetween (sym none) tt, refl)
admitted-aside st more (replies.Dead by) none = (subst IsBetween (sym none) tt, refl)
admitted-aside st more replies.Booked none = (subst IsBetween (sym none) tt, refl)
admitted-aside st more (replies.Full n) none = (subst IsBetween (sym none) tt, refl)
admitted-aside st more (replies.Dropped t) none = (subst IsBetween (sym none) tt, refl)
admitted-aside st more (replies.Taken t) none = (subst IsBetween (sym none) tt, refl)
admitted-aside st more (replies.Drawn n) none = (subst IsBetween (sym none) tt, refl)
admitted-aside st more replies.Spent none = (subst IsBetween (sym none) tt, refl)
admitted-aside st more (replies.Left n) none = (subst IsBetween (sym none) tt, refl)

settled-aside : (w : Parts) (st : State) (reply : Reply) → IsBetween (settled w st [] reply).hand × ((settled w st [] reply).phase ≡ st.phase)
settled-aside w st (replies.Dropped (Some task)) = (refl, refl)
settled-aside w st (replies.Dropped None) = (tt, refl)
settled-aside w st replies.Done = (tt, refl)
settled-aside w st (replies.Got m) = (tt, refl)
settled-aside w st (replies.Busy t) = (tt, refl)
settled-aside w st (replies.Short n) = (tt, refl)
settled-aside w st (replies.Fired t cuts) = (tt, refl)
settled-aside w st (replies.Dead by) = (tt, refl)
settled-aside w st (replies.Admitted t) = (tt, refl)
settled-aside w st replies.Booked = (tt, refl)
settled-aside w st (replies.Full n) = (tt, refl)
settled-aside w st (replies.Taken t) = (tt, refl)
settled-aside w st (replies.Drawn n) = (tt, refl)
settled-aside w st replies.Spent = (tt, refl)
settled-aside w st (replies.Left n) = (tt, refl)

-- ---- a step between attempts

-- the attempts at a spot are driven while numbers are left
driven-so : (b : Bool) (spots : List Spot) (spot : Spot) (more : List Spot) → (if b then spots else []) ≡ spot ∷ more → (b ≡ true) × (spots ≡ spot ∷ more)
driven-so true spots spot more is = (refl, is)
driven-so false spots spot more is = cc is

module _ (w : Parts) (a : ℕ) (past : List AttemptStep) (st : State) (idle : Idle w a past st) (one : Asked) (reply : Reply) (asks : asked w a st ≡ Some one) (fit : fits (due_of one.ask) reply ≡ true) where
  abbrev Goal : Type 0
  Goal = Goes w a (past ++ (record { asked = one; answer = Ok reply }) ∷ []) (after w a st reply)

  -- the ask of this turn
  asks-in : (t : Turn) → turn st ≡ t → ask_in w a st t ≡ Some one
  asks-in t is = sym (ap (ask_in w a st) is) ∙ asks

  -- a step that belongs to no attempt, which leaves this state
  aside : (t : Turn) → turn st ≡ t → is_of_attempt one.ask ≡ false → IsBetween (after_in w a st t reply).hand → (after_in w a st t reply).phase ≡ st.phase → Goal
  aside t is apart hand phase =
      let same : after_in w a st t reply ≡ after w a st reply = sym (ap (λ u. after_in w a st u reply) is) in
      subst (Goes w a (past ++ (record { asked = one; answer = Ok reply }) ∷ [])) same (inl (record {
        all = and w a past (between (record { asked = one; answer = Ok reply })) idle.all apart;
        phase = phase ∙ idle.phase;
        hand = hand;
      }))

  -- something is in hand
  settles : (x : Asked) (rest : List Asked) → st.hand ≡ x ∷ rest → Goal
  settles x (two ∷ more) is = absurd (subst IsBetween is idle.hand)
  settles x [] is =
      let turns : turn st ≡ settle x [] = rw is refl in
      let facts = settled-aside w st reply in
      let apart : is_of_attempt one.ask ≡ false = subst (λ (y : Asked). is_of_attempt y.ask ≡ false) (same_Some _ _ (asks-in (settle x []) turns)) (subst IsBetween is idle.hand) in
      aside (settle x []) turns apart facts.0 facts.1

  -- the first step of an attempt
  begins : (spot : Spot) (more : List Spot) → st.is_short ≡ false → st.hand ≡ [] → st.domains ≡ [] → spots_left st ≡ spot ∷ more → Goal
  begins spot more long none free spots =
      let parts = driven-so (nat_lt st.attempt (2 ^ 32)) st.spots spot more spots in
      runs_go w a past st (record {
        spot = spot;
        more = more;
        answers = [];
        trying = record { before = past; earlier = idle.all; are = sym (append-nil past); own = (refl, spot, refl); within = tt; may = tt };
        state = ap (λ (p : Phase). record { plan = plan_of w spot; task = name_at a st; hand = []; phase = p; ended = None; due = dues.Nothing }) (sym idle.phase);
        hand = none;
        domains = free;
        spots = parts.1;
        low = parts.0;
        long = long;
      }) one reply asks fit

  step-in : (short : Bool) (hand : List Asked) (domains : List ℕ) (spots : List Spot) → st.is_short ≡ short → st.hand ≡ hand → st.domains ≡ domains → spots_left st ≡ spots → Goal
  step-in short (x ∷ rest) domains spots is own at left = settles x rest own
  step-in true [] domains spots is own at left = absurd (let none : None ≡ Some one = asks-in stop (rw (is, own) refl) in cc)
  step-in false [] (domain ∷ more) spots is own at left =
      let turns : turn st ≡ admit domain more = rw (is, own, at) refl in
      let facts = admitted-aside st more reply own in
      let apart : is_of_attempt one.ask ≡ false = subst (λ (y : Asked). is_of_attempt y.ask ≡ false) (same_Some _ _ (asks-in (admit domain more) turns)) refl in
      aside (admit domain more) turns apart facts.0 facts.1
  step-in false [] [] (spot ∷ more) is own at left = begins spot more is own at left
  step-in false [] [] [] is own at left =
      let turns : turn st ≡ go_on = ap (turn_of st.is_short st.hand st.domains) left ∙ rw (is, own, at) refl in
      let facts = worked w st st.work refl reply in
      let apart : is_of_attempt one.ask ≡ false = work-asks a st.work one (asks-in go_on turns) in
      aside go_on turns apart (subst IsBetween (sym (facts.hand ∙ own)) tt) facts.phase

  pub idle_goes : Goal
  idle_goes = step-in st.is_short st.hand st.domains (spots_left st) refl refl refl refl

-- ---- one step, and running out of memory

pub goes_on : (w : Parts) (a : ℕ) (past : List AttemptStep) (st : State) (one : Asked) (reply : Reply) → Goes w a past st → asked w a st ≡ Some one → fits (due_of one.ask) reply ≡ true → Goes w a (past ++ (record { asked = one; answer = Ok reply }) ∷ []) (after w a st reply)
goes_on w a past st one reply (inl idle) asks fit = idle_goes w a past st idle one reply asks fit
goes_on w a past st one reply (inr (inl run)) asks fit = runs_go w a past st run one reply asks fit
goes_on w a past st one reply (inr (inr at)) asks fit = settles_go w a past st at one reply asks fit

same-hand : (w : Parts) (a : ℕ) (st : State) → st.phase ≡ booking → (shorten w a st).hand ≡ st.hand
same-hand w a st is = ap (λ back. st.hand ++ back) (none-owed w a st st.spots is) ∙ append-nil st.hand

short-runs : (w : Parts) (a : ℕ) (past : List AttemptStep) (st : State) → Runs w a past st → Goes w a past (shorten w a st)
short-runs w a past st run = ends w a past (shorten w a st) lacking (release (plan_of w run.spot) (name_at a st) st.phase) (outcomes.GaveUp whys.Memory)
    (record {
      before = run.trying.before;
      earlier = run.trying.earlier;
      are = run.trying.are ∙ ap (λ steps. run.trying.before ++ steps) (sym (steps_lacking (plan_of w run.spot) (name_at a st) run.answers));
      own = run.trying.own;
      within = omega arith;
      may = may_lacking (plan_of w run.spot) (name_at a st) run.answers run.trying.may;
    })
    (state_lacking (plan_of w run.spot) (name_at a st) run.answers ∙ ap out_of_memory run.state)
    (rw (run.hand, run.spots) refl)
    (release_ordered (plan_of w run.spot) (name_at a st) st.phase)
    refl
  where
    lacking : Trial
    lacking = record { plan = plan_of w run.spot; task = name_at a st; lack = Some (length run.answers); answers = run.answers }

pub goes_short : (w : Parts) (a : ℕ) (past : List AttemptStep) (st : State) → Goes w a past st → Goes w a past (shorten w a st)
goes_short w a past st (inl idle) = inl (record { all = idle.all; phase = refl; hand = subst IsBetween (sym (same-hand w a st idle.phase)) idle.hand })
goes_short w a past st (inr (inl run)) = short-runs w a past st run
goes_short w a past st (inr (inr at)) = inr (inr (record {
  t = at.t;
  first = at.first;
  rest = at.rest;
  outcome = at.outcome;
  trying = at.trying;
  state = at.state;
  hand = same-hand w a st at.phase ∙ at.hand;
  order = at.order;
  phase = refl;
}))
