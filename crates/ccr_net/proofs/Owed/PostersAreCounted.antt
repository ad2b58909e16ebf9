-- The posters that have left and those that haven't are no more than all posters.
use Rattle.std.proofs.Common.{inl, inr, ◌⊎◌, ◌≡◌, ◌≢◌, ◌≤◌, ◌<◌, ℕ, zero, suc, ◌+◌, Bool, true, false, List, [], ◌∷◌, ◌++◌, length, Option, Some, None, refl, sym, arith, ap, ◌∙◌, subst}
use Rattle.std.specs.Prelude.{◌==◌, if◌then◌else◌}
use Rattle.ccr_base.specs.declared.messages.Sent.{Sent}
use Rattle.ccr_base.specs.declared.names.Place.{Place}
use Rattle.ccr_base.specs.declared.names.Place.TheVariants as places
use Rattle.ccr_handler.specs.declared.segments.PlayEnd.{PlayEnd}
use Rattle.ccr_handler.specs.declared.segments.PlayEnd.TheVariants as plays
use Rattle.ccr_wiring.specs.declared.parts.Parts.{Parts}
use Rattle.ccr_base.proofs.Booleans.{same_number, eq-self, differ}
use Rattle.ccr_base.proofs.Options.{some-below}
use Rattle.ccr_model.proofs.Members.{Among}
use Rattle.ccr_places.specs.declared.notes.Note.{Note}
use Rattle.ccr_places.specs.declared.notes.Note.TheVariants as notes
use Rattle.ccr_places.specs.Meters.{MeterState}
use Rattle.ccr_places.specs.Meters as meters
use Rattle.ccr_claim.specs.declared.asks.Ask.{Ask}
use Rattle.ccr_claim.specs.declared.asks.Ask.TheVariants as asks
use Rattle.ccr_claim.specs.declared.asks.Asked.{Asked}
use Rattle.ccr_claim.specs.Attempts.{Phase, booking, claiming, attempt_ask}
use Rattle.ccr_actor.specs.Plans.{plan_of}
use Rattle.ccr_actor.specs.Actors.{State, Work, lines, round, taking, playing, posting, shedding, resting, after, after_work, name_at, work_ask, play_ask, end_ask}
use Rattle.ccr_runs.specs.declared.entries.Entry.{Entry}
use Rattle.ccr_runs.specs.Places.{meter_note}
use Rattle.ccr_runs.specs.EntryRuns.{Lacks, state_of, same_place, reply_of}
use Rattle.ccr_runs.specs.Visible.{visible}
use Rattle.ccr_net.proofs.Parts.OneMoreEntry.{Step, state_of-own, state_of-other}
use Rattle.ccr_net.proofs.Parts.PortsAndHandsMatch.{IsOwed}
use Rattle.ccr_net.proofs.Parts.MeterMatches.{bit, count, count-one, count-same}
use Rattle.ccr_net.proofs.Parts.WorkMatches.{WorkMatches}
use Rattle.ccr_net.proofs.Kept.WholeInvariant.{Holds, works_of, meter_at, meter_at-push, next_work}
use Rattle.ccr_net.proofs.Owed.WorkKeepsStates.{is_scripted, LeavesBy, worked}
use Rattle.ccr_net.proofs.Owed.EntriesAreMoves.{Move, settles, drops, admits, strikes, books, claims, fires, gives_up, goes, moved}
use Rattle.ccr_net.proofs.Parts.NotesAnswerAsks.{Given}
use Rattle.ccr_net.proofs.Played.PlacesByNumber.{same_place-is}

abbrev pub scripted : Parts → Lacks → List Entry → ℕ → Bool
scripted w lacks es a = is_scripted (works_of w lacks es a)

abbrev pub FewLeft : Parts → Lacks → List Entry → Type 0
FewLeft w lacks es = (meter_at w es).left + count (length w.posters) (scripted w lacks es) ≤ length w.posters

pub count-le : (n : ℕ) (f : ℕ → Bool) → count n f ≤ n
count-le zero f = omega arith
count-le (suc n) f = by (f n) (count-le n f)
  where
    by : (b : Bool) → count n f ≤ n → count n f + bit b ≤ suc n
    by true le = omega (arith, le)
    by false le = omega (arith, le)

-- ---- who leaves

abbrev is_leave : Ask → Bool
is_leave asks.Leave = true
is_leave _ = false

meter_stays : (m : MeterState) (ask : Ask) (note : Note) → meter_note m ask ≡ Some note → is_leave ask ≡ false → (meters.after m note).left ≡ m.left
meter_stays m asks.Draw note gives is = ap (λ x. (meters.after m x).left) noted ∙ by (meters.draw_note m)
  where
    noted : note ≡ notes.Draw (meters.draw_note m)
    noted = cc

    by : (o : Option ℕ) → (meters.after_draw m o).left ≡ m.left
    by None = refl
    by (Some k) = refl
meter_stays m asks.Left note gives is = ap (λ x. (meters.after m x).left) noted
  where
    noted : note ≡ notes.Left m.left
    noted = cc
meter_stays m asks.Leave note gives is = absurd (cc)
meter_stays m (asks.Post x) note gives is = absurd (cc)
meter_stays m (asks.Claim t s) note gives is = absurd (cc)
meter_stays m (asks.Consume t) note gives is = absurd (cc)
meter_stays m (asks.Free t) note gives is = absurd (cc)
meter_stays m (asks.Commit t ms) note gives is = absurd (cc)
meter_stays m asks.Admit note gives is = absurd (cc)
meter_stays m (asks.Over t r how) note gives is = absurd (cc)
meter_stays m (asks.Suspend t) note gives is = absurd (cc)
meter_stays m (asks.Book t r) note gives is = absurd (cc)
meter_stays m (asks.Unbook t) note gives is = absurd (cc)
meter_stays m (asks.Put t) note gives is = absurd (cc)
meter_stays m asks.Take note gives is = absurd (cc)

left_same : (w : Parts) (es : List Entry) (e : Entry) (x : Asked) → Given w es e x → is_leave x.ask ≡ false → (meter_at w (es ++ e ∷ [])).left ≡ (meter_at w es).left
left_same w es e x given none = by (same_place x.place places.Meter) refl
  where
    now_at : Bool → MeterState
    now_at c = if c then meters.after (meter_at w es) e.note else meter_at w es

    changes : meter_at w (es ++ e ∷ []) ≡ now_at (same_place x.place places.Meter)
    changes = meter_at-push w es e ∙ ap (λ pl. now_at (same_place pl places.Meter)) given.there

    by : (b : Bool) → same_place x.place places.Meter ≡ b → (meter_at w (es ++ e ∷ [])).left ≡ (meter_at w es).left
    by false at = ap (λ (m : MeterState). m.left) (changes ∙ ap now_at at)
    by true at = ap (λ (m : MeterState). m.left) (changes ∙ ap now_at at) ∙ meter_stays (meter_at w es) x.ask e.note noted none
      where
        noted : meter_note (meter_at w es) x.ask ≡ Some e.note
        noted = rw (same_place-is x.place places.Meter at) at given.gives

left_more : (w : Parts) (es : List Entry) (e : Entry) → (meter_at w (es ++ e ∷ [])).left ≤ (meter_at w es).left + 1
left_more w es e = by (same_place e.place places.Meter) (ap (λ (m : MeterState). m.left) (meter_at-push w es e))
  where
    of_note : (m : MeterState) (note : Note) → (meters.after m note).left ≤ m.left + 1
    of_note m (notes.Draw None) = omega arith
    of_note m (notes.Draw (Some k)) = omega arith
    of_note m notes.Leave = omega arith
    of_note m (notes.Left k) = omega arith
    of_note m (notes.Post x) = omega arith
    of_note m (notes.Claim t s r) = omega arith
    of_note m (notes.Consume t) = omega arith
    of_note m (notes.Free t) = omega arith
    of_note m (notes.Fired t s ms cs) = omega arith
    of_note m (notes.Dead t s by') = omega arith
    of_note m (notes.Admit t) = omega arith
    of_note m (notes.Over t r how) = omega arith
    of_note m (notes.Suspend t) = omega arith
    of_note m (notes.Book t r f) = omega arith
    of_note m (notes.Unbook t) = omega arith
    of_note m (notes.Put t d) = omega arith
    of_note m (notes.Take t) = omega arith

    by : (b : Bool) → (meter_at w (es ++ e ∷ [])).left ≡ (if b then meters.after (meter_at w es) e.note else meter_at w es).left → (meter_at w (es ++ e ∷ [])).left ≤ (meter_at w es).left + 1
    by true is = let le = of_note (meter_at w es) e.note in omega (arith, is, le)
    by false is = omega (arith, is)

-- work that ends a script leaves, and no other does
abbrev Leaves : Work → Asked → Type 0
Leaves wk x = ((index : ℕ) × (wk ≡ lines index [])) ⊎ (is_leave x.ask ≡ false)

some_leave : (wk : Work) (y x : Asked) → Some y ≡ Some x → is_leave y.ask ≡ false → Leaves wk x
some_leave wk y x is none = inr (ap (λ (z : Asked). is_leave z.ask) (sym same) ∙ none)
  where
    same : y ≡ x
    same = cc

work_leaves : (a : ℕ) (wk : Work) (x : Asked) → work_ask a wk ≡ Some x → Leaves wk x
work_leaves a (lines index []) x is = inl (index, refl)
work_leaves a (lines index (sent ∷ sents)) x is = some_leave _ _ x is refl
work_leaves a round x is = some_leave _ _ x is refl
work_leaves a (taking left queue more) x is = some_leave _ _ x is refl
work_leaves a (playing task index play) x is = by_posts play.posts is
  where
    by_end : (end : PlayEnd) → is_leave (end_ask task play end).ask ≡ false
    by_end plays.Done = refl
    by_end (plays.Failed value) = refl
    by_end (plays.Yield site) = refl

    by_posts : (ps : List Sent) → Some (play_ask task play ps) ≡ Some x → Leaves (playing task index play) x
    by_posts [] now = some_leave _ _ x now (by_end play.end)
    by_posts (sent ∷ ps) now = some_leave _ _ x now refl
work_leaves a (posting task index play sent) x is = some_leave _ _ x is refl
work_leaves a (shedding task) x is = some_leave _ _ x is refl
work_leaves a resting x is = absurd (cc)

hand_leaves : (w : Parts) (a bound : ℕ) (es : List Entry) (place : Place) (ask : Ask) → IsOwed w (visible es) a bound place ask → is_leave ask ≡ false
hand_leaves w a bound es place asks.Leave owed = absurd owed
hand_leaves w a bound es place (asks.Post x) owed = refl
hand_leaves w a bound es place (asks.Claim t s) owed = refl
hand_leaves w a bound es place (asks.Consume t) owed = refl
hand_leaves w a bound es place (asks.Free t) owed = refl
hand_leaves w a bound es place (asks.Commit t ms) owed = refl
hand_leaves w a bound es place asks.Admit owed = refl
hand_leaves w a bound es place (asks.Over t r how) owed = refl
hand_leaves w a bound es place (asks.Suspend t) owed = refl
hand_leaves w a bound es place (asks.Book t r) owed = refl
hand_leaves w a bound es place (asks.Unbook t) owed = refl
hand_leaves w a bound es place (asks.Put t) owed = refl
hand_leaves w a bound es place asks.Take owed = refl
hand_leaves w a bound es place asks.Draw owed = refl
hand_leaves w a bound es place asks.Left owed = refl

-- ---- one entry

module _ (w : Parts) (n : ℕ) (lacks : Lacks) (es : List Entry) (e : Entry) (step : Step w lacks es e) (holds : Holds w n lacks es) where
  abbrev st : State
  st = state_of w lacks es e.actor

  abbrev Changes : State → Type 0
  Changes next = ((is_scripted next.work ≡ is_scripted st.work) × ((meter_at w (es ++ e ∷ [])).left ≡ (meter_at w es).left)) ⊎ ((index : ℕ) × (st.work ≡ lines index []) × (is_scripted next.work ≡ false))

  changes_on : (next : State) → Move w es e st next → Changes next
  changes_on next (settles x more hand given is) = inl (ap (λ (s : State). is_scripted s.work) is, left_same w es e x given (hand_leaves w e.actor st.attempt es x.place x.ask ((holds.actors e.actor).claims.owed x (subst (Among x) (sym hand) (inl refl)))))
  changes_on next (drops x more t d hand given note is) = inl (ap (λ (s : State). is_scripted s.work) is, left_same w es e x given (hand_leaves w e.actor st.attempt es x.place x.ask ((holds.actors e.actor).claims.owed x (subst (Among x) (sym hand) (inl refl)))))
  changes_on next (admits i more t hand numbers given note is) = inl (ap (λ (s : State). is_scripted s.work) is, left_same w es e _ given refl)
  changes_on next (strikes i more hand numbers given is) = inl (ap (λ (s : State). is_scripted s.work) is, left_same w es e _ given refl)
  changes_on next (books spot more hand spots phase given note is) = inl (ap (λ (s : State). is_scripted s.work) is, left_same w es e _ given refl)
  changes_on next (claims spot more slot slots had j hand spots phase given free note is) = inl (ap (λ (s : State). is_scripted s.work) is, left_same w es e _ given refl)
  changes_on next (fires spot more had cs hand spots phase given note is) = inl (ap (λ (s : State). is_scripted s.work) is, left_same w es e _ given refl)
  changes_on next (gives_up spot more hand spots given quiet is) = inl (ap (λ (s : State). is_scripted s.work) is, left_same w es e _ given (by st.phase))
    where
      by : (ph : Phase) → is_leave (attempt_ask (plan_of w spot) (name_at e.actor st) ph).ask ≡ false
      by booking = refl
      by (claiming [] had) = refl
      by (claiming (slot ∷ slots) had) = refl
  changes_on next (goes x turns asks given is) = by (work_leaves e.actor st.work x asks) (worked w st st.work refl (reply_of w es e)).leaves
    where
      here : is_scripted next.work ≡ is_scripted (after_work w st st.work (reply_of w es e)).work
      here = ap (λ (s : State). is_scripted s.work) is

      by : Leaves st.work x → LeavesBy st.work (after_work w st st.work (reply_of w es e)).work → Changes next
      by (inl leaving) any = inr (leaving.0, leaving.1, here ∙ ap (λ wk. is_scripted (after_work w st wk (reply_of w es e)).work) leaving.1)
      by (inr none) (inl stays) = inl (here ∙ stays, left_same w es e x given none)
      by (inr none) (inr leaves) = inr (leaves.0, leaves.1, here ∙ leaves.2)

  pub few_left-kept : FewLeft w lacks es → FewLeft w lacks (es ++ e ∷ [])
  few_left-kept few = by (changes_on (after w e.actor st (reply_of w es e)) (moved w lacks es e step))
    where
      old : ℕ → Bool
      old = scripted w lacks es

      new : ℕ → Bool
      new = scripted w lacks (es ++ e ∷ [])

      own : new e.actor ≡ is_scripted (after w e.actor st (reply_of w es e)).work
      own = ap is_scripted (next_work w e.actor st (state_of w lacks (es ++ e ∷ []) e.actor) (reply_of w es e) (state_of-own w lacks es e e.actor (eq-self e.actor)))

      others : (b : ℕ) → e.actor ≢ b → new b ≡ old b
      others b other = of_test (e.actor == b) refl
        where
          of_test : (c : Bool) → (e.actor == b) ≡ c → new b ≡ old b
          of_test true is = absurd (other (same_number e.actor b is))
          of_test false is = ap (λ (s : State). is_scripted s.work) (state_of-other w lacks es e b is)

      all_same : new e.actor ≡ old e.actor → count (length w.posters) new ≡ count (length w.posters) old
      all_same mine = count-same (length w.posters) new old (λ b low. of_test b (e.actor == b) refl)
        where
          of_test : (b : ℕ) (c : Bool) → (e.actor == b) ≡ c → new b ≡ old b
          of_test b true is = subst (λ a. new a ≡ old a) (same_number e.actor b is) mine
          of_test b false is = others b (differ e.actor b is)

      poster : (index : ℕ) → st.work ≡ lines index [] → e.actor < length w.posters
      poster index is = of_script (rw is at (holds.actors e.actor).work)
        where
          of_script : WorkMatches w (visible es) e.actor (lines index []) → e.actor < length w.posters
          of_script match = some-below w.posters e.actor match.poster match.is_poster

      by : Changes (after w e.actor st (reply_of w es e)) → FewLeft w lacks (es ++ e ∷ [])
      by (inl stays) = let same = all_same (own ∙ stays.0) in let left = stays.1 in omega (arith, few, same, left)
      by (inr leaves) =
          let low = poster leaves.0 leaves.1 in
          let one = count-one (length w.posters) e.actor old new low (λ b other. others b other) in
          let was : bit (old e.actor) ≡ 1 = ap (λ wk. bit (is_scripted wk)) leaves.1 in
          let is : bit (new e.actor) ≡ 0 = ap bit (own ∙ leaves.2) in
          let more = left_more w es e in
          omega (arith, few, one, was, is, more)
