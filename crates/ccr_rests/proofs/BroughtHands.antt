-- What brought each put and each end of a booking into an actor's hand.
use Rattle.std.proofs.Common.{inl, inr, ◌⊎◌, ◌≡◌, ◌≤◌, ◌<◌, ℕ, ◌+◌, Bool, true, false, ◌&&◌, ◌||◌, List, [], ◌∷◌, ◌++◌, map, reverse, Some, None, refl, sym, arith, ap, ◌∙◌, subst}
use Rattle.std.specs.Prelude.{◌==◌, if◌then◌else◌}
use Rattle.std.proofs.lemmas.List.Folds.{list_any-append}
use Rattle.ccr_base.specs.declared.names.MsgId.{MsgId}
use Rattle.ccr_base.specs.declared.names.Spot.{Spot}
use Rattle.ccr_base.specs.declared.names.TaskId.{TaskId}
use Rattle.ccr_base.specs.declared.tasks.Cut.{Cut}
use Rattle.ccr_base.specs.Names.{same_task, has_task}
use Rattle.ccr_wiring.specs.declared.parts.Parts.{Parts}
use Rattle.ccr_model.specs.Firings.{fired}
use Rattle.ccr_base.proofs.Booleans.{eq-self, no_both, or_left, or_right, refuted, same_number}
use Rattle.ccr_model.proofs.Members.{Among, both_among}
use Rattle.ccr_model.proofs.TaskLists.{made_names}
use Rattle.ccr_base.proofs.SameNames.{same_task-self}
use Rattle.ccr_places.specs.declared.notes.Note.{Note}
use Rattle.ccr_places.specs.declared.notes.Note.TheVariants as notes
use Rattle.ccr_places.specs.NotedTasks.{noted_cut, noted_admitted}
use Rattle.ccr_claim.specs.declared.asks.Ask.{Ask}
use Rattle.ccr_claim.specs.declared.asks.Ask.TheVariants as asks
use Rattle.ccr_claim.specs.declared.asks.Asked.{Asked}
use Rattle.ccr_claim.specs.declared.plan.ClaimPlan.{ClaimPlan}
use Rattle.ccr_claim.specs.Attempts.{Phase, booking, claiming, consume_ask, cut_ask, free_ask, over_dropped, put_asks, release, unbook_ask}
use Rattle.ccr_actor.specs.Plans.{plan_of}
use Rattle.ccr_actor.specs.Actors.{State, after, after_work, in_attempt, name_at}
use Rattle.ccr_runs.specs.declared.entries.Entry.{Entry}
use Rattle.ccr_runs.specs.EntryRuns.{Lacks, reply_of, state_of, waits}
use Rattle.ccr_runs.specs.Views.{cut_view, view}
use Rattle.ccr_runs.specs.Visible.{visible}
use Rattle.ccr_net.proofs.Parts.StepsKeepActors.{unfired}
use Rattle.ccr_net.proofs.Kept.WholeInvariant.{Holds}
use Rattle.ccr_net.proofs.Owed.WorkKeepsStates.{Worked, worked}
use Rattle.ccr_net.proofs.Owed.EntriesAreMoves.{Move, settles, drops, admits, strikes, books, claims, fires, gives_up, goes, handed, moved}
use Rattle.ccr_net.proofs.Parts.OneMoreEntry.{IsNextState, Step, state_of-own, state_of-other}
use Rattle.ccr_rests.specs.Ends.{has_told}
use Rattle.ccr_rests.proofs.Fires.{IsFiring, fire_counts, fired_then}
use Rattle.ccr_rests.proofs.Rising.{Rises, fires_itself, rises_next}

-- ---- what entries of an actor told

pub told-push : (names : Note → List TaskId) (a : ℕ) (t : TaskId) (es : List Entry) (e : Entry) → has_told names a t (es ++ e ∷ []) ≡ has_told names a t es || ((e.actor == a) && has_task (names e.note) t || false)
told-push names a t es e = list_any-append (λ (x : Entry). (x.actor == a) && has_task (names x.note) t) es (e ∷ [])

pub told_still : (names : Note → List TaskId) (a : ℕ) (t : TaskId) (es : List Entry) (e : Entry) → has_told names a t es ≡ true → has_told names a t (es ++ e ∷ []) ≡ true
told_still names a t es e is = told-push names a t es e ∙ or_left (has_told names a t es) ((e.actor == a) && has_task (names e.note) t || false) is

pub told_now : (names : Note → List TaskId) (t : TaskId) (es : List Entry) (e : Entry) → has_task (names e.note) t ≡ true → has_told names e.actor t (es ++ e ∷ []) ≡ true
told_now names t es e is = told-push names e.actor t es e ∙ or_right (has_told names e.actor t es) ((e.actor == e.actor) && has_task (names e.note) t || false) ((λ i. eq-self e.actor i && is i || false))

-- ---- the asks in hand

-- a put: of the actor's own attempt, or of a task that it admitted; an end of a booking: of an attempt of its own that never fired, or of a task that it cut
abbrev pub IsBrought : List Entry → ℕ → ℕ → Ask → Type 0
IsBrought es a bound (asks.Put task) = (a ≡ task.id.actor) ⊎ (has_told noted_admitted a task.id es ≡ true)
IsBrought es a bound (asks.Unbook t) = ((a ≡ t.actor) × (t.attempt < bound) × (has_task (fired (visible es)) t ≡ false)) ⊎ (has_told noted_cut a t es ≡ true)
IsBrought es a bound _ = Unit {0}

abbrev pub AreBrought : List Entry → ℕ → ℕ → List Asked → Type 0
AreBrought es a bound xs = (x : Asked) → Among x xs → IsBrought es a bound x.ask

-- of all actors
abbrev pub HandsBrought : Parts → Lacks → List Entry → Type 0
HandsBrought w lacks es = (a : ℕ) → AreBrought es a (state_of w lacks es a).attempt (state_of w lacks es a).hand

both_brought : (es : List Entry) (a bound : ℕ) (xs ys : List Asked) → AreBrought es a bound xs → AreBrought es a bound ys → AreBrought es a bound (xs ++ ys)
both_brought es a bound = both_among (λ (x : Asked). IsBrought es a bound x.ask)

one_brought : (es : List Entry) (a bound : ℕ) (y : Asked) → IsBrought es a bound y.ask → AreBrought es a bound (y ∷ [])
one_brought es a bound y is x (inl same) = subst (λ (z : Asked). IsBrought es a bound z.ask) (sym same) is
one_brought es a bound y is x (inr none) = absurd none

all_brought : {X : Type 0} (es : List Entry) (a bound : ℕ) (f : X → Asked) (ys : List X) → ((y : X) → Among y ys → IsBrought es a bound (f y).ask) → AreBrought es a bound (map f ys)
all_brought es a bound f [] each x is = absurd is
all_brought es a bound f (y ∷ ys) each x (inl same) = subst (λ (z : Asked). IsBrought es a bound z.ask) (sym same) (each y (inl refl))
all_brought es a bound f (y ∷ ys) each x (inr more) = all_brought es a bound f ys (λ z is. each z (inr is)) x more

-- what an attempt that never fired hands back
release_brought : (es : List Entry) (a bound : ℕ) (plan : ClaimPlan) (name : TaskId) (ph : Phase) → a ≡ name.actor → name.attempt < bound → has_task (fired (visible es)) name ≡ false → AreBrought es a bound (release plan name ph)
release_brought es a bound plan name booking own low none = λ x is. absurd is
release_brought es a bound plan name (claiming slots had) own low none =
    both_brought es a bound (map (free_ask name) (reverse had)) (unbook_ask plan.queue name ∷ [])
    (all_brought es a bound (free_ask name) (reverse had) (λ d is. tt))
    (one_brought es a bound (unbook_ask plan.queue name) (inl (own, low, none)))

-- ---- one entry

module _ (w : Parts) (n : ℕ) (lacks : Lacks) (es : List Entry) (e : Entry) (holds : Holds w n lacks es) (step : Step w lacks es e) where
  abbrev next : State
  next = after w e.actor (state_of w lacks es e.actor) (reply_of w es e)

  -- an earlier attempt that hasn't fired doesn't
  unfired_on : (t : TaskId) → t.attempt < (state_of w lacks es t.actor).attempt → has_task (fired (visible es)) t ≡ false → has_task (fired (visible (es ++ e ∷ []))) t ≡ false
  unfired_on t low none = refuted (has_task (fired (visible (es ++ e ∷ []))) t) (λ is. of (fired_then es e t is))
    where
      of : (has_task (fired (visible es)) t ≡ true) ⊎ IsFiring e.note t → ⊥
      of (inl old) = no_both old none
      of (inr now) =
          let same = fires_itself w n lacks es e holds step t now.spot now.messages now.cuts now.noted in
          let attempt = ap (λ (u : TaskId). u.attempt) same in
          let here : (state_of w lacks es t.actor).attempt ≡ (state_of w lacks es e.actor).attempt = ap (λ (u : TaskId). (state_of w lacks es u.actor).attempt) same in
          omega (arith, low, attempt, here)

  -- what was in hand is brought then too
  brought_on : (a bound : ℕ) (ask : Ask) → (state_of w lacks es a).attempt ≤ bound → IsBrought es a (state_of w lacks es a).attempt ask → IsBrought (es ++ e ∷ []) a bound ask
  brought_on a bound (asks.Put task) more (inl own) = inl own
  brought_on a bound (asks.Put task) more (inr told) = inr (told_still noted_admitted a task.id es e told)
  brought_on a bound (asks.Unbook t) more (inl own) = inl (own.0, (let low = own.1 in omega (arith, low, more)), unfired_on t (subst (λ k. t.attempt < (state_of w lacks es k).attempt) own.0 own.1) own.2)
  brought_on a bound (asks.Unbook t) more (inr told) = inr (told_still noted_cut a t es e told)
  brought_on a bound (asks.Post m) more is = tt
  brought_on a bound (asks.Claim t s) more is = tt
  brought_on a bound (asks.Consume t) more is = tt
  brought_on a bound (asks.Free t) more is = tt
  brought_on a bound (asks.Commit task ms) more is = tt
  brought_on a bound asks.Admit more is = tt
  brought_on a bound (asks.Over t r how) more is = tt
  brought_on a bound (asks.Suspend task) more is = tt
  brought_on a bound (asks.Book t r) more is = tt
  brought_on a bound asks.Take more is = tt
  brought_on a bound asks.Draw more is = tt
  brought_on a bound asks.Leave more is = tt
  brought_on a bound asks.Left more is = tt

  -- which of its attempts have fired then
  fired_below : (t : TaskId) → t.actor ≡ e.actor → (state_of w lacks es e.actor).attempt ≤ next.attempt → has_task (fired (visible (es ++ e ∷ []))) t ≡ true → t.attempt < next.attempt
  fired_below t own more is = of (fired_then es e t is)
    where
      of : (has_task (fired (visible es)) t ≡ true) ⊎ IsFiring e.note t → t.attempt < next.attempt
      of (inl old) = (let low = (holds.actors e.actor).claims.fired_below t own old in omega (arith, low, more))
      of (inr now) = (let counts = (fire_counts w n lacks es e holds step t now).attempt in let same = ap (λ (u : TaskId). u.attempt) (fires_itself w n lacks es e holds step t now.spot now.messages now.cuts now.noted) in omega (arith, counts, same))

  module _ (brought : HandsBrought w lacks es) where
    kept : (bound : ℕ) (xs : List Asked) → (state_of w lacks es e.actor).attempt ≤ bound → ((x : Asked) → Among x xs → Among x (state_of w lacks es e.actor).hand) → AreBrought (es ++ e ∷ []) e.actor bound xs
    kept bound xs more within x is = brought_on e.actor bound x.ask more (brought e.actor x (within x is))

    -- where the attempt is given up, it hasn't fired
    not_fired : (spot : Spot) (more : List Spot) → next.fired ≡ (state_of w lacks es e.actor).fired → has_task (fired (visible (es ++ e ∷ []))) (name_at e.actor (state_of w lacks es e.actor)) ≡ false
    not_fired spot more same = refuted _ (λ is. of (fired_then es e (name_at e.actor (state_of w lacks es e.actor)) is))
      where
        of : (has_task (fired (visible es)) (name_at e.actor (state_of w lacks es e.actor)) ≡ true) ⊎ IsFiring e.note (name_at e.actor (state_of w lacks es e.actor)) → ⊥
        of (inl old) = no_both old (unfired w (visible es) _ e.actor (state_of w lacks es e.actor) (holds.actors e.actor).claims)
        of (inr now) = (let counts = (fire_counts w n lacks es e holds step (name_at e.actor (state_of w lacks es e.actor)) now).fired in omega (arith, counts, same))

    cut_brought : (bound : ℕ) (u : TaskId) (s : Spot) (ms : List MsgId) (cs : List TaskId) → e.note ≡ notes.Fired u s ms cs → AreBrought (es ++ e ∷ []) e.actor bound (map cut_ask (map (cut_view w (visible (es ++ e ∷ []))) cs))
    cut_brought bound u s ms cs noted = all_brought (es ++ e ∷ []) e.actor bound cut_ask (map (cut_view w (visible (es ++ e ∷ []))) cs) (λ c is. inr (told_now noted_cut c.task es e (ap (λ note. has_task (noted_cut note) c.task) noted ∙ made_names (cut_view w (visible (es ++ e ∷ []))) (λ (d : Cut). d.task) (λ u. refl) cs c is)))

    put_brought : (bound : ℕ) (spot : Spot) (b : Bool) → AreBrought (es ++ e ∷ []) e.actor bound (put_asks (if b then None else Some (view w (visible (es ++ e ∷ [])) (name_at e.actor (state_of w lacks es e.actor)))))
    put_brought bound spot true x is = absurd is
    put_brought bound spot false x (inl same) = subst (λ (z : Asked). IsBrought (es ++ e ∷ []) e.actor bound z.ask) (sym same) (inl refl)
    put_brought bound spot false x (inr none) = absurd none

    move_brought : (new : State) → Move w es e (state_of w lacks es e.actor) new → new ≡ next → AreBrought (es ++ e ∷ []) e.actor new.attempt new.hand
    move_brought new (settles x more hand given is) at = subst (λ (s : State). AreBrought (es ++ e ∷ []) e.actor s.attempt s.hand) (sym is) (kept (state_of w lacks es e.actor).attempt more (omega arith) (λ y among. subst (Among y) (sym hand) (inr among)))
    move_brought new (drops x more t d hand given note is) at = subst (λ (s : State). AreBrought (es ++ e ∷ []) e.actor s.attempt s.hand) (sym is) of_hand
      where
        of_hand : (y : Asked) → (y ≡ over_dropped (view w (visible (es ++ e ∷ [])) d)) ⊎ Among y more → IsBrought (es ++ e ∷ []) e.actor (state_of w lacks es e.actor).attempt y.ask
        of_hand y (inl same) = subst (λ (z : Asked). IsBrought (es ++ e ∷ []) e.actor (state_of w lacks es e.actor).attempt z.ask) (sym same) tt
        of_hand y (inr among) = kept (state_of w lacks es e.actor).attempt more (omega arith) (λ z is_in. subst (Among z) (sym hand) (inr is_in)) y among
    move_brought new (admits i more t hand numbers given note is) at = subst (λ (s : State). AreBrought (es ++ e ∷ []) e.actor s.attempt s.hand) (sym is) (one_brought (es ++ e ∷ []) e.actor (state_of w lacks es e.actor).attempt _ (inr (told_now noted_admitted t es e (ap (λ m. has_task (noted_admitted m) t) note ∙ or_left (same_task t t) false (same_task-self t)))))
    move_brought new (strikes i more hand numbers given is) at = subst (λ (s : State). AreBrought (es ++ e ∷ []) e.actor s.attempt s.hand) (sym is) (kept (state_of w lacks es e.actor).attempt (state_of w lacks es e.actor).hand (omega arith) (λ y among. among))
    move_brought new (books spot more hand spots phase given note is) at = subst (λ (s : State). AreBrought (es ++ e ∷ []) e.actor s.attempt s.hand) (sym is) (kept (state_of w lacks es e.actor).attempt (state_of w lacks es e.actor).hand (omega arith) (λ y among. among))
    move_brought new (claims spot more slot slots had k hand spots phase given free note is) at = subst (λ (s : State). AreBrought (es ++ e ∷ []) e.actor s.attempt s.hand) (sym is) (kept (state_of w lacks es e.actor).attempt (state_of w lacks es e.actor).hand (omega arith) (λ y among. among))
    move_brought new (fires spot more had cs hand spots phase given note is) at = subst (λ (s : State). AreBrought (es ++ e ∷ []) e.actor s.attempt s.hand) (sym is) (rw phase (both_brought (es ++ e ∷ []) e.actor bound (map (consume_ask (name_at e.actor (state_of w lacks es e.actor))) had) (map cut_ask (map (cut_view w (visible (es ++ e ∷ []))) cs) ++ put_asks (handed w es e (name_at e.actor (state_of w lacks es e.actor)) spot)) consumed (both_brought (es ++ e ∷ []) e.actor bound (map cut_ask (map (cut_view w (visible (es ++ e ∷ []))) cs)) (put_asks (handed w es e (name_at e.actor (state_of w lacks es e.actor)) spot)) (cut_brought bound _ _ _ cs note) (put_brought bound spot (waits w spot)))))
      where
        bound : ℕ
        bound = (state_of w lacks es e.actor).attempt + 1

        consumed : AreBrought (es ++ e ∷ []) e.actor bound (map (consume_ask (name_at e.actor (state_of w lacks es e.actor))) had)
        consumed = all_brought (es ++ e ∷ []) e.actor bound (consume_ask (name_at e.actor (state_of w lacks es e.actor))) had (λ d is. tt)
    move_brought new (gives_up spot more hand spots given quiet is) at = subst (λ (s : State). AreBrought (es ++ e ∷ []) e.actor s.attempt s.hand) (sym is) (release_brought (es ++ e ∷ []) e.actor ((state_of w lacks es e.actor).attempt + 1) (plan_of w spot) (name_at e.actor (state_of w lacks es e.actor)) (state_of w lacks es e.actor).phase refl (omega arith) (not_fired spot more (ap (λ (s : State). s.fired) (sym at ∙ is))))
    move_brought new (goes x turns asks_so given is) at = subst (λ (s : State). AreBrought (es ++ e ∷ []) e.actor s.attempt s.hand) (sym is) (kept (after_work w (state_of w lacks es e.actor) (state_of w lacks es e.actor).work (reply_of w es e)).attempt (after_work w (state_of w lacks es e.actor) (state_of w lacks es e.actor).work (reply_of w es e)).hand (let same = went.attempt in omega (arith, same)) (λ y among. subst (Among y) went.hand among))
      where
        went : Worked w (state_of w lacks es e.actor) (after_work w (state_of w lacks es e.actor) (state_of w lacks es e.actor).work (reply_of w es e))
        went = worked w (state_of w lacks es e.actor) (state_of w lacks es e.actor).work refl (reply_of w es e)

    more_attempts : (bound : ℕ) (x : Asked) → next.attempt ≤ bound → IsBrought (es ++ e ∷ []) e.actor next.attempt x.ask → IsBrought (es ++ e ∷ []) e.actor bound x.ask
    more_attempts bound x more is = by x.ask is
      where
        by : (ask : Ask) → IsBrought (es ++ e ∷ []) e.actor next.attempt ask → IsBrought (es ++ e ∷ []) e.actor bound ask
        by (asks.Put task) so = so
        by (asks.Unbook t) (inl own) = inl (own.0, (let low = own.1 in omega (arith, low, more)), own.2)
        by (asks.Unbook t) (inr told) = inr told
        by (asks.Post m) so = tt
        by (asks.Claim t s) so = tt
        by (asks.Consume t) so = tt
        by (asks.Free t) so = tt
        by (asks.Commit task ms) so = tt
        by asks.Admit so = tt
        by (asks.Over t r how) so = tt
        by (asks.Suspend task) so = tt
        by (asks.Book t r) so = tt
        by asks.Take so = tt
        by asks.Draw so = tt
        by asks.Leave so = tt
        by asks.Left so = tt

    next_brought : AreBrought (es ++ e ∷ []) e.actor next.attempt next.hand
    next_brought = move_brought next (moved w lacks es e step) refl

    -- where the actor finds no memory then, its attempt under way hasn't fired
    short_brought : (state_of w lacks es e.actor).attempt ≤ next.attempt → AreBrought (es ++ e ∷ []) e.actor (next.attempt + 1) (next.hand ++ in_attempt w e.actor next next.spots)
    short_brought more = both_brought (es ++ e ∷ []) e.actor (next.attempt + 1) next.hand (in_attempt w e.actor next next.spots) (λ x is. more_attempts (next.attempt + 1) x (omega arith) (next_brought x is)) (of_spots next.spots)
      where
        of_spots : (spots : List Spot) → AreBrought (es ++ e ∷ []) e.actor (next.attempt + 1) (in_attempt w e.actor next spots)
        of_spots [] = λ x is. absurd is
        of_spots (spot ∷ spots) = release_brought (es ++ e ∷ []) e.actor (next.attempt + 1) (plan_of w spot) (name_at e.actor next) next.phase refl (omega arith) (refuted _ (λ is. (let low : next.attempt < next.attempt = fired_below (name_at e.actor next) refl more is in omega (arith, low))))

    of_state : (new : State) → IsNextState w e.actor (state_of w lacks es e.actor) (reply_of w es e) new → (state_of w lacks es e.actor).attempt ≤ next.attempt → AreBrought (es ++ e ∷ []) e.actor new.attempt new.hand
    of_state new (inl is) more = subst (λ (s : State). AreBrought (es ++ e ∷ []) e.actor s.attempt s.hand) (sym is) next_brought
    of_state new (inr is) more = subst (λ (s : State). AreBrought (es ++ e ∷ []) e.actor s.attempt s.hand) (sym is) (short_brought more)

    risen_by : Rises (state_of w lacks es e.actor) next → (state_of w lacks es e.actor).attempt ≤ next.attempt
    risen_by (inl more) = omega (arith, more)
    risen_by (inr same) = let is = same.0 in omega (arith, is)

    pub hands_brought-kept : HandsBrought w lacks (es ++ e ∷ [])
    hands_brought-kept a = by (e.actor == a) refl
      where
        by : (b : Bool) → (e.actor == a) ≡ b → AreBrought (es ++ e ∷ []) a (state_of w lacks (es ++ e ∷ []) a).attempt (state_of w lacks (es ++ e ∷ []) a).hand
        by true at = subst (λ k. AreBrought (es ++ e ∷ []) k (state_of w lacks (es ++ e ∷ []) k).attempt (state_of w lacks (es ++ e ∷ []) k).hand) (same_number e.actor a at) (of_state (state_of w lacks (es ++ e ∷ []) e.actor) (state_of-own w lacks es e e.actor (eq-self e.actor)) (risen_by (rises_next w lacks es e step)))
        by false at = λ x is. brought_on a (state_of w lacks (es ++ e ∷ []) a).attempt x.ask (let same = ap (λ (s : State). s.attempt) (state_of-other w lacks es e a at) in omega (arith, same)) (brought a x (subst (λ (s : State). Among x s.hand) (state_of-other w lacks es e a at) is))
