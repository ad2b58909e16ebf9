-- Each ask that an actor owes is at a place of its kind, and each number of its admissions is an Interleave's.
use Rattle.std.proofs.Common.{inl, inr, ◌≡◌, ℕ, ◌+◌, Bool, true, false, List, [], ◌∷◌, ◌++◌, map, Option, Some, None, refl, sym, ap, ◌∙◌, subst}
use Rattle.std.specs.Prelude.{◌==◌, if◌then◌else◌, nat_lt, IsSomeAnd}
use Rattle.std.specs.List.{slice_get}
use Rattle.std.specs.Option.{option_map_or}
use Rattle.ccr_base.specs.declared.names.Place.{Place}
use Rattle.ccr_base.specs.declared.names.Place.TheVariants as places
use Rattle.ccr_base.specs.declared.names.Spot.{Spot}
use Rattle.ccr_base.specs.declared.names.Spot.TheVariants.{Branch, Site}
use Rattle.ccr_base.specs.declared.tasks.Task.{Task}
use Rattle.ccr_wiring.specs.declared.parts.ArbiterPart.{ArbiterPart}
use Rattle.ccr_wiring.specs.declared.parts.Parts.{Parts}
use Rattle.ccr_wiring.specs.Valid.{HasDomains}
use Rattle.ccr_wiring.specs.Wirings.{Placement, placement, domain_of_spot}
use Rattle.ccr_model.specs.Tasks.{is_interleave}
use Rattle.ccr_base.proofs.Booleans.{same_number, eq-self, differ}
use Rattle.ccr_model.proofs.Members.{Among, both_among}
use Rattle.ccr_claim.specs.declared.asks.Ask.{Ask}
use Rattle.ccr_claim.specs.declared.asks.Ask.TheVariants as asks
use Rattle.ccr_claim.specs.declared.asks.Asked.{Asked}
use Rattle.ccr_claim.specs.Attempts.{consume_ask, cut_ask, put_asks}
use Rattle.ccr_actor.specs.Plans.{is_interleave_number}
use Rattle.ccr_actor.specs.Actors.{State, after, add_domain, admissions_after, name_at}
use Rattle.ccr_runs.specs.declared.entries.Entry.{Entry}
use Rattle.ccr_runs.specs.EntryRuns.{Lacks, state_of, reply_of, waits}
use Rattle.ccr_runs.specs.Views.{view, cut_view}
use Rattle.ccr_runs.specs.Visible.{visible}
use Rattle.ccr_net.proofs.Parts.OneMoreEntry.{Step, IsNextState, state_of-own, state_of-other}
use Rattle.ccr_net.proofs.Kept.WholeInvariant.{Holds}
use Rattle.ccr_net.proofs.Owed.WorkKeepsStates.{AreInterleaves, worked, add_interleave}
use Rattle.ccr_net.proofs.Owed.EntriesAreMoves.{Move, settles, drops, admits, strikes, books, claims, fires, gives_up, goes, moved, handed}
use Rattle.ccr_net.proofs.Owed.EntriesChangeOwing.{Owes, less, dropped, admitted, booked, got, fired, same, ended, owes}
use Rattle.ccr_net.proofs.Owed.OwedByOneOnce.{owed_by, others_owe}

-- what settles is asked of these places
abbrev pub is_placed_at : Place → Ask → Bool
is_placed_at (places.Port p) (asks.Consume t) = true
is_placed_at (places.Port p) (asks.Free t) = true
is_placed_at (places.Queue q) (asks.Unbook t) = true
is_placed_at (places.Queue q) (asks.Put t) = true
is_placed_at (places.Arbiter i) (asks.Over t r how) = true
is_placed_at _ _ = false

abbrev pub is_placed : Asked → Bool
is_placed x = is_placed_at x.place x.ask

abbrev pub ArePlaced : List Asked → Type 0
ArePlaced xs = (x : Asked) → Among x xs → is_placed x ≡ true

-- each actor's
abbrev pub AllPlaced : Parts → Lacks → List Entry → Type 0
AllPlaced w lacks es = (a : ℕ) → ArePlaced (owed_by w lacks es a)

abbrev pub AllInterleaves : Parts → Lacks → List Entry → Type 0
AllInterleaves w lacks es = (a : ℕ) → AreInterleaves w (state_of w lacks es a).domains

placed_map : {X : Type 0} (f : X → Asked) → ((y : X) → is_placed (f y) ≡ true) → (ys : List X) → ArePlaced (map f ys)
placed_map f each [] x is = absurd is
placed_map f each (y ∷ ys) x (inl e) = ap is_placed e ∙ each y
placed_map f each (y ∷ ys) x (inr is) = placed_map f each ys x is

placed_both : (xs ys : List Asked) → ArePlaced xs → ArePlaced ys → ArePlaced (xs ++ ys)
placed_both = both_among (λ (x : Asked). is_placed x ≡ true)

placed_more : (y : Asked) (xs : List Asked) → is_placed y ≡ true → ArePlaced xs → ArePlaced (y ∷ xs)
placed_more y xs here rest x (inl e) = ap is_placed e ∙ here
placed_more y xs here rest x (inr is) = rest x is

placed_put : (o : Option Task) → ArePlaced (put_asks o)
placed_put None x is = absurd is
placed_put (Some v) x (inl e) = ap is_placed e
placed_put (Some v) x (inr none) = absurd none

module _ (w : Parts) (n : ℕ) (lacks : Lacks) (es : List Entry) (e : Entry) (step : Step w lacks es e) (holds : Holds w n lacks es) where
  abbrev st : State
  st = state_of w lacks es e.actor

  placed_on : (xs ys : List Asked) → Owes w es e st xs ys → ArePlaced xs → ArePlaced ys
  placed_on xs ys (less x given split) are = λ y is. are y (subst (Among y) (sym split) (inr is))
  placed_on xs ys (dropped x rest t d given note split is) are = subst ArePlaced (sym is) (placed_more _ rest refl (λ y there. are y (subst (Among y) (sym split) (inr there))))
  placed_on xs ys (admitted i more t numbers given note is) are = subst ArePlaced (sym is) (placed_more _ xs refl are)
  placed_on xs ys (booked spot given note was is) are = subst ArePlaced (sym is) (placed_more _ [] refl (λ y none. absurd none))
  placed_on xs ys (got d k given free note is) are = subst ArePlaced (sym is) (placed_more _ xs refl are)
  placed_on xs ys (fired spot more had cs spots phase given note was is) are = subst ArePlaced (sym is) (placed_both (map (consume_ask (name_at e.actor st)) had) (map cut_ask (map (cut_view w (visible (es ++ e ∷ []))) cs) ++ put_asks task) (placed_map (consume_ask (name_at e.actor st)) (λ d. refl) had) (placed_both (map cut_ask (map (cut_view w (visible (es ++ e ∷ []))) cs)) (put_asks task) (placed_map cut_ask (λ c. refl) (map (cut_view w (visible (es ++ e ∷ []))) cs)) (placed_put task)))
    where
      task : Option Task
      task = handed w es e (name_at e.actor st) spot
  placed_on xs ys (same x given quiet is) are = subst ArePlaced (sym is) are
  placed_on xs ys (ended task how given last run is) are = subst ArePlaced (sym is) are

  pub all_placed-kept : AllPlaced w lacks es → AllPlaced w lacks (es ++ e ∷ [])
  all_placed-kept are a = by (e.actor == a) refl
    where
      by : (c : Bool) → (e.actor == a) ≡ c → ArePlaced (owed_by w lacks (es ++ e ∷ []) a)
      by true is = subst (λ b. ArePlaced (owed_by w lacks (es ++ e ∷ []) b)) (same_number e.actor a is) (placed_on _ _ (owes w n lacks es e holds step) (are e.actor))
      by false is = subst ArePlaced (sym (others_owe w lacks es e a (differ e.actor a is))) (are a)

-- ---- admissions

waits_at : (w : Parts) → HasDomains w → (spot : Spot) → waits w spot ≡ true → is_interleave_number w (domain_of_spot w spot) ≡ true
waits_at w domains (Site b k) is = absurd (cc)
waits_at w domains (Branch b) is = of_option (placement w b) refl is
  where
    of_part : (s : Placement) (o : Option ArbiterPart) → is_interleave s.kind ≡ true → IsSomeAnd o (λ (part : ArbiterPart). part.kind ≡ s.kind) → option_map_or (λ (part : ArbiterPart). is_interleave part.kind) o false ≡ true
    of_part s None kind none = absurd none
    of_part s (Some part) kind alike = ap is_interleave alike ∙ kind

    of_option : (o : Option Placement) → placement w b ≡ o → option_map_or (λ (s : Placement). is_interleave s.kind) o false ≡ true → is_interleave_number w (option_map_or (λ (s : Placement). s.domain) o 0) ≡ true
    of_option None at now = absurd (cc)
    of_option (Some s) at now = of_part s (slice_get w.arbiters s.domain) now (domains b s at)

fired_admits : (w : Parts) → HasDomains w → (spot : Spot) (v : Task) (c : Bool) → waits w spot ≡ c → AreInterleaves w (admissions_after w spot (if c then None else Some v))
fired_admits w domains spot v false is i none = absurd none
fired_admits w domains spot v true is i (inl e) = ap (is_interleave_number w) e ∙ waits_at w domains spot is
fired_admits w domains spot v true is i (inr none) = absurd none

module _ (w : Parts) (domains : HasDomains w) (lacks : Lacks) (es : List Entry) (e : Entry) (step : Step w lacks es e) where
  abbrev now : State
  now = state_of w lacks es e.actor

  numbers_on : (next : State) → Move w es e now next → AreInterleaves w now.domains → AreInterleaves w next.domains
  numbers_on next (settles x more hand given is) are = subst (λ (s : State). AreInterleaves w s.domains) (sym is) are
  numbers_on next (drops x more t d hand given note is) are = subst (λ (s : State). AreInterleaves w s.domains) (sym is) (by (nat_lt now.admitted 32768))
    where
      v : Task
      v = view w (visible (es ++ e ∷ [])) d

      by : (c : Bool) → AreInterleaves w (if c then add_domain w v.arbiter now.domains else now.domains)
      by true = add_interleave w v.arbiter now.domains are
      by false = are
  numbers_on next (admits i more t hand numbers given note is) are = subst (λ (s : State). AreInterleaves w s.domains) (sym is) (by (nat_lt (now.admitted + 1) 32768))
    where
      by : (c : Bool) → AreInterleaves w (if c then now.domains else [])
      by true = are
      by false = λ j none. absurd none
  numbers_on next (strikes i more hand numbers given is) are = subst (λ (s : State). AreInterleaves w s.domains) (sym is) (λ j there. are j (subst (Among j) (sym numbers) (inr there)))
  numbers_on next (books spot more hand spots phase given note is) are = subst (λ (s : State). AreInterleaves w s.domains) (sym is) are
  numbers_on next (claims spot more slot slots had j hand spots phase given free note is) are = subst (λ (s : State). AreInterleaves w s.domains) (sym is) are
  numbers_on next (fires spot more had cs hand spots phase given note is) are = subst (λ (s : State). AreInterleaves w s.domains) (sym is) (fired_admits w domains spot (view w (visible (es ++ e ∷ [])) (name_at e.actor now)) (waits w spot) refl)
  numbers_on next (gives_up spot more hand spots given quiet is) are = subst (λ (s : State). AreInterleaves w s.domains) (sym is) are
  numbers_on next (goes x turns asks given is) are = subst (λ (s : State). AreInterleaves w s.domains) (sym is) ((worked w now now.work refl (reply_of w es e)).numbers are)

  pub all_interleaves-kept : AllInterleaves w lacks es → AllInterleaves w lacks (es ++ e ∷ [])
  all_interleaves-kept are a = by (e.actor == a) refl
    where
      own : AreInterleaves w (after w e.actor now (reply_of w es e)).domains
      own = numbers_on (after w e.actor now (reply_of w es e)) (moved w lacks es e step) (are e.actor)

      of_next : IsNextState w e.actor now (reply_of w es e) (state_of w lacks (es ++ e ∷ []) e.actor) → AreInterleaves w (state_of w lacks (es ++ e ∷ []) e.actor).domains
      of_next (inl is) = subst (λ (s : State). AreInterleaves w s.domains) (sym is) own
      of_next (inr is) = subst (λ (s : State). AreInterleaves w s.domains) (sym is) own

      by : (c : Bool) → (e.actor == a) ≡ c → AreInterleaves w (state_of w lacks (es ++ e ∷ []) a).domains
      by true is = subst (λ b. AreInterleaves w (state_of w lacks (es ++ e ∷ []) b).domains) (same_number e.actor a is) (of_next (state_of-own w lacks es e e.actor (eq-self e.actor)))
      by false is = subst (λ (s : State). AreInterleaves w s.domains) (sym (state_of-other w lacks es e a is)) (are a)
