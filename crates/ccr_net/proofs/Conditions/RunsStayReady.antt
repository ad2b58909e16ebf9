-- What holds along a run so that each next ask can be answered.
use Rattle.std.proofs.Common.{inl, inr, ◌≡◌, ◌≤◌, ◌<◌, ℕ, ◌+◌, Bool, false, List, [], ◌∷◌, ◌++◌, length, refl, sym, arith, ap, subst}
use Rattle.std.specs.FinSet as set
use Rattle.ccr_base.specs.declared.names.Place.{Place}
use Rattle.ccr_base.specs.declared.names.Place.TheVariants as places
use Rattle.ccr_base.specs.declared.names.TaskId.{TaskId}
use Rattle.ccr_wiring.specs.declared.parts.Parts.{Parts}
use Rattle.ccr_wiring.specs.Valid.{HasDomains}
use Rattle.ccr_claim.specs.declared.asks.Ask.{Ask}
use Rattle.ccr_actor.specs.Actors.{State}
use Rattle.ccr_actor.specs.Courses.{owing}
use Rattle.ccr_base.proofs.Booleans.{no_both}
use Rattle.ccr_model.proofs.Members.{Among}
use Rattle.ccr_places.specs.TaskSets.{task_cmp}
use Rattle.ccr_runs.specs.declared.entries.Entry.{Entry}
use Rattle.ccr_runs.specs.EntryRuns.{IsRunAfter, Lacks, state_of, queue_at}
use Rattle.ccr_net.proofs.Parts.OneMoreEntry.{along_run, Step, Step-made}
use Rattle.ccr_net.proofs.Kept.WholeInvariant.{Holds, IsBegun, begins}
use Rattle.ccr_net.proofs.Kept.WhatWiringsHave.{PlainFacts}
use Rattle.ccr_net.proofs.Kept.RunsAreLegal.{Holds-begins}
use Rattle.ccr_net.proofs.Kept.EachTurnKeepsAll.{step_kept}
use Rattle.ccr_net.proofs.Owed.WorkKeepsStates.{AreInterleaves}
use Rattle.ccr_net.proofs.Owed.PostersAreCounted.{FewLeft, few_left-kept, count-le, scripted}
use Rattle.ccr_net.proofs.Owed.NotedOversAreOver.{OversNoted, overs_noted-kept}
use Rattle.ccr_net.proofs.Owed.PutTasksAreBooked.{BookingsStand, bookings_on, unbooks, is_booked_at}
use Rattle.ccr_net.proofs.Owed.OwedClaimsStand.{ClaimsStand, claims_on, unclaims, is_claimed}
use Rattle.ccr_net.proofs.Owed.OwedByOneOnce.{owed_by}
use Rattle.ccr_net.proofs.Owed.OwedByOneOnce as owed
use Rattle.ccr_net.proofs.Owed.OversMayBeNoted.{OversStand, overs_on, ends_root, may_over_at}
use Rattle.ccr_net.proofs.Owed.OwedAtOwnPlaces.{AllPlaced, all_placed-kept, AllInterleaves, all_interleaves-kept}
use Rattle.ccr_net.proofs.Owed.PostsAreBounded.{FewItems, few_items-kept}
use Rattle.ccr_net.proofs.Owed.AttemptNamesAreNew.{NamesReached, names_reached-kept, is_known}

pub record Ready (w : Parts) (n : ℕ) (lacks : Lacks) (es : List Entry) : Type 0 where
  pub holds : Holds w n lacks es
  pub claims : ClaimsStand w lacks es
  pub bookings : BookingsStand w lacks es
  pub noted : OversNoted es
  pub overs : OversStand w lacks es
  pub names : NamesReached w lacks es
  pub placed : AllPlaced w lacks es
  pub numbers : AllInterleaves w lacks es
  pub left : FewLeft w lacks es
  pub items : FewItems es

-- nobody owes anything before its first step
owed_none : (w : Parts) (lacks : Lacks) (a : ℕ) → owed_by w lacks [] a ≡ []
owed_none w lacks a = by (begins w lacks a)
  where
    by : IsBegun w a (state_of w lacks [] a) → owed_by w lacks [] a ≡ []
    by (inl is) = ap (owing w a) is
    by (inr is) = ap (owing w a) is

once_begins : (pl : ℕ → Place) (gone : Ask → List TaskId) (w : Parts) (lacks : Lacks) (ok : List Entry → ℕ → TaskId → Bool) → owed.OwedOnce pl gone w lacks ok []
once_begins pl gone w lacks ok = record {
  one = λ a p t. (let none = ap (owed.many pl gone p t) (owed_none w lacks a) in omega (arith, none));
  met = λ a p t some. absurd (let none = ap (owed.many pl gone p t) (owed_none w lacks a) in omega (arith, none, some));
  apart = λ a b other p t some. ap (owed.many pl gone p t) (owed_none w lacks b);
}

no_numbers : (w : Parts) (lacks : Lacks) → AllInterleaves w lacks []
no_numbers w lacks a = by (begins w lacks a)
  where
    by : IsBegun w a (state_of w lacks [] a) → AreInterleaves w (state_of w lacks [] a).domains
    by (inl is) = subst (λ (s : State). AreInterleaves w s.domains) (sym is) (λ i none. absurd none)
    by (inr is) = subst (λ (s : State). AreInterleaves w s.domains) (sym is) (λ i none. absurd none)

-- and no queue knows a name
unknown : (w : Parts) (q : ℕ) (t : TaskId) → is_known (queue_at w [] q) t ≡ false
unknown w q t = rw (set.contains-empty task_cmp t) refl

pub Ready-begins : (w : Parts) (n : ℕ) (lacks : Lacks) → Ready w n lacks []
Ready-begins w n lacks = record {
  holds = Holds-begins w n lacks;
  claims = once_begins places.Port unclaims w lacks is_claimed;
  bookings = once_begins places.Queue unbooks w lacks (is_booked_at w);
  noted = λ i r is. absurd (cc);
  overs = once_begins places.Arbiter ends_root w lacks (may_over_at w);
  names = λ q t is. absurd (no_both is (unknown w q t));
  placed = λ a x is. absurd (subst (Among x) (owed_none w lacks a) is);
  numbers = no_numbers w lacks;
  left = (let le = count-le (length w.posters) (scripted w lacks []) in omega (arith, le));
  items = λ p. omega arith;
}

pub Ready-kept : (w : Parts) (n : ℕ) → PlainFacts w → HasDomains w → n ≤ 33 → (lacks : Lacks) (es : List Entry) (e : Entry) → e.actor < n → Step w lacks es e → Ready w n lacks es → Ready w n lacks (es ++ e ∷ [])
Ready-kept w n first domains few lacks es e low step ready = record {
  holds = later;
  claims = owed.OwedOnce-kept places.Port unclaims w lacks is_claimed es e (claims_on w n lacks es e step ready.holds ready.claims) ready.claims;
  bookings = owed.OwedOnce-kept places.Queue unbooks w lacks (is_booked_at w) es e (bookings_on w n lacks es e step ready.holds later ready.bookings) ready.bookings;
  noted = overs_noted-kept w n lacks es e step ready.holds ready.noted;
  overs = owed.OwedOnce-kept places.Arbiter ends_root w lacks (may_over_at w) es e (overs_on w domains n lacks es e step ready.holds later ready.noted) ready.overs;
  names = names_reached-kept w n lacks es e step ready.holds ready.names;
  placed = all_placed-kept w n lacks es e step ready.holds ready.placed;
  numbers = all_interleaves-kept w domains lacks es e step ready.numbers;
  left = few_left-kept w n lacks es e step ready.holds ready.left;
  items = few_items-kept es e ready.items;
}
  where
    later : Holds w n lacks (es ++ e ∷ [])
    later = step_kept w n first few lacks es e low ready.holds step

pub ready : (w : Parts) (workers : ℕ) → PlainFacts w → HasDomains w → length w.posters + workers ≤ 33 → (lacks : Lacks) (es : List Entry) → IsRunAfter w workers lacks [] es → Ready w (length w.posters + workers) lacks es
ready w workers first domains few lacks es steps = along_run w workers lacks (Ready w (length w.posters + workers) lacks)
    (λ past e known low made. Ready-kept w (length w.posters + workers) first domains few lacks past e low (Step-made w lacks past e made) known)
    (Ready-begins w (length w.posters + workers) lacks) es steps
