-- The slots of an attempt's pattern have different ports, and each takes no fewer than its least.
use Rattle.std.proofs.Common.{inl, inr, ◌≡◌, ◌≢◌, ◌≤◌, ℕ, ◌+◌, Bool, true, false, not, List, [], ◌∷◌, ◌++◌, map, refl, sym, arith, ap, ◌∙◌, subst}
use Rattle.std.specs.Prelude.{◌==◌, if◌then◌else◌, nat_lt, fold}
use Rattle.std.specs.Option.{option_map_or}
use Rattle.ccr_base.specs.declared.names.Spot.{Spot}
use Rattle.ccr_base.specs.declared.names.Spot.TheVariants.{Branch, Site}
use Rattle.ccr_base.specs.declared.patterns.Pattern.{Pattern}
use Rattle.ccr_base.specs.declared.patterns.Pattern.TheVariants.{Slots, Gather}
use Rattle.ccr_base.specs.declared.patterns.Slot.{Slot}
use Rattle.ccr_wiring.specs.declared.parts.Parts.{Parts}
use Rattle.ccr_wiring.specs.Valid.{HasPortsApart, slot_ports, names_ports_once}
use Rattle.ccr_wiring.specs.Wirings.{Placement}
use Rattle.ccr_base.proofs.Booleans.{same_number, eq-self, both, neither, not_true, no_both}
use Rattle.ccr_base.specs.Lists.{has_number, are_apart}
use Rattle.ccr_model.proofs.Members.{Among, Among-right}
use Rattle.ccr_claim.specs.declared.plan.Had.{Had}
use Rattle.ccr_claim.specs.Plans.{insert_slot, any_slot}
use Rattle.ccr_actor.specs.Plans.{pattern_at, one_of, no_pattern}
use Rattle.ccr_net.proofs.Parts.MeterMatches.{bit}
use Rattle.ccr_net.proofs.Parts.GotNamesStandAlone.{sorted_among}
use Rattle.ccr_net.proofs.Parts.PhasesFitPlans.{Fits, SpotFits, slot_had, lower, higher}
use Rattle.ccr_net.proofs.Kept.WhatWiringsHave.{PlainFacts, IsEven}

-- how many of the slots have the port
abbrev times : ℕ → List Slot → ℕ
times p [] = 0
times p (s ∷ slots) = bit (s.port == p) + times p slots

times-append : (p : ℕ) (xs ys : List Slot) → times p (xs ++ ys) ≡ times p xs + times p ys
times-append p [] ys = omega arith
times-append p (x ∷ xs) ys = let rest = times-append p xs ys in omega (arith, rest)

times-insert : (p : ℕ) (slot : Slot) (slots : List Slot) → times p (insert_slot slot slots) ≡ bit (slot.port == p) + times p slots
times-insert p slot [] = refl
times-insert p slot (x ∷ slots) = by (nat_lt slot.port x.port) (times-insert p slot slots)
  where
    by : (b : Bool) → times p (insert_slot slot slots) ≡ bit (slot.port == p) + times p slots → times p (if b then slot ∷ x ∷ slots else x ∷ insert_slot slot slots) ≡ bit (slot.port == p) + (bit (x.port == p) + times p slots)
    by true rest = omega arith
    by false rest = omega (arith, rest)

times-fold : (p : ℕ) (sorted slots : List Slot) → times p (fold (λ front s. insert_slot s front) sorted slots) ≡ times p sorted + times p slots
times-fold p sorted [] = omega arith
times-fold p sorted (x ∷ slots) = let rest = times-fold p (insert_slot x sorted) slots in let one = times-insert p x sorted in omega (arith, rest, one)

times-none : (p : ℕ) (slots : List Slot) → has_number (slot_ports slots) p ≡ false → times p slots ≡ 0
times-none p [] none = refl
times-none p (x ∷ slots) none = let parts = neither (x.port == p) (has_number (slot_ports slots) p) none in let here = ap bit parts.0 in let rest = times-none p slots parts.1 in omega (arith, here, rest)

times-apart : (p : ℕ) (slots : List Slot) → are_apart (slot_ports slots) ≡ true → times p slots ≤ 1
times-apart p [] apart = omega arith
times-apart p (x ∷ slots) apart = by (x.port == p) refl (times-apart p slots parts.1)
  where
    parts : (not (has_number (slot_ports slots) x.port) ≡ true) × (are_apart (slot_ports slots) ≡ true)
    parts = both (not (has_number (slot_ports slots) x.port)) (are_apart (slot_ports slots)) apart

    by : (b : Bool) → (x.port == p) ≡ b → times p slots ≤ 1 → bit (x.port == p) + times p slots ≤ 1
    by true is rest = let one = ap bit is in let none : times p slots ≡ 0 = times-none p slots (ap (has_number (slot_ports slots)) (sym (same_number x.port p is)) ∙ not_true (has_number (slot_ports slots) x.port) parts.0) in omega (arith, one, none)
    by false is rest = let zero_here = ap bit is in omega (arith, zero_here, rest)

times-had : (p : ℕ) (had : List Had) (d : Had) → Among d had → d.slot.port ≡ p → 1 ≤ times p (map slot_had had)
times-had p [] d is at = absurd is
times-had p (x ∷ had) d (inl e) at = let one : bit (x.slot.port == p) ≡ 1 = ap bit (ap (λ (y : Had). y.slot.port == p) (sym e) ∙ ap (λ q. q == p) at ∙ eq-self p) in omega (arith, one)
times-had p (x ∷ had) d (inr more) at = let rest = times-had p had d more at in omega (arith, rest)

-- ---- patterns

ports_apart : (w : Parts) → HasPortsApart w → (spot : Spot) → SpotFits w spot → names_ports_once (pattern_at w spot) ≡ true
ports_apart w apart (Branch b) fits = ap (λ o. names_ports_once (option_map_or (λ (s : Placement). s.branch.pattern) o no_pattern)) fits.1 ∙ apart b fits.0 fits.1
ports_apart w apart (Site b k) fits = ap (λ o. names_ports_once (option_map_or one_of o no_pattern)) fits.1

apart_fits : (pattern : Pattern) (slot : Slot) (slots : List Slot) (had : List Had) → names_ports_once pattern ≡ true → Fits pattern (slot ∷ slots) had → (d : Had) → Among d had → d.slot.port ≢ slot.port
apart_fits (Slots all) slot slots had once fits d is same =
    let few = times-apart slot.port all once in
    let sorted = times-fold slot.port [] all in
    let split = times-append slot.port (map slot_had had) (slot ∷ slots) in
    let whole = ap (times slot.port) fits in
    let some = times-had slot.port had d is same in
    let one : bit (slot.port == slot.port) ≡ 1 = ap bit (eq-self slot.port) in
    omega (arith, few, sorted, split, whole, some, one)
apart_fits (Gather total first second) slot slots [] once fits d is same = is
apart_fits (Gather total first second) slot slots (x ∷ []) once fits d (inl e) same = differ (nat_lt first second) (sym at_low ∙ ap (λ (y : Had). y.slot.port) (sym e) ∙ same ∙ at_high)
  where
    at_low : x.slot.port ≡ lower first second
    at_low = ap (λ (s : Slot). s.port) fits.0

    at_high : slot.port ≡ higher first second
    at_high = ap (λ (s : Slot). s.port) (inside fits.1)
      where
        inside : {s t : Slot} {ss : List Slot} → s ∷ ss ≡ t ∷ [] → s ≡ t
        inside is' = cc

    apart : first ≢ second
    apart is' = no_both (ap (λ k. first == k) (sym is') ∙ eq-self first) (not_true (first == second) once)

    differ : (b : Bool) → (if b then first else second) ≡ (if b then second else first) → ⊥
    differ true is' = apart is'
    differ false is' = apart (sym is')
apart_fits (Gather total first second) slot slots (x ∷ []) once fits d (inr none) same = none
apart_fits (Gather total first second) slot slots (x ∷ y ∷ []) once fits d is same = absurd (let none : slot ∷ slots ≡ [] = fits.2 in cc)
apart_fits (Gather total first second) slot slots (x ∷ y ∷ z ∷ more) once fits d is same = fits

even_at : (w : Parts) → PlainFacts w → (spot : Spot) → SpotFits w spot → IsEven (pattern_at w spot)
even_at w first (Branch b) fits = subst (λ o. IsEven (option_map_or (λ (s : Placement). s.branch.pattern) o no_pattern)) (sym fits.1) (first.even b fits.0 fits.1)
even_at w first (Site b k) fits = subst (λ o. IsEven (option_map_or one_of o no_pattern)) (sym fits.1) (λ slot is. of_one slot is)
  where
    of_one : (slot : Slot) → Among slot (any_slot fits.0 1 1 ∷ []) → slot.least ≡ slot.most
    of_one slot (inl e) = ap (λ (s : Slot). s.least) e ∙ sym (ap (λ (s : Slot). s.most) e)
    of_one slot (inr none) = absurd none

least_fits : (pattern : Pattern) (slot : Slot) (slots : List Slot) (had : List Had) → IsEven pattern → Fits pattern (slot ∷ slots) had → slot.least ≤ slot.most
least_fits (Slots all) slot slots had even fits = let same = even slot (sorted_among all slot (subst (Among slot) fits (Among-right slot (map slot_had had) (slot ∷ slots) (inl refl)))) in omega (arith, same)
least_fits (Gather total first second) slot slots [] even fits = let is : slot ≡ any_slot (lower first second) 0 total = cc in subst (λ (s : Slot). s.least ≤ s.most) (sym is) (omega arith)
least_fits (Gather total first second) slot slots (x ∷ []) even fits = subst (λ (s : Slot). s.least ≤ s.most) (sym (inside fits.1)) (omega arith)
  where
    inside : {s t : Slot} {ss : List Slot} → s ∷ ss ≡ t ∷ [] → s ≡ t
    inside is = cc
least_fits (Gather total first second) slot slots (x ∷ y ∷ []) even fits = absurd (let none : slot ∷ slots ≡ [] = fits.2 in cc)
least_fits (Gather total first second) slot slots (x ∷ y ∷ z ∷ more) even fits = absurd fits

-- the next slot's port is none of those that gave, and its least is no more than its most
pub next_slot : (w : Parts) → HasPortsApart w → PlainFacts w → (spot : Spot) → SpotFits w spot → (slot : Slot) (slots : List Slot) (had : List Had) → Fits (pattern_at w spot) (slot ∷ slots) had → ((d : Had) → Among d had → d.slot.port ≢ slot.port) × (slot.least ≤ slot.most)
next_slot w apart first spot fits slot slots had is = (apart_fits (pattern_at w spot) slot slots had (ports_apart w apart spot fits) is, least_fits (pattern_at w spot) slot slots had (even_at w first spot fits) is)
