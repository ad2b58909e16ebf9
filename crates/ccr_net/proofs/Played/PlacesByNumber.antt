-- The places of a wiring by their numbers.
use Rattle.std.proofs.Common.{◌≡◌, ℕ, zero, suc, Bool, true, false, ◌&&◌, List, [], ◌∷◌, Some, refl, sym, ap, ◌∙◌, subst}
use Rattle.std.specs.Prelude.{◌==◌, if◌then◌else◌, slice_get, unwrap_or}
use Rattle.ccr_base.specs.declared.names.Place.{Place}
use Rattle.ccr_base.specs.declared.names.Place.TheVariants as places
use Rattle.ccr_wiring.specs.declared.parts.Parts.{Parts}
use Rattle.ccr_base.proofs.Booleans.{same_number, eq-self, both}
use Rattle.ccr_base.proofs.Options.{some_is}
use Rattle.ccr_object.specs.Starts.{places_of}
use Rattle.ccr_runs.specs.Played.{position_of, number_at, place_at}
use Rattle.ccr_runs.specs.EntryRuns.{same_place}

pub same_place-is : (p q : Place) → same_place p q ≡ true → p ≡ q
same_place-is (places.Port p) (places.Port q) is = ap places.Port (same_number p q is)
same_place-is (places.Arbiter p) (places.Arbiter q) is = ap places.Arbiter (same_number p q is)
same_place-is (places.Site b k) (places.Site c l) is = let two = both (b == c) (k == l) is in ap (λ n. places.Site n k) (same_number b c two.0) ∙ ap (places.Site c) (same_number k l two.1)
same_place-is (places.Queue p) (places.Queue q) is = ap places.Queue (same_number p q is)
same_place-is places.Meter places.Meter is = refl
same_place-is (places.Port p) (places.Arbiter q) is = absurd (cc)
same_place-is (places.Port p) (places.Site c l) is = absurd (cc)
same_place-is (places.Port p) (places.Queue q) is = absurd (cc)
same_place-is (places.Port p) places.Meter is = absurd (cc)
same_place-is (places.Arbiter p) (places.Port q) is = absurd (cc)
same_place-is (places.Arbiter p) (places.Site c l) is = absurd (cc)
same_place-is (places.Arbiter p) (places.Queue q) is = absurd (cc)
same_place-is (places.Arbiter p) places.Meter is = absurd (cc)
same_place-is (places.Site b k) (places.Port q) is = absurd (cc)
same_place-is (places.Site b k) (places.Arbiter q) is = absurd (cc)
same_place-is (places.Site b k) (places.Queue q) is = absurd (cc)
same_place-is (places.Site b k) places.Meter is = absurd (cc)
same_place-is (places.Queue p) (places.Port q) is = absurd (cc)
same_place-is (places.Queue p) (places.Arbiter q) is = absurd (cc)
same_place-is (places.Queue p) (places.Site c l) is = absurd (cc)
same_place-is (places.Queue p) places.Meter is = absurd (cc)
same_place-is places.Meter (places.Port q) is = absurd (cc)
same_place-is places.Meter (places.Arbiter q) is = absurd (cc)
same_place-is places.Meter (places.Site c l) is = absurd (cc)
same_place-is places.Meter (places.Queue q) is = absurd (cc)

pub same_place-self : (p : Place) → same_place p p ≡ true
same_place-self (places.Port p) = eq-self p
same_place-self (places.Arbiter p) = eq-self p
same_place-self (places.Site b k) = ap (λ t. t && (k == k)) (eq-self b) ∙ eq-self k
same_place-self (places.Queue p) = eq-self p
same_place-self places.Meter = refl

-- what stands in the list stands at its position there
pub position_there : (ps : List Place) (place : Place) (number : ℕ) → slice_get ps number ≡ Some place → slice_get ps (position_of place ps) ≡ Some place
position_there [] place number is = absurd (cc)
position_there (x ∷ []) place zero is = is
position_there (x ∷ []) place (suc number) is = absurd (cc)
position_there (x ∷ y ∷ more) place number is = by (same_place x place) refl number is (position_there (y ∷ more) place)
  where
    by : (b : Bool) → same_place x place ≡ b → (k : ℕ) → slice_get (x ∷ y ∷ more) k ≡ Some place → ((j : ℕ) → slice_get (y ∷ more) j ≡ Some place → slice_get (y ∷ more) (position_of place (y ∷ more)) ≡ Some place)
        → slice_get (x ∷ y ∷ more) (if b then 0 else suc (position_of place (y ∷ more))) ≡ Some place
    by true same k at later = ap Some (same_place-is x place same)
    by false other zero at later = absurd (let here : x ≡ place = cc in let same : same_place x place ≡ true = subst (λ p. same_place x p ≡ true) here (same_place-self x) in cc)
    by false other (suc k) at later = later k at

-- the place is one of the wiring's
abbrev pub Stands : Parts → Place → Type 0
Stands w place = slice_get (places_of w) (number_at w place) ≡ Some place

pub stands : (w : Parts) (place : Place) (number : ℕ) → slice_get (places_of w) number ≡ Some place → Stands w place
stands w place number is = position_there (places_of w) place number is

pub place_at-stands : (w : Parts) (place : Place) → Stands w place → place_at w (number_at w place) ≡ place
place_at-stands w place there = ap (λ o. unwrap_or o places.Meter) there

-- places of one number are one place
pub one_place : (w : Parts) (p q : Place) → Stands w p → Stands w q → number_at w p ≡ number_at w q → p ≡ q
one_place w p q here there same = some_is (sym here ∙ ap (slice_get (places_of w)) same ∙ there)

pub number_test : (w : Parts) (p q : Place) → Stands w p → Stands w q → (number_at w p == number_at w q) ≡ same_place p q
number_test w p q here there = by (number_at w p == number_at w q) refl (same_place p q) refl
  where
    by : (b : Bool) → (number_at w p == number_at w q) ≡ b → (c : Bool) → same_place p q ≡ c → (number_at w p == number_at w q) ≡ same_place p q
    by true at_one true same = at_one ∙ sym same
    by false apart false other = apart ∙ sym other
    by true at_one false other = absurd (let one = one_place w p q here there (same_number (number_at w p) (number_at w q) at_one) in let same : same_place p q ≡ true = subst (λ r. same_place p r ≡ true) one (same_place-self p) in cc)
    by false apart true same = absurd (let one = same_place-is p q same in let at_one : (number_at w p == number_at w q) ≡ true = subst (λ r. (number_at w p == number_at w r) ≡ true) one (eq-self (number_at w p)) in cc)
