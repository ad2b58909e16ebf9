-- How often spots fired, after one event more.
use Rattle.std.proofs.Common.{◌≡◌, ◌+◌, ◌≤◌, ◌<◌, ℕ, Bool, true, false, cond, Option, Some, List, [], ◌∷◌, ◌++◌, length, take, map, get_or, refl, sym, ap, ◌∙◌, arith}
use Rattle.std.specs.Prelude.{unwrap_or}
use Rattle.std.specs.Map.{lookup}
use Rattle.std.proofs.lemmas.List.{take_more}
use Rattle.std.proofs.lemmas.Grind.{common_steps}
use Rattle.ccr_base.specs.declared.names.Spot.{Spot}
use Rattle.ccr_base.specs.declared.names.Spot.TheVariants.{Branch, Site}
use Rattle.ccr_base.specs.Names.{same_spot}
use Rattle.ccr_model.specs.declared.history.Event.{Event}
use Rattle.ccr_model.specs.declared.history.Event.TheVariants.{Post, Fire, Admit, Put, Start, End}
use Rattle.ccr_model.specs.Firings.{Firing, fired_at}
use Rattle.ccr_base.specs.contracts.names.SpotPartialEq.TheImpl.{ghosts as spots}
use Rattle.ccr_base.proofs.SameNames.{same_spot-is}
use Rattle.ccr_report.proofs.SameNames.{lookup_same}

-- the derived comparison of spots is the test of them
pub derived_spot : (s t : Spot) → spots.eq s t ≡ same_spot s t
derived_spot (Branch b) (Branch c) = refl
derived_spot (Branch b) (Site c l) = refl
derived_spot (Site b k) (Branch c) = refl
derived_spot (Site b k) (Site c l) = refl

-- the count of a spot, after a firing at one spot
pub spot_counted : (old new : List (Spot × ℕ)) (k q : Spot) (n : ℕ) → n ≡ unwrap_or (lookup (same_spot k) old) 0 → lookup (spots.eq q) new ≡ cond (spots.eq k q) (Some (n + 1)) (lookup (spots.eq q) old) → unwrap_or (lookup (same_spot q) new) 0 ≡ unwrap_or (lookup (same_spot q) old) 0 + cond (same_spot k q) 1 0
spot_counted old new k q n is updates =
    let found : lookup (same_spot q) new ≡ cond (same_spot k q) (Some (n + 1)) (lookup (same_spot q) old) =
    sym (lookup_same (spots.eq q) (same_spot q) (derived_spot q) new)
    ∙ updates
    ∙ ap (λ (b : Bool). cond b (Some (n + 1)) (lookup (spots.eq q) old)) (derived_spot k q)
    ∙ ap (λ (o : Option ℕ). cond (same_spot k q) (Some (n + 1)) o) (lookup_same (spots.eq q) (same_spot q) (derived_spot q) old)
    in
    ap (λ (o : Option ℕ). unwrap_or o 0) found ∙ of_test (same_spot k q) refl
  where
    of_test : (b : Bool) → same_spot k q ≡ b → unwrap_or (cond b (Some (n + 1)) (lookup (same_spot q) old)) 0 ≡ unwrap_or (lookup (same_spot q) old) 0 + cond b 1 0
    of_test true same = ap (λ (m : ℕ). m + 1) (is ∙ ap (λ (spot : Spot). unwrap_or (lookup (same_spot spot) old) 0) (same_spot-is k q same))
    of_test false same = omega arith

pub fired_at-append : (events more : List Event) (spot : Spot) → length (fired_at (events ++ more) spot) ≡ length (fired_at events spot) + length (fired_at more spot)
fired_at-append events more spot = grind (arith, common_steps)

pub fired_at-more : (events : List Event) (i : ℕ) (d : Event) (spot : Spot) → i < length events → length (fired_at (take (i + 1) events) spot) ≡ length (fired_at (take i events) spot) + length (fired_at (get_or events i d ∷ []) spot)
fired_at-more events i d spot l = ap (λ (es : List Event). length (fired_at es spot)) (take_more events i d l) ∙ fired_at-append (take i events) (get_or events i d ∷ []) spot

pub fired_at-one : (event : Event) (spot : Spot) → length (fired_at (event ∷ []) spot) ≤ 1
fired_at-one (Post message) spot = omega arith
fired_at-one (Fire task at messages cuts) spot = of_test (same_spot at spot)
  where
    of_test : (b : Bool) → length (map (λ (f : Firing). f.task) (cond b (record { task = task; spot = at; messages = messages; cuts = cuts } ∷ []) [])) ≤ 1
    of_test true = omega arith
    of_test false = omega arith
fired_at-one (Admit task) spot = omega arith
fired_at-one (Put task dropped) spot = omega arith
fired_at-one (Start task actor) spot = omega arith
fired_at-one (End task how) spot = omega arith

pub fired_at-le : (events : List Event) (spot : Spot) → length (fired_at events spot) ≤ length events
fired_at-le [] spot = omega arith
fired_at-le (event ∷ events) spot = omega (arith, fired_at-append (event ∷ []) events spot, fired_at-one event spot, fired_at-le events spot)
