-- The spots that take from a port, by their indices, one by one.
use Rattle.std.proofs.Common.{◌≡◌, ◌∙◌, ℕ, ◌+◌, ◌<◌, ◌≤◌, Bool, true, false, ◌||◌, List, [], length, take, Option, None, Some, refl, ap, sym}
use Rattle.std.specs.Prelude.{◌==◌, filter}
use Rattle.std.specs.List.{slice_get, list_any}
use Rattle.std.specs.Option.{option_map_or}
use Rattle.std.proofs.Math.Bool.{and-true}
use Rattle.std.proofs.Math.ListN.{get_or}
use Rattle.std.proofs.lemmas.List.{take_all}
use Rattle.std.proofs.lemmas.Map.Views.{any-filter_same}
use Rattle.std.proofs.lemmas.Option.{slice_get-get_or}
use Rattle.ccr_base.specs.declared.names.Spot.{Spot}
use Rattle.ccr_base.specs.Names.{same_spot}
use Rattle.ccr_base.proofs.Lists.{any_more, any_at}
use Rattle.ccr_wiring.specs.declared.parts.Parts.{Parts}
use Rattle.ccr_wiring.specs.Takers.{spots_at, takes_from}
use Rattle.ccr_wiring.specs.Wirings.{spots}
use Rattle.ccr_wiring.proofs.Lists.{any_none}
use Rattle.ccr_base.proofs.SameNames.{same_spot-is, same_spot-self}
use Rattle.ccr_engine.specs.Indices.{first_index}
use Rattle.ccr_engine.specs.Numbered.{Gains, passes_at}
use Rattle.ccr_engine.proofs.Gaining.{gains-both, gains-same}
use Rattle.ccr_engine.proofs.SpotIndices.{spot_once}

-- a spot is found in a list where it stands
found : (ss : List Spot) (n : ℕ) (x : Spot) → slice_get ss n ≡ Some x → list_any (λ s. same_spot s x) ss ≡ true
found ss n x at = any_at (λ s. same_spot s x) ss n x at (same_spot-self x)

-- whether one of these spots stands at the index
abbrev pub stands_at : Parts → List Spot → ℕ → Bool
stands_at w some index = list_any (λ s. passes_at (same_spot s) (spots w) index) some

-- those that pass a test stand where it passes
all_stand : (w : Parts) (test : Spot → Bool) (index : ℕ) → stands_at w (filter test (spots w)) index ≡ passes_at test (spots w) index
all_stand w test index = of_option (slice_get (spots w) index) refl
  where
    of_option : (o : Option Spot) → slice_get (spots w) index ≡ o → list_any (λ s. option_map_or (same_spot s) o false) (filter test (spots w)) ≡ option_map_or test o false
    of_option None at = any_none (λ s. false) (filter test (spots w)) (λ s. refl)
    of_option (Some x) at = any-filter_same (λ s. same_spot s x) test (test x) (λ s is. ap test (same_spot-is s x is)) (spots w) ∙ rw (found (spots w) index x at) (and-true (test x))

-- one spot more came in
pub taker_next : (w : Parts) (takers : List Spot) (i : ℕ) (d : Spot) (index : Option ℕ) (old mid new : List ℕ) → i < length takers → index ≡ first_index (same_spot (get_or takers i d)) (spots w) → Gains (stands_at w (take i takers)) old mid → Gains (λ n. option_map_or (λ one. n == one) index false) mid new → Gains (stands_at w (take (i + 1) takers)) old new
taker_next w takers i d index old mid new low is before now = gains-both (stands_at w (take i takers)) (λ n. option_map_or (λ one. n == one) index false) (stands_at w (take (i + 1) takers)) old mid new more before now
  where
    spot : Spot
    spot = get_or takers i d

    more : (n : ℕ) → stands_at w (take (i + 1) takers) n ≡ stands_at w (take i takers) n || option_map_or (λ one. n == one) index false
    more n = any_more (λ s. passes_at (same_spot s) (spots w) n) takers i spot (slice_get-get_or takers i d low) ∙ ap (λ b. stands_at w (take i takers) n || b) (spot_once w spot n ∙ ap (λ o. option_map_or (λ one. n == one) o false) (sym is))

-- all that take from the port came in
pub takers_in : (w : Parts) (port : ℕ) (takers : List Spot) (i : ℕ) (old new : List ℕ) → takers ≡ spots_at w port → length takers ≤ i → Gains (stands_at w (take i takers)) old new → Gains (passes_at (takes_from w port) (spots w)) old new
takers_in w port takers i old new are all = gains-same (stands_at w (take i takers)) (passes_at (takes_from w port) (spots w)) old new (λ index. ap (λ some. stands_at w some index) (take_all i takers all ∙ are) ∙ all_stand w (takes_from w port) index)
