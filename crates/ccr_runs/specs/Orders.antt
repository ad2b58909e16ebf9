-- Lists in the order of their stamps.
use Rattle.std.specs.Prelude.{ℕ, leb, cond, List, [], ◌∷◌}
use Rattle.ccr_turns.specs.declared.history.Held.{Held}
use Rattle.ccr_runs.specs.declared.acts.Act.{Act}
use Rattle.ccr_runs.specs.Merges.{tagged}

module _ {X : Type 0} (stamp : X → ℕ) where
  -- before the first whose stamp isn't lower
  abbrev pub put_in : X → List X → List X
  put_in x [] = x ∷ []
  put_in x (y ∷ ys) = cond (leb (stamp x) (stamp y)) (x ∷ y ∷ ys) (y ∷ put_in x ys)

  -- by their stamps, and where stamps are equal as they stood
  abbrev pub in_order : List X → List X
  in_order [] = []
  in_order (x ∷ xs) = put_in x (in_order xs)

-- the acts of all places by their stamps, where stamps are equal by their places, and each place's as they stood
abbrev pub merged : {O N : Type 0} → List (O × List (Held N)) → List (Act N)
merged {O} {N} kept = in_order (λ (e : Act N). e.stamp) (tagged 0 kept)
