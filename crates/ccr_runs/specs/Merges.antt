-- The acts of all places, and a place's part of them.
use Rattle.std.specs.Prelude.{◌≡◌, ℕ, suc, ◌≤◌, ◌==◌, cond, List, [], ◌∷◌, ◌++◌, map}
use Rattle.ccr_turns.specs.declared.history.Held.{Held}
use Rattle.ccr_runs.specs.declared.acts.Act.{Act}

-- the numbers don't fall, and the first is at least a
abbrev pub Climbs : ℕ → List ℕ → Type 0
Climbs a [] = Unit {0}
Climbs a (x ∷ xs) = (a ≤ x) × Climbs x xs

module _ {N : Type 0} where
  abbrev pub tag : ℕ → Held N → Act N
  tag place h = record { place = place; seat = h.seat; stamp = h.stamp; note = h.note }

  abbrev pub held : Act N → Held N
  held e = record { seat = e.seat; stamp = e.stamp; note = e.note }

  abbrev pub act_stamps : List (Act N) → List ℕ
  act_stamps acts = map (λ e. e.stamp) acts

  -- the place's part
  abbrev pub history_at : ℕ → List (Act N) → List (Held N)
  history_at p [] = []
  history_at p (e ∷ es) = cond (e.place == p) (held e ∷ history_at p es) (history_at p es)

  -- where two neighbours have one stamp, the first doesn't have the greater place
  abbrev pub IsBefore : Act N → List (Act N) → Type 0
  IsBefore e [] = Unit {0}
  IsBefore e (f ∷ fs) = e.stamp ≡ f.stamp → e.place ≤ f.place

  abbrev pub IsByPlace : List (Act N) → Type 0
  IsByPlace [] = Unit {0}
  IsByPlace (e ∷ es) = IsBefore e es × IsByPlace es

-- the acts of these places one after the other, with the numbers from p on
abbrev pub tagged : {O N : Type 0} → ℕ → List (O × List (Held N)) → List (Act N)
tagged p [] = []
tagged p (k ∷ ks) = map (tag p) k.1 ++ tagged (suc p) ks
