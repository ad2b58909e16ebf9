-- Chains of keys: each key with the keys of its neighbours, and the first and the last.
--
-- A point of a chain is a key, or None: the point before the first key and behind the last one.
use Rattle.std.specs.Prelude.{◌≡◌, ℕ, zero, suc, Bool, true, false, ◌==◌, List, [], ◌∷◌, Option, Some, None, if◌then◌else◌}
use Rattle.std.specs.Option.{option_and_then}
use Rattle.ccr_base.specs.Lists.{has_number, are_apart}
use Rattle.ccr_port.specs.declared.links.Link.{Link}

-- what stands behind a point, where the links of the keys and the first key are these
abbrev pub behind_of : (ℕ → Option Link) → Option ℕ → Option ℕ → Option ℕ
behind_of links first None = first
behind_of links first (Some key) = option_and_then (λ (link : Link). link.behind) (links key)

-- what stands before a point, where the links of the keys and the last key are these
abbrev pub before_of : (ℕ → Option Link) → Option ℕ → Option ℕ → Option ℕ
before_of links last None = last
before_of links last (Some key) = option_and_then (λ (link : Link). link.before) (links key)

-- the keys from this one on, at most so many
abbrev pub keys_from : (Option ℕ → Option ℕ) → ℕ → Option ℕ → List ℕ
keys_from behind count None = []
keys_from behind zero (Some key) = []
keys_from behind (suc count) (Some key) = key ∷ keys_from behind count (behind (Some key))

-- behind the point stand these keys, each behind the one before it, and no more
abbrev pub IsPath : (Option ℕ → Option ℕ) → Option ℕ → List ℕ → Type 0
IsPath behind point [] = behind point ≡ None
IsPath behind point (key ∷ keys) = (behind point ≡ Some key) × IsPath behind (Some key) keys

-- before each of these keys stands the one before it, before the first the point, and before the end the last
abbrev pub IsWayBack : (Option ℕ → Option ℕ) → Option ℕ → List ℕ → Type 0
IsWayBack before point [] = before None ≡ point
IsWayBack before point (key ∷ keys) = (before (Some key) ≡ point) × IsWayBack before (Some key) keys

-- whether the key is one of these
abbrev pub has_key : ℕ → List ℕ → Bool
has_key key keys = has_number keys key

-- the keys without this one
abbrev pub without_key : ℕ → List ℕ → List ℕ
without_key key [] = []
without_key key (other ∷ keys) = if other == key then keys else other ∷ without_key key keys

-- these keys are linked in this order, and no other
pub record IsChain (behind before : Option ℕ → Option ℕ) (keys : List ℕ) : Type 0 where
  pub path : IsPath behind None keys
  pub back : IsWayBack before None keys
  pub apart : are_apart keys ≡ true

-- whether two points are one
abbrev pub same_point : Option ℕ → Option ℕ → Bool
same_point None None = true
same_point None (Some b) = false
same_point (Some a) None = false
same_point (Some a) (Some b) = a == b

-- the same neighbours, but for the one of this point
abbrev pub mended : (Option ℕ → Option ℕ) → Option ℕ → Option ℕ → Option ℕ → Option ℕ
mended neighbour point key other = if same_point other point then key else neighbour other
