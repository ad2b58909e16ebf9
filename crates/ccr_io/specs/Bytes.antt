-- What reads take and writes add, where a source or a sink tells its bytes.
use Rattle.std.specs.Prelude.{◌≡◌, ℕ, ◌<◌, ◌≤◌, List, [], ◌++◌, length, take, Option, Some, None}

-- what was read stood at the front of what was to come, and was taken off
abbrev pub IsTakenOff : List ℕ → Option (List ℕ) → Option (List ℕ) → Type 0
IsTakenOff read None after = Unit {0}
IsTakenOff read (Some before) None = ⊥
IsTakenOff read (Some before) (Some after) = before ≡ read ++ after

-- at most this many bytes were taken off
abbrev pub TakesAtMost : ℕ → Option (List ℕ) → Option (List ℕ) → Type 0
TakesAtMost most before after = (read : List ℕ) × (length read ≤ most) × IsTakenOff read before after

-- more bytes than this are to come, where that is told
abbrev pub IsLongerThan : ℕ → Option (List ℕ) → Type 0
IsLongerThan limit None = Unit {0}
IsLongerThan limit (Some rest) = limit < length rest

-- nothing is left, where that is told
abbrev pub IsAtEnd : Option (List ℕ) → Type 0
IsAtEnd None = Unit {0}
IsAtEnd (Some rest) = rest ≡ []

-- these bytes were all that was to come, and nothing is left
abbrev pub HoldsAll : List ℕ → Option (List ℕ) → Option (List ℕ) → Type 0
HoldsAll bytes None after = Unit {0}
HoldsAll bytes (Some before) after = (before ≡ bytes) × (after ≡ Some [])

-- the piece stands behind what was written before, which was told where what is written after is told
abbrev pub IsAdded : List ℕ → Option (List ℕ) → Option (List ℕ) → Type 0
IsAdded piece before None = Unit {0}
IsAdded piece None (Some after) = ⊥
IsAdded piece (Some before) (Some after) = after ≡ before ++ piece

-- a prefix of the text was added
abbrev pub IsPrefixAdded : List ℕ → Option (List ℕ) → Option (List ℕ) → Type 0
IsPrefixAdded text before after = (count : ℕ) × (count ≤ length text) × IsAdded (take count text) before after
