-- The history of a place.
use Rattle.std.specs.Prelude.{◌≡◌, Bool, true, ℕ, ◌^◌, ◌<◌, ◌≤◌, List, [], ◌∷◌, map, filter, length}
use Rattle.ccr_turns.specs.Lists.{total, Rises, last_of}
use Rattle.ccr_base.specs.Lists.{Each}
use Rattle.ccr_turns.specs.declared.history.Held.{Held}
use Rattle.ccr_turns.specs.declared.history.Cell.{Cell}
use Rattle.ccr_turns.specs.declared.kept.Keep.{Keep}
use Rattle.ccr_turns.specs.declared.kept.Keep.TheVariants.{Every, Seen}

-- the stamps of entries stay below this, which is far from the greatest of 128 bits
abbrev pub stamp_limit : ℕ
stamp_limit = 2 ^ 100

-- the stamps of a history, in its order
abbrev pub history_stamps : {N : Type 0} → List (Held N) → List ℕ
history_stamps entries = map (λ entry. entry.stamp) entries

-- the value that a history leaves, from the value at the start
abbrev pub left_by : {N X : Type 0} → (X → N → X) → X → List (Held N) → X
left_by after x [] = x
left_by after x (e ∷ es) = left_by after (after x e.note) es

-- each note is one that the object may give to some ask, after the notes before it
abbrev pub Given : {N X A R : Type 0} → (X → N → X) → (X → A → R → N → Type 0) → X → List (Held N) → Type 0
Given after may x [] = Unit {0}
Given {N} {X} {A} {R} after may x (e ∷ es) = ((ask : A) × (reply : R) × may x ask reply e.note) × Given after may (after x e.note) es

-- ---- what is kept in memory

-- whether a lock that keeps so much keeps the note, where these are to be seen
abbrev pub keeps : {N : Type 0} → Keep → (N → Bool) → N → Bool
keeps Every seen note = true
keeps Seen seen note = seen note

-- of a history, the entries that are kept
abbrev pub sifted : {N : Type 0} → (N → Bool) → List (Held N) → List (Held N)
sifted sees entries = filter (λ entry. sees entry.note) entries

-- the history of a cell
abbrev pub past : {O N : Type 0} → Cell O N → List (Held N)
past cell = cell.history.entries

-- the cell has of its history the entries that it keeps, the last stamp and the count
abbrev pub IsSifted : {O N : Type 0} → (N → Bool) → Cell O N → Type 0
IsSifted seen cell = (cell.seen.items ≡ sifted (keeps cell.keep seen) (past cell)) × (cell.last ≡ last_of 0 (history_stamps (past cell))) × (length (past cell) ≡ cell.count)

-- ---- places

-- a place: its object's value at the start, and its history
abbrev pub Place : Type 0 → Type 0 → Type 0
Place N X = X × List (Held N)

-- how many entries all places have
abbrev pub entries : {N X : Type 0} → List (Place N X) → ℕ
entries places = total (λ p. length p.1) places

-- the stamps of a history rise and none is above `most`, its notes were given, and its seats exist
pub record IsRight {N X A R : Type 0} (after : X → N → X) (may : X → A → R → N → Type 0) (seats most : ℕ) (p : Place N X) : Type 0 where
  pub rising : Rises 0 (history_stamps p.1)
  pub low : last_of 0 (history_stamps p.1) ≤ most
  pub fits : length p.1 < 2 ^ 64
  pub given : Given after may p.0 p.1
  pub known : Each (λ e. e.seat < seats) p.1
