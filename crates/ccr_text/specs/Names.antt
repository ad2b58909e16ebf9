-- What the declared names stand for, in the order of their declaration.
use Rattle.std.specs.Prelude.{ℕ, List, [], ◌∷◌, Option, Some, None, if◌then◌else◌}
use Rattle.std.specs.Str.{bytes_eq}

-- what a name stands for
abbrev pub meaning_of : {T : Type 0} → List (List ℕ × T) → List ℕ → Option T
meaning_of [] word = None
meaning_of (entry ∷ names) word = if bytes_eq word entry.0 then Some entry.1 else meaning_of names word
