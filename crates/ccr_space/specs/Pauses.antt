-- How a thread waits.
use Rattle.std.specs.Prelude.{ℕ}

-- the yields of one wait, at most
abbrev pub most_yields : ℕ
most_yields = 64
