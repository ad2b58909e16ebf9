-- The room of a line that is built from its end.
use Rattle.std.specs.Prelude.{ℕ, List, length, ◌+◌, ◌≤◌}

-- the bytes of such a line, at most
abbrev pub line_room : ℕ
line_room = 96

-- the digits of a number of 64 bits, and of one of 32 bits, at most
abbrev pub most_number_digits : ℕ
most_number_digits = 20

abbrev pub most_index_digits : ℕ
most_index_digits = 10

-- so many bytes more fit before these
abbrev pub Fits : ℕ → List ℕ → Type 0
Fits more text = length text + more ≤ line_room
