-- What stands between separators. What stands behind the last one is a piece too, where it's empty as well.
use Rattle.std.specs.Prelude.{ℕ, ◌+◌, List, length, sum_by}
pub use Rattle.ccr_text.specs.Exact.{parts as pieces}

-- how many bytes the pieces have, with a separator behind each
abbrev pub bytes_in : List (List ℕ) → ℕ
bytes_in parts = sum_by (λ piece. length piece + 1) parts
