-- Room behind what stands.
use Rattle.std.proofs.Common.{◌≡◌, ℕ, ◌+◌, refl, add-zero}
use Rattle.std.specs.Prelude.{nat_lt}

-- with nothing begun
pub room_alone : (count limit : ℕ) → nat_lt (count + 0) limit ≡ nat_lt count limit
room_alone count limit = rw (add-zero count) refl
