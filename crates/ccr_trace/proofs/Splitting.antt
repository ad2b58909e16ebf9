-- There is a piece.
use Rattle.std.proofs.Common.{◌≡◌, ℕ, Bool, true, false, List, [], length, Bor, Option, Some, None, refl, sym}
use Rattle.std.specs.Prelude.{◌==◌, not, is_some}
use Rattle.std.specs.Option.{option_map_or}
use Rattle.ccr_trace.specs.Pieces.{pieces}
use Rattle.ccr_text.proofs.Parts.{parts_some}

-- pieces are left exactly where bytes are
pub none_left : (separator : ℕ) (rest : Option (Bor (List ℕ))) (none : Bool) → is_some rest ≡ not none → none ≡ (length (option_map_or (λ r. pieces separator r.now) rest []) == 0)
none_left separator None true e = refl
none_left separator None false e = absurd cc
none_left separator (Some r) true e = absurd cc
none_left separator (Some r) false e = sym (parts_some separator r.now)
