-- What passes after a step: what passed before, or what the step touches.
use Rattle.std.proofs.Common.{◌≡◌, ◌∙◌, ℕ, Bool, false, List, Option, Some, None, refl, sym}
use Rattle.std.specs.List.{slice_get}
use Rattle.std.specs.Option.{option_map_or}
use Rattle.ccr_base.proofs.Booleans.{neither}
use Rattle.ccr_base.specs.Lists.{has_number}
use Rattle.ccr_engine.specs.Numbered.{Gains, passes_at}

-- over plain lists: what passed at the index only if it is an old one passes there only if it is a new one
pub still-gains : {T : Type 0} (was is touched : T → Bool) (xs : List T) (old new : List ℕ) → ((x : T) → touched x ≡ false → was x ≡ false → is x ≡ false) → (n : ℕ)
    → (has_number old n ≡ false → passes_at was xs n ≡ false) → Gains (passes_at touched xs) old new → has_number new n ≡ false → passes_at is xs n ≡ false
still-gains was is touched xs old new keeps n known gains out =
    let outs = neither (passes_at touched xs n) (has_number old n) (sym (gains.members n) ∙ out) in
    of_option (slice_get xs n) outs.0 (known outs.1)
  where
    of_option : (o : Option _) → option_map_or touched o false ≡ false → option_map_or was o false ≡ false → option_map_or is o false ≡ false
    of_option None none before = refl
    of_option (Some x) none before = keeps x none before
