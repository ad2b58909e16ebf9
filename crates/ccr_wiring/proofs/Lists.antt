-- Tests of the elements of a list.
use Rattle.std.proofs.Common.{◌≡◌, Bool, false, List, [], get_or}
use Rattle.std.specs.List.{list_any}
pub use Rattle.std.proofs.lemmas.Bool.{or_parts as neither}
use Rattle.std.proofs.lemmas.List.Folds.{list_any_none}

-- no element passes it
pub any_none : {X : Type 0} (p : X → Bool) (xs : List X) → ((x : X) → p x ≡ false) → list_any p xs ≡ false
any_none p xs none = list_any_none p xs (λ k d low. none (get_or xs k d))
