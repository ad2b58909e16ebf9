-- What holds of each item of a list.
use Rattle.std.proofs.Common.{◌≡◌, Bool, false, List, [], ◌∷◌, ◌++◌, refl}
use Rattle.std.specs.List.{list_any}
pub use Rattle.std.proofs.lemmas.Bool.{and_parts as both}
pub use Rattle.std.proofs.lemmas.Bool.{or_parts as neither}
use Rattle.ccr_base.specs.Lists.{Each}

pub each_more : {X : Type 0} (P Q : X → Type 0) → ((x : X) → P x → Q x) → (xs : List X) → Each P xs → Each Q xs
each_more P Q more [] each = tt
each_more P Q more (x ∷ xs) each = (more x each.0, each_more P Q more xs each.1)

pub each_false : {X : Type 0} (P : X → Type 0) (f : X → Bool) → ((x : X) → P x → f x ≡ false) → (xs : List X) → Each P xs → list_any f xs ≡ false
each_false P f test [] each = refl
each_false P f test (x ∷ xs) each = rw (test x each.0, each_false P f test xs each.1) refl

pub each_insert : {X : Type 0} (P : X → Type 0) (xs ys : List X) (x : X) → Each P (xs ++ ys) → P x → Each P (xs ++ x ∷ ys)
each_insert P [] ys x each here = (here, each)
each_insert P (y ∷ xs) ys x each here = (each.0, each_insert P xs ys x each.1 here)

pub none_inserted : {X : Type 0} (f : X → Bool) (xs ys : List X) (x : X) → list_any f (xs ++ ys) ≡ false → f x ≡ false → list_any f (xs ++ x ∷ ys) ≡ false
none_inserted f [] ys x none here = rw (here, none) refl
none_inserted f (y ∷ xs) ys x none here =
    let parts = neither (f y) (list_any f (xs ++ ys)) none in
    rw (parts.0, none_inserted f xs ys x parts.1 here) refl
