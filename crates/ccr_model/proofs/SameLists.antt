-- Lists are the same by a test of their members, item by item.
use Rattle.std.proofs.Common.{◌≡◌, ℕ, Bool, List, [], ◌∷◌, refl}
use Rattle.std.specs.Prelude.{◌==◌, nat_eq}
use Rattle.std.specs.Cmp.Lexicographic.{pointwise}
use Rattle.ccr_base.specs.declared.names.TaskId.{TaskId}
use Rattle.ccr_base.specs.Names.{same_task, same_lists}

pub same_lists-pointwise : {X : Type 0} (same : X → X → Bool) (xs ys : List X) → pointwise same xs ys ≡ same_lists same xs ys
same_lists-pointwise same [] [] = refl
same_lists-pointwise same [] (y ∷ ys) = refl
same_lists-pointwise same (x ∷ xs) [] = refl
same_lists-pointwise same (x ∷ xs) (y ∷ ys) = rw (same_lists-pointwise same xs ys) refl

pub same_causes : (xs ys : List ℕ) → pointwise nat_eq xs ys ≡ same_lists (λ c d. c == d) xs ys
same_causes = same_lists-pointwise nat_eq

pub same_tasks : (xs ys : List TaskId) → pointwise same_task xs ys ≡ same_lists same_task xs ys
same_tasks = same_lists-pointwise same_task

pub ruleset same_items = (same_causes, same_tasks)
