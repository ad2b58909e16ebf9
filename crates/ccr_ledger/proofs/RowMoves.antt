-- Over plain rows of tasks: the first leaves its row, another enters behind.
use Rattle.std.proofs.Common.{◌≡◌, ℕ, ◌<◌, Bool, true, false, List, [], ◌∷◌, ◌++◌, length, drop, refl, sym, ap, ◌∙◌, append-nil, subst}
use Rattle.std.specs.Prelude.{◌==◌, if◌then◌else◌}
use Rattle.ccr_base.specs.declared.names.TaskId.{TaskId}
use Rattle.ccr_base.specs.Names.{has_task, without}
use Rattle.ccr_model.specs.Consequences.{are_distinct_tasks}
use Rattle.ccr_base.proofs.Booleans.{same_number}
use Rattle.ccr_model.proofs.TaskLists.{without_first, without_other}
use Rattle.ccr_ledger.specs.Rows.{row, with_row}
use Rattle.ccr_ledger.proofs.Tables.{row-with_row}

-- the first of one row leaves it, and stands in no other
pub row-left : (rows : List (List TaskId)) (lists : ℕ → List TaskId) (n k : ℕ) (t : TaskId) (others : List TaskId) → k < length rows → row rows k ≡ lists k → lists n ≡ t ∷ others → are_distinct_tasks (lists n) ≡ true → ((n == k) ≡ false → has_task (lists k) t ≡ false)
    → row (with_row rows n (drop 1 (row rows n))) k ≡ without (lists k) (t ∷ [])
row-left rows lists n k t others low known first once elsewhere = row-with_row rows n k (drop 1 (row rows n)) low ∙ of_test (n == k) refl
  where
    of_test : (b : Bool) → (n == k) ≡ b → (if b then drop 1 (row rows n) else row rows k) ≡ without (lists k) (t ∷ [])
    of_test true is =
        let one : n ≡ k = same_number n k is in
        let here : row rows n ≡ t ∷ others = subst (λ m. row rows m ≡ lists m) (sym one) known ∙ first in
        let apart : are_distinct_tasks (t ∷ others) ≡ true = subst (λ ts. are_distinct_tasks ts ≡ true) first once in
        ap (drop 1) here ∙ (sym (without_first others t apart) ∙ ap (λ ts. without ts (t ∷ [])) (sym first ∙ ap lists one))
    of_test false is = known ∙ sym (without_other (lists k) t (elsewhere is))

-- one more stands behind the others of its row
pub row-entered : (rows : List (List TaskId)) (n k : ℕ) (t : TaskId) → k < length rows → row (with_row rows n (row rows n ++ t ∷ [])) k ≡ row rows k ++ (if n == k then t ∷ [] else [])
row-entered rows n k t low = row-with_row rows n k (row rows n ++ t ∷ []) low ∙ of_test (n == k) refl
  where
    of_test : (b : Bool) → (n == k) ≡ b → (if b then row rows n ++ t ∷ [] else row rows k) ≡ row rows k ++ (if b then t ∷ [] else [])
    of_test true is = ap (λ m. row rows m ++ t ∷ []) (same_number n k is)
    of_test false is = sym (append-nil (row rows k))
