-- Task names: being the same is an equivalence, and what that gives for lists of them.
use Rattle.std.proofs.Common.{◌≡◌, ℕ, ◌≤◌, ◌<◌, Bool, true, false, ◌&&◌, ◌||◌, ◌==◌, List, [], ◌∷◌, ◌++◌, length, refl, sym, ap, ◌∙◌, true≢false, arith, length-append, not, IsTrue}
use Rattle.std.proofs.lemmas.Bool.Decides.{nat_tests}
use Rattle.std.proofs.lemmas.Map.Keys.{IsDistinct-push}
use Rattle.std.proofs.lemmas.Map.Made.{length-le_from_is_member}
use Rattle.std.proofs.lemmas.Map.Steps.{list_any_congr}
use Rattle.std.specs.Cmp.{IsEquivalence}
use Rattle.std.specs.List.{IsDistinct}
use Rattle.ccr_base.specs.declared.names.TaskId.{TaskId}
use Rattle.ccr_base.specs.Names.{same_task, has_task}
use Rattle.ccr_base.proofs.SameNames.{has_task-push}
use Rattle.ccr_arbiter.specs.Spare.{AreAmong}

pub IsEquivalence-same_task : IsEquivalence same_task
IsEquivalence-same_task = record {
  refl = λ x. refl_of x.actor x.attempt;
  symm = λ x y. symm_of x.actor x.attempt y.actor y.attempt;
  congr = λ x y z. congr_of x.actor x.attempt y.actor y.attempt z.actor z.attempt;
}
  where
    refl_of : (a b : ℕ) → ((a == a) && (b == b)) ≡ true
    refl_of a b = grind (arith, nat_tests)

    symm_of : (a b c d : ℕ) → ((a == c) && (b == d)) ≡ ((c == a) && (d == b))
    symm_of a b c d = grind (arith, nat_tests)

    congr_of : (a b c d e f : ℕ) → ((a == c) && (b == d)) ≡ true → ((a == e) && (b == f)) ≡ ((c == e) && (d == f))
    congr_of a b c d e f h = grind (arith, nat_tests)

-- one of them may come to the shorter list
pub AreAmong-push : (tasks all : List TaskId) (last : TaskId) → AreAmong tasks all → has_task all last ≡ true → AreAmong (tasks ++ last ∷ []) all
AreAmong-push tasks all last among there = λ task found. of_test task (has_task tasks task) refl (sym (has_task-push tasks last task) ∙ found)
  where
    of_test : (task : TaskId) (b : Bool) → has_task tasks task ≡ b → (has_task tasks task || same_task task last) ≡ true → has_task all task ≡ true
    of_test task true is either = among task is
    of_test task false is either = list_any_congr IsEquivalence-same_task task last all (ap (λ b. b || same_task task last) (sym is) ∙ either) ∙ there

-- a name of the longer list that the shorter one lacks shows that it is longer
pub length-lt_from_missing : (tasks all : List TaskId) (missing : TaskId) → IsDistinct same_task tasks → AreAmong tasks all → has_task all missing ≡ true → has_task tasks missing ≡ false → length tasks < length all
length-lt_from_missing tasks all missing distinct among there absent =
    omega (arith, length-append tasks (missing ∷ []), length-le_from_is_member IsEquivalence-same_task (tasks ++ missing ∷ []) all (IsDistinct-push IsEquivalence-same_task tasks missing distinct absent) (AreAmong-push tasks all missing among there))

-- and in any case it isn't shorter
pub length-le_from_among : (tasks all : List TaskId) → IsDistinct same_task tasks → AreAmong tasks all → length tasks ≤ length all
length-le_from_among tasks all distinct among = length-le_from_is_member IsEquivalence-same_task tasks all distinct among

-- what the condition of noting a root over says
pub may_over-parts : (fired over : List TaskId) (root : TaskId) → IsTrue (has_task fired root && not (has_task over root)) → (has_task fired root ≡ true) × (has_task over root ≡ false)
may_over-parts fired over root may = of_tests (has_task fired root) (has_task over root) may
  where
    of_tests : (fired over : Bool) → IsTrue (fired && not over) → (fired ≡ true) × (over ≡ false)
    of_tests true false may = (refl, refl)
    of_tests true true may = absurd (true≢false (sym may))
    of_tests false over may = absurd (true≢false (sym may))
