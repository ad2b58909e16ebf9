-- Over plain lists and numbers: a count where one more stands there, or one less.
use Rattle.std.proofs.Common.{◌≡◌, ℕ, suc, ◌+◌, ◌-◌, ◌<◌, Bool, true, false, not, ◌&&◌, ◌||◌, List, [], ◌∷◌, ◌++◌, length, filter, refl, ap, ◌∙◌, arith, subst, append-nil}
use Rattle.std.specs.Prelude.{◌==◌, if◌then◌else◌}
use Rattle.std.proofs.Math.Bool.{and-true}
use Rattle.ccr_base.specs.declared.names.TaskId.{TaskId}
use Rattle.ccr_base.specs.Names.{same_task, has_task, without}
use Rattle.ccr_model.specs.Consequences.{are_distinct_tasks}
use Rattle.ccr_base.proofs.SameNames.{same_task-is, same_task-self, same_task-sym, has_task-append}
use Rattle.ccr_base.proofs.Booleans.{both, not_true, or_left, or_right, and_false, same_number}
use Rattle.ccr_base.proofs.Filters.{count_push}
use Rattle.ccr_model.proofs.TasksLeft.{filter_on}
use Rattle.ccr_ledger.specs.Books.{number, more, less}
use Rattle.ccr_ledger.proofs.Tables.{number-set}

-- the number with one more where one comes, and with one less where one goes
abbrev pub more_if : Bool → ℕ → ℕ
more_if comes n = if comes then n + 1 else n

abbrev pub less_if : Bool → ℕ → ℕ
less_if goes n = if goes then n - 1 else n

-- what stands at an index after one more, and after one less, at another
pub number-more : (is : Bool) (numbers : List ℕ) (index k : ℕ) → k < length numbers → number (if is then more index numbers else numbers) k ≡ more_if (is && (index == k)) (number numbers k)
number-more false numbers index k low = refl
number-more true numbers index k low = number-set numbers index k (number numbers index + 1) low ∙ of_test (index == k) refl
  where
    of_test : (b : Bool) → (index == k) ≡ b → (if b then number numbers index + 1 else number numbers k) ≡ more_if b (number numbers k)
    of_test true is = ap (λ n. number numbers n + 1) (same_number index k is)
    of_test false is = refl

pub number-less : (is : Bool) (numbers : List ℕ) (index k : ℕ) → k < length numbers → number (if is then less index numbers else numbers) k ≡ less_if (is && (index == k)) (number numbers k)
number-less false numbers index k low = refl
number-less true numbers index k low = number-set numbers index k (number numbers index - 1) low ∙ of_test (index == k) refl
  where
    of_test : (b : Bool) → (index == k) ≡ b → (if b then number numbers index - 1 else number numbers k) ≡ less_if b (number numbers k)
    of_test true is = ap (λ n. number numbers n - 1) (same_number index k is)
    of_test false is = refl

-- one more in a list
pub length-more : {X : Type 0} (p : X → Bool) (xs : List X) (x : X) → length (filter p (xs ++ x ∷ [])) ≡ more_if (p x) (length (filter p xs))
length-more p xs x = count_push p xs x ∙ of_test (p x)
  where
    of_test : (b : Bool) → length (filter p xs) + (if b then 1 else 0) ≡ more_if b (length (filter p xs))
    of_test true = refl
    of_test false = omega arith

-- as many pass where the one that goes was none of them
none_goes : (p q : TaskId → Bool) (ts : List TaskId) (t : TaskId) → ((u : TaskId) → has_task ts u ≡ true → q u ≡ p u && not (same_task u t)) → has_task ts t && p t ≡ false → filter q ts ≡ filter p ts
none_goes p q ts t same out = filter_on q p ts (λ u among. same u among ∙ of_test u among (same_task u t) refl)
  where
    of_test : (u : TaskId) → has_task ts u ≡ true → (b : Bool) → same_task u t ≡ b → p u && not b ≡ p u
    of_test u among false is = and-true (p u)
    of_test u among true is =
        let one : u ≡ t = same_task-is u t is in
        let there : has_task ts t ≡ true = subst (λ x. has_task ts x ≡ true) one among in
        let fails : p t ≡ false = rw there at out in
        rw (one, fails) refl

-- one less where it was one of them
one_goes : (p q : TaskId → Bool) (ts : List TaskId) (t : TaskId) → are_distinct_tasks ts ≡ true → ((u : TaskId) → has_task ts u ≡ true → q u ≡ p u && not (same_task u t)) → has_task ts t ≡ true → p t ≡ true → length (filter p ts) ≡ suc (length (filter q ts))
one_goes p q [] t once same among passes = absurd (cc)
one_goes p q (x ∷ ts) t once same among passes =
    let parts = both (not (has_task ts x)) (are_distinct_tasks ts) once in
    let later : (u : TaskId) → has_task ts u ≡ true → q u ≡ p u && not (same_task u t) = λ u is. same u (or_right (same_task u x) (has_task ts u) is) in
    of_test (same_task x t) refl (same x (or_left (same_task x x) (has_task ts x) (same_task-self x))) (not_true (has_task ts x) parts.0) (none_goes p q ts t later) (λ rest. one_goes p q ts t parts.1 later rest passes)
  where
    of_pass : (b : Bool) → length (filter p ts) ≡ suc (length (filter q ts)) → length (if b then x ∷ filter p ts else filter p ts) ≡ suc (length (if b then x ∷ filter q ts else filter q ts))
    of_pass true rest = ap suc rest
    of_pass false rest = rest

    of_test : (b : Bool) → same_task x t ≡ b → q x ≡ p x && not (same_task x t) → has_task ts x ≡ false → (has_task ts t && p t ≡ false → filter q ts ≡ filter p ts) → (has_task ts t ≡ true → length (filter p ts) ≡ suc (length (filter q ts))) → length (filter p (x ∷ ts)) ≡ suc (length (filter q (x ∷ ts)))
    of_test true is here out first rest =
        let one : x ≡ t = same_task-is x t is in
        let passes_here : p x ≡ true = rw one passes in
        let fails : q x ≡ false = here ∙ rw is (and_false (p x)) in
        let gone : has_task ts t ≡ false = subst (λ u. has_task ts u ≡ false) one out in
        rw (passes_here, fails, first (rw gone refl)) refl
    of_test false is here out first rest =
        let same_here : q x ≡ p x = here ∙ rw is (and-true (p x)) in
        let behind : has_task ts t ≡ true = rw (same_task-sym t x, is) at among in
        rw same_here (of_pass (p x) (rest behind))

-- those that pass without one, who stood there once if he did
pub length-less : (p q : TaskId → Bool) (ts : List TaskId) (t : TaskId) → are_distinct_tasks ts ≡ true → ((u : TaskId) → has_task ts u ≡ true → q u ≡ p u && not (same_task u t)) → length (filter q ts) ≡ less_if (has_task ts t && p t) (length (filter p ts))
length-less p q ts t once same = of_test (has_task ts t && p t) refl
  where
    of_test : (b : Bool) → has_task ts t && p t ≡ b → length (filter q ts) ≡ less_if b (length (filter p ts))
    of_test false out = ap length (none_goes p q ts t same out)
    of_test true within =
        let parts = both (has_task ts t) (p t) within in
        let long = one_goes p q ts t once same parts.0 parts.1 in
        omega (arith, long)

-- one more gone
pub left-less : (ts gone : List TaskId) (t : TaskId) → are_distinct_tasks ts ≡ true → has_task gone t ≡ false → length (without ts (gone ++ t ∷ [])) ≡ less_if (has_task ts t) (length (without ts gone))
left-less ts gone t once out =
    length-less (λ u. not (has_task gone u)) (λ u. not (has_task (gone ++ t ∷ []) u)) ts t once (λ u among. rw (has_task-append gone (t ∷ []) u) (of_tests (has_task gone u) (same_task u t)))
    ∙ ap (λ b. less_if b (length (without ts gone))) (ap (λ b. has_task ts t && not b) out ∙ and-true (has_task ts t))
  where
    of_tests : (a b : Bool) → not (a || (b || false)) ≡ not a && not b
    of_tests true b = refl
    of_tests false true = refl
    of_tests false false = refl

-- one more that isn't gone
pub left-more : (ts gone : List TaskId) (t : TaskId) (is : Bool) → has_task gone t ≡ false → length (without (ts ++ (if is then t ∷ [] else [])) gone) ≡ more_if is (length (without ts gone))
left-more ts gone t true out = length-more (λ u. not (has_task gone u)) ts t ∙ ap (λ b. more_if (not b) (length (without ts gone))) out
left-more ts gone t false out = ap (λ us. length (without us gone)) (append-nil ts)
