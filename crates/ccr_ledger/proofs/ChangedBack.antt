-- What was changed and is changed back.
use Rattle.std.proofs.Common.{◌≡◌, ℕ, zero, suc, ◌+◌, ◌-◌, Bool, true, false, List, [], ◌∷◌, ◌++◌, refl, ap, ◌∙◌, arith}
use Rattle.std.specs.Prelude.{if◌then◌else◌}
use Rattle.ccr_base.specs.declared.names.TaskId.{TaskId}
use Rattle.ccr_base.specs.declared.names.MsgId.{MsgId}
use Rattle.ccr_base.specs.declared.names.MsgId.TheVariants.{Script, Task}
use Rattle.ccr_base.specs.Names.{same_task}
use Rattle.ccr_ledger.specs.Rows.{row, with_row}
use Rattle.ccr_ledger.specs.declared.cards.Card.{Card}
use Rattle.ccr_ledger.specs.Books.{Books, changed, less, more}
use Rattle.ccr_ledger.specs.Posting.{counted, uncounted, with_post, without_post}

one-back : (n : ℕ) → n + 1 - 1 ≡ n
one-back n = omega arith

-- one more and one less
pub less_more : (n : ℕ) (numbers : List ℕ) → less n (more n numbers) ≡ numbers
less_more zero [] = refl
less_more (suc n) [] = refl
less_more zero (c ∷ numbers) = ap (λ k. k ∷ numbers) (one-back c)
less_more (suc n) (c ∷ numbers) = ap (λ (ks : List ℕ). c ∷ ks) (less_more n numbers)

-- a change that changes nothing
pub changed-same : (cards : List (TaskId × Card)) (t : TaskId) → changed (λ card. card) t cards ≡ cards
changed-same [] t = refl
changed-same (e ∷ cards) t = of_test (same_task t e.0) (changed-same cards t)
  where
    of_test : (b : Bool) → changed (λ card. card) t cards ≡ cards → (if b then (e.0, e.1) ∷ cards else e ∷ changed (λ card. card) t cards) ≡ e ∷ cards
    of_test true rest = refl
    of_test false rest = ap (λ (es : List (TaskId × Card)). e ∷ es) rest

-- a post more and a post less
posts-back : (cards : List (TaskId × Card)) (t : TaskId) → changed without_post t (changed with_post t cards) ≡ cards
posts-back [] t = refl
posts-back (e ∷ cards) t = of_test (same_task t e.0) refl (posts-back cards t)
  where
    of_test : (b : Bool) → same_task t e.0 ≡ b → changed without_post t (changed with_post t cards) ≡ cards
        → changed without_post t (if b then (e.0, with_post e.1) ∷ cards else e ∷ changed with_post t cards) ≡ e ∷ cards
    of_test true is rest = rw is (ap (λ n. (e.0, record e.1 { made = n }) ∷ cards) (one-back e.1.made))
    of_test false is rest = rw is (ap (λ (es : List (TaskId × Card)). e ∷ es) rest)

pub uncounted_counted : (name : MsgId) (books : Books) → uncounted name (counted name books) ≡ books
uncounted_counted (Script actor index) books = ap (λ posts. record books { script_posts = posts }) (less_more actor books.script_posts)
uncounted_counted (Task task index) books =
    ap (λ cards. record books { tasks = cards; task_posts = books.task_posts + 1 - 1 }) (posts-back books.tasks task)
    ∙ ap (λ posts. record books { task_posts = posts }) (one-back books.task_posts)

-- the item that enters an emptied row stands there alone
pub alone : (rows : List (List TaskId)) (n : ℕ) (task : TaskId) → with_row (with_row rows n []) n (row (with_row rows n []) n ++ task ∷ []) ≡ with_row rows n (task ∷ [])
alone [] zero task = refl
alone [] (suc n) task = refl
alone (r ∷ rows) zero task = refl
alone (r ∷ rows) (suc n) task = ap (λ (rs : List (List TaskId)). r ∷ rs) (alone rows n task)
