-- Rows past the last, and lists that grow by one.
use Rattle.std.proofs.Common.{◌≡◌, ℕ, zero, suc, ◌+◌, ◌≤◌, List, [], ◌∷◌, ◌++◌, length, take, Option, refl, sym, arith, append-nil, option_to_list}
use Rattle.std.specs.List.{slice_get}
use Rattle.ccr_base.specs.declared.names.TaskId.{TaskId}
use Rattle.ccr_base.specs.declared.names.MsgId.{MsgId}
use Rattle.ccr_base.specs.declared.messages.Msg.{Msg}
use Rattle.ccr_base.specs.declared.patterns.Pred.{Pred}
use Rattle.ccr_base.specs.Selection.{fitting}
use Rattle.ccr_base.proofs.Lists.{take_next}
use Rattle.ccr_ledger.specs.Rows.{row}
use Rattle.ccr_ledger.specs.Taken.{shared}

pub row-past : {T : Type 0} (rows : List (List T)) (n : ℕ) → length rows ≤ n → row rows n ≡ []
row-past [] n past = refl
row-past (r ∷ rows) zero past = absurd (omega arith)
row-past (r ∷ rows) (suc n) past = row-past rows n (omega arith)

pub take-none : (n : ℕ) → take {A = Msg} n [] ≡ []
take-none zero = refl
take-none (suc n) = refl

pub takes-none : (taken : List Msg) (rows : List (List Msg)) (n count : ℕ) → length rows ≤ n → taken ≡ taken ++ take count (row rows n)
takes-none taken rows n count past = rw (row-past rows n past, take-none count) (sym (append-nil taken))

pub takes-none-fitting : (taken : List Msg) (rows : List (List Msg)) (n count : ℕ) (pred : Pred) → length rows ≤ n → taken ≡ taken ++ take count (fitting pred (row rows n))
takes-none-fitting taken rows n count pred past = rw (row-past rows n past, take-none count) (sym (append-nil taken))

none-shared : (names : List MsgId) → 0 ≡ shared [] names
none-shared [] = refl
none-shared (n ∷ names) = refl

pub shares-none : (rows : List (List Msg)) (n : ℕ) (names : List MsgId) → length rows ≤ n → 0 ≡ shared (row rows n) names
shares-none rows n names past = rw (row-past rows n past) (none-shared names)

-- one more of the first
pub taken-one : (n : ℕ) (xs tasks : List TaskId) (o : Option TaskId) → o ≡ slice_get xs n → tasks ≡ take n xs → tasks ++ option_to_list o ≡ take (n + 1) xs
taken-one n xs tasks o is so = rw (is, so) (sym (take_next xs n))
