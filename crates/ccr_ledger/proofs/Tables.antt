-- Over plain rows, counts and cards: what stands there after one change.
use Rattle.std.proofs.Common.{◌≡◌, ℕ, zero, suc, ◌<◌, Bool, true, false, List, [], ◌∷◌, length, Some, None, refl, ap, ◌∙◌, arith, length-set, sym}
use Rattle.std.specs.Prelude.{◌==◌, if◌then◌else◌, option_map, slice_set, cond}
use Rattle.std.specs.Map.{set_value}
use Rattle.std.proofs.lemmas.Bool.Decides.{nat_tests}
use Rattle.ccr_base.specs.declared.names.TaskId.{TaskId}
use Rattle.ccr_base.specs.Names.{same_task}
use Rattle.ccr_ledger.specs.Rows.{row, with_row}
use Rattle.ccr_base.proofs.SameNames.{same_task-is, same_task-self, same_task-sym}
use Rattle.ccr_ledger.specs.declared.cards.Card.{Card}
use Rattle.ccr_ledger.specs.Books.{number, flag, card_at, changed}
use Rattle.std.specs.Option.{option_map_or}
use Rattle.std.specs.List.{slice_get}
use Rattle.ccr_base.proofs.Booleans.{differ}
use Rattle.ccr_base.proofs.Options.{get-set_other}

pub length-with_row : {T : Type 0} (rows : List (List T)) (n : ℕ) (items : List T) → length (with_row rows n items) ≡ length rows
length-with_row rows n items = length-set rows n items

-- what stands at an index, or else the default, where another one is put
set_there : {X : Type 0} (default : X) (xs : List X) (n k : ℕ) (x : X) → k < length xs → option_map_or (λ (y : X). y) (slice_get (slice_set xs n x) k) default ≡ (if n == k then x else option_map_or (λ (y : X). y) (slice_get xs k) default)
set_there default [] n k x low = absurd (omega arith)
set_there default (y ∷ xs) zero zero x low = refl
set_there default (y ∷ xs) zero (suc k) x low = grind (arith, nat_tests)
set_there default (y ∷ xs) (suc n) zero x low = grind (arith, nat_tests)
set_there default (y ∷ xs) (suc n) (suc k) x low = set_there default xs n k x (omega arith) ∙ grind (arith, nat_tests)

pub row-with_row : {T : Type 0} (rows : List (List T)) (n k : ℕ) (items : List T) → k < length rows → row (with_row rows n items) k ≡ (if n == k then items else row rows k)
row-with_row = set_there []

pub number-set : (numbers : List ℕ) (n k count : ℕ) → k < length numbers → number (slice_set numbers n count) k ≡ (if n == k then count else number numbers k)
number-set = set_there 0

pub flag-set : (flags : List Bool) (n k : ℕ) (up : Bool) → k < length flags → flag (slice_set flags n up) k ≡ (if n == k then up else flag flags k)
flag-set = set_there false

-- a changed card is found changed, the others as they were
pub card-changed : (change : Card → Card) (cards : List (TaskId × Card)) (t u : TaskId) → card_at (changed change t cards) u ≡ (if same_task t u then option_map change (card_at cards u) else card_at cards u)
card-changed change [] t u = of_same (same_task t u)
  where
    of_same : (b : Bool) → None ≡ (if b then option_map change None else None)
    of_same true = refl
    of_same false = refl
card-changed change (e ∷ cards) t u = of_tests (same_task t e.0) (same_task u e.0) refl refl (card-changed change cards t u)
  where
    of_tests : (a b : Bool) → same_task t e.0 ≡ a → same_task u e.0 ≡ b
        → card_at (changed change t cards) u ≡ (if same_task t u then option_map change (card_at cards u) else card_at cards u)
        → card_at (if a then (e.0, change e.1) ∷ cards else e ∷ changed change t cards) u ≡ (if same_task t u then option_map change (if b then Some e.1 else card_at cards u) else (if b then Some e.1 else card_at cards u))
    of_tests true true here other rest = let one : t ≡ e.0 = same_task-is t e.0 here in rw (one, same_task-sym e.0 u, other) refl
    of_tests true false here other rest = let one : t ≡ e.0 = same_task-is t e.0 here in rw (one, same_task-sym e.0 u, other) refl
    of_tests false true here other rest = let one : u ≡ e.0 = same_task-is u e.0 other in rw (one, here, same_task-self e.0) refl
    of_tests false false here other rest = rw other rest

-- a value written at the card of the task
pub written : (change : Card → Card) (cards : List (TaskId × Card)) (t : TaskId) (c : Card) → card_at cards t ≡ Some c → set_value (same_task t) cards (change c) ≡ changed change t cards
written change [] t c at = refl
written change (e ∷ cards) t c at = of_test (same_task t e.0) at (written change cards t c)
  where
    of_test : (b : Bool) → (if b then Some e.1 else card_at cards t) ≡ Some c → (card_at cards t ≡ Some c → set_value (same_task t) cards (change c) ≡ changed change t cards)
        → cond b ((e.0, change c) ∷ cards) (e ∷ set_value (same_task t) cards (change c)) ≡ (if b then (e.0, change e.1) ∷ cards else e ∷ changed change t cards)
    of_test true here rest = let same : e.1 ≡ c = cc in rw same refl
    of_test false here rest = ap (λ (es : List (TaskId × Card)). e ∷ es) (rest here)

pub unwritten : (change : Card → Card) (cards : List (TaskId × Card)) (t : TaskId) → card_at cards t ≡ None → cards ≡ changed change t cards
unwritten change [] t at = refl
unwritten change (e ∷ cards) t at = of_test (same_task t e.0) at (unwritten change cards t)
  where
    of_test : (b : Bool) → (if b then Some e.1 else card_at cards t) ≡ None → (card_at cards t ≡ None → cards ≡ changed change t cards)
        → e ∷ cards ≡ (if b then (e.0, change e.1) ∷ cards else e ∷ changed change t cards)
    of_test true here rest = absurd (cc)
    of_test false here rest = ap (λ (es : List (TaskId × Card)). e ∷ es) (rest here)

-- a write to one row leaves the others
pub row-other : {X : Type 0} (rows : List (List X)) (n k : ℕ) (items : List X) → (n == k) ≡ false → row (with_row rows n items) k ≡ row rows k
row-other rows n k items other = ap (λ o. option_map_or (λ ys. ys) o []) (get-set_other rows n items k (λ e. differ n k other (sym e)))
