-- What is taken, one message after the other.
use Rattle.std.proofs.Math.ListN.{set}
use Rattle.std.proofs.Common.{◌≡◌, ℕ, zero, suc, ◌+◌, ◌-◌, ◌≤◌, ◌<◌, Bool, true, false, List, [], ◌∷◌, ◌++◌, length, take, drop, map, Option, Some, None, refl, sym, ap, ◌∙◌, arith, add-one, length-append, option_to_list, append_assoc}
use Rattle.std.specs.Prelude.{if◌then◌else◌}
use Rattle.std.specs.List.{slice_get}
use Rattle.ccr_base.specs.declared.names.MsgId.{MsgId}
use Rattle.ccr_base.specs.declared.messages.Msg.{Msg}
use Rattle.ccr_base.specs.declared.patterns.Pred.{Pred}
use Rattle.ccr_base.specs.declared.patterns.Pred.TheVariants.{Any}
use Rattle.ccr_base.specs.Selection.{holds, fitting}
use Rattle.ccr_base.specs.Names.{same_message}
use Rattle.ccr_base.proofs.Lists.{take_next}
use Rattle.ccr_ledger.specs.Lanes.{present}
use Rattle.ccr_ledger.proofs.Lanes.{IsFirst}
use Rattle.ccr_ledger.specs.Taken.{without_first, without_some, shared, same_front}
use Rattle.ccr_model.proofs.MessageNames.{any_fits}

-- one more is taken
pub some_more : (n : ℕ) (pred : Pred) (ms : List Msg) → without_some (n + 1) pred ms ≡ without_first pred (without_some n pred ms)
some_more zero pred ms = refl
some_more (suc n) pred ms = rw add-one (rw add-one at (some_more n pred (without_first pred ms)))

-- those that satisfy the predicate, without the first
fitting-first : (pred : Pred) (ms : List Msg) → fitting pred (without_first pred ms) ≡ drop 1 (fitting pred ms)
fitting-first pred [] = refl
fitting-first pred (m ∷ ms) = of_test (holds pred m.value) refl (fitting-first pred ms)
  where
    of_test : (b : Bool) → holds pred m.value ≡ b → fitting pred (without_first pred ms) ≡ drop 1 (fitting pred ms)
        → fitting pred (if b then ms else m ∷ without_first pred ms) ≡ drop 1 (if b then m ∷ fitting pred ms else fitting pred ms)
    of_test true is rest = refl
    of_test false is rest = rw is rest

drop-none : (n : ℕ) → drop {A = Msg} n [] ≡ []
drop-none zero = refl
drop-none (suc n) = refl

drop-drop : (n : ℕ) (xs : List Msg) → drop n (drop 1 xs) ≡ drop (suc n) xs
drop-drop zero [] = refl
drop-drop (suc n) [] = refl
drop-drop n (x ∷ xs) = refl

pub fitting-some : (n : ℕ) (pred : Pred) (ms : List Msg) → fitting pred (without_some n pred ms) ≡ drop n (fitting pred ms)
fitting-some zero pred ms = refl
fitting-some (suc n) pred ms = fitting-some n pred (without_first pred ms) ∙ (ap (drop n) (fitting-first pred ms) ∙ drop-drop n (fitting pred ms))

-- the first behind so many is the next
next-first : (n : ℕ) (xs : List Msg) → slice_get (drop n xs) 0 ≡ slice_get xs n
next-first zero xs = refl
next-first (suc n) [] = refl
next-first (suc n) (x ∷ xs) = next-first n xs

-- one more of the first
taken-more : (n : ℕ) (pred : Pred) (ms before : List Msg) (o : Option Msg) → o ≡ slice_get (fitting pred (without_some n pred ms)) 0 → (before ++ take n (fitting pred ms)) ++ option_to_list o ≡ before ++ take (n + 1) (fitting pred ms)
taken-more n pred ms before o is =
    let one : o ≡ slice_get (fitting pred ms) n = is ∙ ap (λ fs. slice_get fs 0) (fitting-some n pred ms) ∙ next-first n (fitting pred ms) in
    rw (one, take_next (fitting pred ms) n) (append_assoc before (take n (fitting pred ms)) (option_to_list (slice_get (fitting pred ms) n)))

some_fits : (pred : Pred) (ms : List Msg) (m : Msg) → slice_get (fitting pred ms) 0 ≡ Some m → 0 < length ms
some_fits pred [] m is = absurd (cc)
some_fits pred (x ∷ ms) m is = omega arith

-- what was taken so far, and one more message if there was one
pub taken-step : (n : ℕ) (pred : Pred) (ms before now until here : List Msg) (o : Option Msg) → here ≡ without_some n pred ms → until ≡ before ++ take n (fitting pred ms) → o ≡ slice_get (fitting pred here) 0 → now ≡ until ++ option_to_list o → now ≡ before ++ take (n + 1) (fitting pred ms)
taken-step n pred ms before now until here o left so is more =
    more ∙ (ap (λ ts. ts ++ option_to_list o) so ∙ taken-more n pred ms before o (is ∙ ap (λ hs. slice_get (fitting pred hs) 0) left))

-- one fewer is left
pub length-first : (pred : Pred) (ms : List Msg) (m : Msg) → slice_get (fitting pred ms) 0 ≡ Some m → length (without_first pred ms) ≡ length ms - 1
length-first pred [] m is = refl
length-first pred (x ∷ ms) m is = of_test (holds pred x.value) is (λ at. (length-first pred ms m at, some_fits pred ms m at))
  where
    of_test : (b : Bool) → slice_get (if b then x ∷ fitting pred ms else fitting pred ms) 0 ≡ Some m
        → (slice_get (fitting pred ms) 0 ≡ Some m → (length (without_first pred ms) ≡ length ms - 1) × (0 < length ms))
        → length (if b then ms else x ∷ without_first pred ms) ≡ length (x ∷ ms) - 1
    of_test true at rest = omega arith
    of_test false at rest = let both = rest at in omega (arith, both.0, both.1)

-- the count after a take
pub one_fewer : (pred : Pred) (items : List (Option Msg)) (j : ℕ) (m : Msg) → IsFirst pred items j m → (left now : ℕ) → left ≡ length (present items) → now ≡ left - 1 → now ≡ length (present (set items j None))
one_fewer pred items j m first left now was is = is ∙ (ap (λ n. n - 1) was ∙ (sym (length-first pred (present items) m first.first) ∙ ap length (sym first.rest)))

-- and after a post
pub one_more : (ms : List Msg) (left : ℕ) (m : Msg) → left ≡ length ms → left + 1 ≡ length (ms ++ m ∷ [])
one_more ms left m is = omega (arith, is, length-append ms (m ∷ []))

-- no more are there than indices
pub few-present : (items : List (Option Msg)) → length (present items) ≤ length items
few-present [] = omega arith
few-present (None ∷ items) = omega (arith, few-present items)
few-present (Some m ∷ items) = omega (arith, few-present items)

shared-front : (ms : List Msg) (names : List MsgId) → same_front (map (λ (m : Msg). m.id) (take (length names) ms)) names ≡ shared ms names
shared-front ms [] = refl
shared-front [] (n ∷ names) = refl
shared-front (m ∷ ms) (n ∷ names) = ap (λ (k : ℕ). if same_message m.id n then suc k else 0) (shared-front ms names)

pub shared-told : (ms : List Msg) (names oldest : List MsgId) → oldest ≡ map (λ (m : Msg). m.id) (take (length names) (fitting Any ms)) → same_front oldest names ≡ shared ms names
shared-told ms names oldest is = ap (λ ns. same_front ns names) (is ∙ ap (λ os. map (λ (m : Msg). m.id) (take (length names) os)) (any_fits ms)) ∙ shared-front ms names

-- without so many of all
pub without-any : (n : ℕ) (ms : List Msg) → without_some n Any ms ≡ drop n ms
without-any zero ms = refl
without-any (suc n) [] = without-any n [] ∙ drop-none n
without-any (suc n) (m ∷ ms) = without-any n ms
