-- When two names are those of one task, of one message or of one spot; each value is itself.
use Rattle.std.proofs.Common.{◌≡◌, ℕ, List, true, arith, [], ◌∷◌, refl, Bool, ◌++◌, ap, ◌∙◌, false, ◌||◌}
use Rattle.std.specs.Prelude.{◌==◌}
use Rattle.std.specs.Cmp.Lexicographic.{nat_list_eq_equiv}
use Rattle.std.proofs.lemmas.Bool.Decides.{nat_tests}
use Rattle.std.proofs.lemmas.List.{map-append}
use Rattle.std.proofs.lemmas.List.Folds.{list_any-append}
use Rattle.std.proofs.Math.Bool.{or-false}
use Rattle.ccr_base.specs.declared.names.TaskId.{TaskId}
use Rattle.ccr_base.specs.declared.names.MsgId.{MsgId}
use Rattle.ccr_base.specs.declared.names.MsgId.TheVariants.{Script, Task}
use Rattle.ccr_base.specs.declared.names.Spot.{Spot}
use Rattle.ccr_base.specs.declared.names.Spot.TheVariants.{Branch, Site}
use Rattle.ccr_base.specs.Names.{same_task, same_message, same_spot, same_lists, names_of, has_task}
use Rattle.ccr_base.specs.Values.{same_value}
use Rattle.ccr_base.proofs.Booleans.{both, same_number, or_left, or_right, eq-self}
use Rattle.ccr_base.specs.declared.messages.Msg.{Msg}
use Rattle.std.proofs.lemmas.Slice.Eq.{bytes_eq-Decides}

pub same_task-is : (s t : TaskId) → same_task s t ≡ true → s ≡ t
same_task-is s t is = grind (arith, nat_tests)

pub same_task-self : (t : TaskId) → same_task t t ≡ true
same_task-self t = grind (arith, nat_tests)

pub same_task-sym : (s t : TaskId) → same_task s t ≡ same_task t s
same_task-sym s t = grind (arith, nat_tests)

pub same_message-self : (n : MsgId) → same_message n n ≡ true
same_message-self (Script a k) = grind (arith, nat_tests)
same_message-self (Task t k) = grind (arith, nat_tests)

pub same_message-is : (m n : MsgId) → same_message m n ≡ true → m ≡ n
same_message-is (Script a k) (Script b l) is = grind (arith, nat_tests)
same_message-is (Script a k) (Task t l) is = absurd (cc)
same_message-is (Task s k) (Script b l) is = absurd (cc)
same_message-is (Task s k) (Task t l) is = grind (arith, nat_tests)

pub same_message-sym : (m n : MsgId) → same_message m n ≡ same_message n m
same_message-sym m n = grind (arith, nat_tests)

pub same_spot-is : (s t : Spot) → same_spot s t ≡ true → s ≡ t
same_spot-is (Branch b) (Branch c) is = grind (arith, nat_tests)
same_spot-is (Branch b) (Site c l) is = absurd (cc)
same_spot-is (Site b k) (Branch c) is = absurd (cc)
same_spot-is (Site b k) (Site c l) is = grind (arith, nat_tests)

pub same_value-self : (v : List ℕ) → same_value v v ≡ true
same_value-self v = nat_list_eq_equiv.refl v

-- a list is the same as itself, by a test that says so of each item
pub same_lists-self : {X : Type 0} (same : X → X → Bool) → ((x : X) → same x x ≡ true) → (xs : List X) → same_lists same xs xs ≡ true
same_lists-self same self [] = refl
same_lists-self same self (x ∷ xs) = rw (self x, same_lists-self same self xs) refl

-- two lists are one, by a test that says so of items alone that are one
pub same_lists-is : {X : Type 0} (same : X → X → Bool) → ((x y : X) → same x y ≡ true → x ≡ y) → (xs ys : List X) → same_lists same xs ys ≡ true → xs ≡ ys
same_lists-is same one [] [] is = refl
same_lists-is same one [] (y ∷ ys) is = absurd (cc)
same_lists-is same one (x ∷ xs) [] is = absurd (cc)
same_lists-is same one (x ∷ xs) (y ∷ ys) is =
    let parts = both (same x y) (same_lists same xs ys) is in
    let here : x ≡ y = one x y parts.0 in
    let rest : xs ≡ ys = same_lists-is same one xs ys parts.1 in
    cc

-- two lists of numbers that a test calls the same are
pub same_numbers-is : (xs ys : List ℕ) → same_lists (λ c d. c == d) xs ys ≡ true → xs ≡ ys
same_numbers-is xs ys is = same_lists-is (λ c d. c == d) same_number xs ys is

-- two values that a test calls the same are
pub same_values : (xs ys : List ℕ) → same_value xs ys ≡ true → xs ≡ ys
same_values xs ys is = (bytes_eq-Decides xs ys).0 is

-- the names of two lists of messages together
pub names_of-append : (messages others : List Msg) → names_of (messages ++ others) ≡ names_of messages ++ names_of others
names_of-append messages others = map-append (λ (m : Msg). m.id) messages others

-- who stands in two lists together stands in one of them
pub has_task-append : (ts us : List TaskId) (t : TaskId) → has_task (ts ++ us) t ≡ has_task ts t || has_task us t
has_task-append ts us t = list_any-append (same_task t) ts us

pub has_task-last : (ts : List TaskId) (t : TaskId) → has_task (ts ++ t ∷ []) t ≡ true
has_task-last ts t = has_task-append ts (t ∷ []) t ∙ or_right (has_task ts t) (has_task (t ∷ []) t) (or_left (same_task t t) false (same_task-self t))

-- who stands in a list and one more stands in the list, or is the one
pub has_task-push : (ts : List TaskId) (last t : TaskId) → has_task (ts ++ last ∷ []) t ≡ has_task ts t || same_task t last
has_task-push ts last t = has_task-append ts (last ∷ []) t ∙ ap (λ b. has_task ts t || b) (or-false (same_task t last))

pub same_spot-self : (s : Spot) → same_spot s s ≡ true
same_spot-self (Branch b) = eq-self b
same_spot-self (Site b k) = rw (eq-self b, eq-self k) refl
