-- Over lists of messages and of their names: who stands there is counted, and no port holds two messages of one name.
use Rattle.std.proofs.Common.{◌≡◌, ℕ, zero, suc, ◌<◌, ◌≤◌, Bool, true, false, not, ◌||◌, List, [], ◌∷◌, ◌++◌, inl, inr, length, filter, take, Some, refl, sym, ap, ◌∙◌, arith}
use Rattle.std.specs.Prelude.{◌==◌, if◌then◌else◌, find}
use Rattle.std.proofs.lemmas.Grind.{common_steps}
use Rattle.std.specs.List.{filter_map}
use Rattle.ccr_base.specs.declared.names.MsgId.{MsgId}
use Rattle.ccr_base.specs.declared.messages.Msg.{Msg}
use Rattle.ccr_base.specs.declared.patterns.Pred.{Pred}
use Rattle.ccr_base.specs.declared.patterns.Pred.TheVariants.{Any}
use Rattle.ccr_base.specs.Selection.{holds, fitting, without_first}
use Rattle.ccr_base.specs.Names.{same_message, has_message, names_of}
use Rattle.ccr_wiring.specs.declared.parts.Parts.{Parts}
use Rattle.ccr_model.specs.declared.history.Event.{Event}
use Rattle.ccr_model.specs.Legal.{IsLegal}
use Rattle.ccr_model.specs.Posts.{posts, posted, taken, held}
use Rattle.ccr_model.proofs.Members.{Among, Among-filter, some_kept}
use Rattle.ccr_model.proofs.PostNames.{times, posted_once}
use Rattle.ccr_base.proofs.SameNames.{same_message-self, same_message-sym}
use Rattle.ccr_base.proofs.Booleans.{same_number}
use Rattle.ccr_base.proofs.FirstFitting.{without_first-none, step-some}
use Rattle.ccr_model.proofs.TakenOnce.{times_named, times-filter}

-- the messages without those of these names
abbrev pub left_by : List MsgId → List Msg → List Msg
left_by names ms = filter (λ (m : Msg). not (has_message names m.id)) ms

-- every message satisfies `any`
pub any_fits : (ms : List Msg) → fitting Any ms ≡ ms
any_fits [] = refl
any_fits (m ∷ ms) = ap (λ (xs : List Msg). m ∷ xs) (any_fits ms)

-- a name that stands there is counted
pub named_some : (name : MsgId) (names : List MsgId) → has_message names name ≡ true → 0 < times_named name names
named_some name [] is = absurd (cc)
named_some name (n ∷ names) is = grind (arith, named_some name names)

pub times_some : (ms : List Msg) (m : Msg) → Among m ms → 1 ≤ times m.id ms
times_some ms m is = some_kept (λ (x : Msg). same_message x.id m.id) ms m is (same_message-self m.id)

-- a message is found by its name, where that stands once
pub found_once : (ms : List Msg) (m : Msg) → Among m ms → times m.id ms ≤ 1 → find (λ (x : Msg). same_message x.id m.id) ms ≡ Some m
found_once [] m is once = absurd is
found_once (x ∷ ms) m (inl e) once = let here : same_message x.id m.id ≡ true = ap (λ (y : Msg). same_message y.id m.id) (sym e) ∙ same_message-self m.id in rw here (ap Some (sym e))
found_once (x ∷ ms) m (inr more) once = by_test (same_message x.id m.id) refl once (found_once ms m more)
  where
    by_test : (b : Bool) → same_message x.id m.id ≡ b → length (if b then x ∷ filter (λ (y : Msg). same_message y.id m.id) ms else filter (λ (y : Msg). same_message y.id m.id) ms) ≤ 1 → (times m.id ms ≤ 1 → find (λ (y : Msg). same_message y.id m.id) ms ≡ Some m) → (if b then Some x else find (λ (y : Msg). same_message y.id m.id) ms) ≡ Some m
    by_test true e few rest = let some = times_some ms m more in absurd (omega (arith, few, some))
    by_test false e few rest = rest few

pub has_message-append : (xs ys : List MsgId) (name : MsgId) → has_message (xs ++ ys) name ≡ has_message xs name || has_message ys name
has_message-append xs ys name = grind (arith, common_steps)

-- no port holds more of one name than were posted
pub held_few : (h : List Event) (port : ℕ) (name : MsgId) → times name (posts h) ≤ 1 → times name (held h port) ≤ 1
held_few h port name once = omega (arith, once, times-filter name (λ (m : Msg). not (has_message (taken h) m.id)) (posted h port), times-filter name (λ (m : Msg). m.port == port) (posts h))

pub held_once : (w : Parts) (h : List Event) → IsLegal w h → (port : ℕ) (name : MsgId) → times name (held h port) ≤ 1
held_once w h legal port name = held_few h port name (posted_once w h legal name)

-- no names take nothing out
pub none_left : (ms : List Msg) → left_by [] ms ≡ ms
none_left [] = refl
none_left (m ∷ ms) = ap (λ (rest : List Msg). m ∷ rest) (none_left ms)

-- what two lists of names leave
pub left_both : (names more : List MsgId) (ms : List Msg) → left_by (names ++ more) ms ≡ left_by more (left_by names ms)
left_both names more [] = refl
left_both names more (m ∷ ms) = grind (arith, common_steps, left_both names more ms)

-- without the first no name stands more often
pub times_back : (m : Msg) (ms : List Msg) (name : MsgId) → times name ms ≤ times name (m ∷ ms)
times_back m ms name = by_test (same_message m.id name)
  where
    by_test : (b : Bool) → times name ms ≤ length (if b then m ∷ filter (λ (y : Msg). same_message y.id name) ms else filter (λ (y : Msg). same_message y.id name) ms)
    by_test true = omega arith
    by_test false = omega arith

-- no name stands twice
abbrev pub AreApart : List Msg → Type 0
AreApart ms = (name : MsgId) → times name ms ≤ 1

pub tail_apart : (m : Msg) (ms : List Msg) → AreApart (m ∷ ms) → AreApart ms
tail_apart m ms apart name = omega (arith, apart name, times_back m ms name)

zero_more : (n : ℕ) → suc n ≡ 0 → ⊥
zero_more n is = omega arith

-- the first has a name of its own
pub head_apart : (m : Msg) (ms : List Msg) → AreApart (m ∷ ms) → times m.id ms ≡ 0
head_apart m ms apart = grind (arith, apart m.id, same_message-self m.id)

-- a name that stands nowhere takes nothing out
pub skipped : (name : MsgId) (names : List MsgId) (ms : List Msg) → times name ms ≡ 0 → left_by (name ∷ names) ms ≡ left_by names ms
skipped name names [] none = refl
skipped name names (m ∷ ms) none = of_test (same_message m.id name) refl (λ out. skipped name names ms out)
  where
    of_test : (b : Bool) → same_message m.id name ≡ b → (times name ms ≡ 0 → left_by (name ∷ names) ms ≡ left_by names ms) → left_by (name ∷ names) (m ∷ ms) ≡ left_by names (m ∷ ms)
    of_test true same rest = absurd (zero_more (length (filter (λ (o : Msg). same_message o.id name) ms)) (rw same at none))
    of_test false same rest = rw (same, rest (rw same at none)) refl

-- nor is it a name of some of them
pub not_named : (name : MsgId) (ms : List Msg) → times name ms ≡ 0 → has_message (names_of ms) name ≡ false
not_named name [] none = refl
not_named name (m ∷ ms) none = grind (arith, same_message-sym name m.id, not_named name ms)

times-fitting : (name : MsgId) (n : ℕ) (pred : Pred) (ms : List Msg) → times name ms ≡ 0 → times name (take n (fitting pred ms)) ≡ 0
times-fitting name zero pred ms none = refl
times-fitting name (suc n) pred [] none = refl
times-fitting name (suc n) pred (m ∷ ms) none = grind (arith, times-fitting name n pred ms, times-fitting name (suc n) pred ms)

-- where no name stands twice, to take out the first that satisfy a predicate is to leave out their names
pub first-named : (n : ℕ) (pred : Pred) (ms : List Msg) → AreApart ms → without_first n pred ms ≡ left_by (names_of (take n (fitting pred ms))) ms
first-named zero pred ms once = without_first-none pred ms ∙ sym (none_left ms)
first-named (suc n) pred [] once = refl
first-named (suc n) pred (m ∷ ms) once = step-some n pred m ms ∙ by (holds pred m.value) (first-named n pred ms (tail_apart m ms once)) (first-named (suc n) pred ms (tail_apart m ms once))
  where
    by : (b : Bool) → without_first n pred ms ≡ left_by (names_of (take n (fitting pred ms))) ms → without_first (suc n) pred ms ≡ left_by (names_of (take (suc n) (fitting pred ms))) ms
        → (if b then without_first n pred ms else m ∷ without_first (suc n) pred ms) ≡ left_by (names_of (take (suc n) (if b then m ∷ fitting pred ms else fitting pred ms))) (m ∷ ms)
    by true one other = one ∙ sym (skipped m.id (names_of (take n (fitting pred ms))) ms (head_apart m ms once)) ∙ sym (dropped (same_message m.id m.id) refl)
      where
        dropped : (b : Bool) → same_message m.id m.id ≡ b → (if not (b || has_message (names_of (take n (fitting pred ms))) m.id) then m ∷ left_by (m.id ∷ names_of (take n (fitting pred ms))) ms else left_by (m.id ∷ names_of (take n (fitting pred ms))) ms) ≡ left_by (m.id ∷ names_of (take n (fitting pred ms))) ms
        dropped true e = refl
        dropped false e = let self = same_message-self m.id in absurd (cc)
    by false one other =
        let away : has_message (names_of (take (suc n) (fitting pred ms))) m.id ≡ false = not_named m.id (take (suc n) (fitting pred ms)) (times-fitting m.id (suc n) pred ms (head_apart m ms once)) in
        rw (away, other) refl

-- some of the messages, found by their names
pub named-found : (all ms : List Msg) → ((name : MsgId) → times name all ≤ 1) → ((m : Msg) → Among m ms → Among m all) → filter_map (λ name. find (λ (o : Msg). same_message o.id name) all) (names_of ms) ≡ ms
named-found all [] once within = refl
named-found all (m ∷ ms) once within = rw (found_once all m (within m (inl refl)) (once m.id)) (ap (λ (rest : List Msg). m ∷ rest) (named-found all ms once (λ x is. within x (inr is))))

-- what a port holds was posted there
pub of_held : (h : List Event) (port : ℕ) (m : Msg) → Among m (held h port) → Among m (posts h) × (m.port ≡ port)
of_held h port m among =
    let a = Among-filter (λ (x : Msg). not (has_message (taken h) x.id)) (posted h port) m among in
    let b = Among-filter (λ (x : Msg). x.port == port) (posts h) m a.0 in
    (b.0, same_number m.port port b.1)
