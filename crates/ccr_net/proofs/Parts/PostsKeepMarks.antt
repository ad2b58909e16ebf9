-- What a claim marks, and its names: under posts at the end it stays.
use Rattle.std.proofs.Common.{◌≡◌, ◌≤◌, ℕ, zero, suc, ◌-◌, Bool, true, false, ◌&&◌, ◌||◌, List, [], ◌∷◌, ◌++◌, length, filter, take, refl, sym, arith, ap, ◌∙◌}
use Rattle.std.specs.Prelude.{if◌then◌else◌, nat_lt}
use Rattle.std.proofs.lemmas.Grind.{common_steps}
use Rattle.std.proofs.lemmas.List.{take-append-le}
use Rattle.ccr_base.specs.declared.messages.Msg.{Msg}
use Rattle.ccr_base.specs.declared.names.MsgId.{MsgId}
use Rattle.ccr_base.specs.declared.patterns.Pred.{Pred}
use Rattle.ccr_base.specs.Selection.{holds, fitting}
use Rattle.ccr_base.specs.Names.{has_message}
use Rattle.ccr_places.specs.Ports.{first_fitting, without_first}
use Rattle.ccr_base.proofs.FirstFitting.{step-some}
use Rattle.ccr_claim.specs.Plans.{names_of}
use Rattle.ccr_base.proofs.Filters.{more_kept}

-- whether a message of the name is among them
abbrev pub has_name : List Msg → MsgId → Bool
has_name messages name = has_message (names_of messages) name

pub fitting-post : (pred : Pred) (items : List Msg) (m : Msg) → fitting pred (items ++ m ∷ []) ≡ fitting pred items ++ fitting pred (m ∷ [])
fitting-post pred items m = grind (arith, common_steps)

pub enough-post : (pred : Pred) (items : List Msg) (m : Msg) (n : ℕ) → n ≤ length (fitting pred items) → n ≤ length (fitting pred (items ++ m ∷ []))
enough-post pred items m n le = let more = more_kept (λ (x : Msg). holds pred x.value) items (m ∷ []) in omega (arith, le, more)

pub without_first-post : (n : ℕ) (pred : Pred) (items : List Msg) (m : Msg) → n ≤ length (fitting pred items) → without_first n pred (items ++ m ∷ []) ≡ without_first n pred items ++ m ∷ []
without_first-post zero pred [] m le = by (holds pred m.value)
  where
    by : (b : Bool) → (if b && false then [] else m ∷ []) ≡ m ∷ []
    by true = refl
    by false = refl
without_first-post (suc n) pred [] m le = absurd (omega arith)
without_first-post zero pred (x ∷ items) m le = by (holds pred x.value) (without_first-post zero pred items m (omega arith))
  where
    by : (b : Bool) → without_first zero pred (items ++ m ∷ []) ≡ without_first zero pred items ++ m ∷ [] → (if b && false then without_first zero pred (items ++ m ∷ []) else x ∷ without_first zero pred (items ++ m ∷ [])) ≡ (if b && false then without_first zero pred items else x ∷ without_first zero pred items) ++ m ∷ []
    by true rest = rw rest refl
    by false rest = rw rest refl
without_first-post (suc n) pred (x ∷ items) m le = step-some n pred x (items ++ m ∷ []) ∙ by (holds pred x.value) le (without_first-post n pred items m) (without_first-post (suc n) pred items m) ∙ ap (λ front. front ++ m ∷ []) (sym (step-some n pred x items))
  where
    by : (b : Bool) → suc n ≤ length (if b then x ∷ fitting pred items else fitting pred items) → (n ≤ length (fitting pred items) → without_first n pred (items ++ m ∷ []) ≡ without_first n pred items ++ m ∷ []) → (suc n ≤ length (fitting pred items) → without_first (suc n) pred (items ++ m ∷ []) ≡ without_first (suc n) pred items ++ m ∷ []) → (if b then without_first n pred (items ++ m ∷ []) else x ∷ without_first (suc n) pred (items ++ m ∷ [])) ≡ (if b then without_first n pred items else x ∷ without_first (suc n) pred items) ++ m ∷ []
    by true low one other = one (omega arith)
    by false low one other = rw (other low) refl

pub first_fitting-post : (n : ℕ) (pred : Pred) (items : List Msg) (m : Msg) → n ≤ length (fitting pred items) → first_fitting n pred (items ++ m ∷ []) ≡ first_fitting n pred items
first_fitting-post n pred items m le = rw fitting-post (take-append-le n (fitting pred items) (fitting pred (m ∷ [])) le)

-- ---- by names

pub has_name-append : (xs ys : List Msg) (name : MsgId) → has_name (xs ++ ys) name ≡ has_name xs name || has_name ys name
has_name-append xs ys name = grind (arith, common_steps)

pub has_name-filter : (test : Msg → Bool) (ms : List Msg) (name : MsgId) → has_name (filter test ms) name ≡ true → has_name ms name ≡ true
has_name-filter test [] name is = is
has_name-filter test (m ∷ ms) name is = grind (arith, has_name-filter test ms name, is)

pub has_name-take : (n : ℕ) (ms : List Msg) (name : MsgId) → has_name (take n ms) name ≡ true → has_name ms name ≡ true
has_name-take zero ms name is = absurd (cc)
has_name-take (suc n) [] name is = is
has_name-take (suc n) (m ∷ ms) name is = grind (arith, has_name-take n ms name, is)

pub first_named : (n : ℕ) (pred : Pred) (ms : List Msg) (name : MsgId) → has_name (first_fitting n pred ms) name ≡ true → has_name ms name ≡ true
first_named n pred ms name is = has_name-filter (λ (m : Msg). holds pred m.value) ms name (has_name-take n (fitting pred ms) name is)

pub without_first-named : (n : ℕ) (pred : Pred) (ms : List Msg) (name : MsgId) → has_name (without_first n pred ms) name ≡ true → has_name ms name ≡ true
without_first-named n pred [] name is = is
without_first-named n pred (m ∷ ms) name is = by (holds pred m.value && nat_lt 0 n) is (without_first-named (n - 1) pred ms name) (without_first-named n pred ms name)
  where
    by : (b : Bool) → has_name (if b then without_first (n - 1) pred ms else m ∷ without_first n pred ms) name ≡ true → (has_name (without_first (n - 1) pred ms) name ≡ true → has_name ms name ≡ true) → (has_name (without_first n pred ms) name ≡ true → has_name ms name ≡ true) → has_name (m ∷ ms) name ≡ true
    by true now one other = grind (arith, now, one)
    by false now one other = grind (arith, now, other)
