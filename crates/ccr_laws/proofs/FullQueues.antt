-- A `discard n` queue never holds more than n tasks, so a put that drops finds exactly n.
use Rattle.std.proofs.Common.{◌≡◌, ℕ, suc, ◌<◌, ◌≤◌, Bool, true, false, not, List, [], ◌∷◌, ◌++◌, length, Option, Some, None, option_to_list, refl, sym, ap, ◌∙◌, arith, subst, append-nil, length-append}
use Rattle.std.specs.Prelude.{◌==◌, if◌then◌else◌, nat_le, option_and_then}
use Rattle.std.specs.List.{slice_get}
use Rattle.std.proofs.lemmas.Bool.Decides.{nat_tests}
use Rattle.ccr_base.specs.declared.names.TaskId.{TaskId}
use Rattle.ccr_base.specs.declared.policies.Policy.TheVariants.{Discard}
use Rattle.ccr_wiring.specs.declared.parts.Parts.{Parts}
use Rattle.ccr_wiring.specs.Wirings.{Placement, policy_of}
use Rattle.ccr_wiring.specs.Limits.{policy_is_outside}
use Rattle.ccr_wiring.specs.Valid.{IsValid}
use Rattle.ccr_wiring.proofs.Validity.{policy_inside}
use Rattle.ccr_model.specs.declared.history.Event.{Event}
use Rattle.ccr_model.specs.declared.history.Event.TheVariants.{Post, Fire, Admit, Put, Start, End}
use Rattle.ccr_base.specs.Names.{has_task, without}
use Rattle.ccr_model.specs.Firings.{put}
use Rattle.ccr_model.specs.TaskData.{placement_of}
use Rattle.ccr_model.specs.Tasks.{is_for_queue, queued}
use Rattle.ccr_model.specs.Rules.{drop_at, drop_by}
use Rattle.ccr_model.specs.Legal.{IsAllowed, IsLegal}
use Rattle.ccr_model.proofs.TaskSteps.{queued-start, queued-put, queued-fire}
use Rattle.ccr_model.proofs.LegalParts.{along_legal}
use Rattle.ccr_base.proofs.Options.{some_of}
use Rattle.ccr_base.proofs.SameNames.{same_task-self}
use Rattle.ccr_base.proofs.Booleans.{same_number}
use Rattle.ccr_base.proofs.Filters.{length-kept}
use Rattle.ccr_laws.specs.Occurring.{Occurs}
use Rattle.ccr_laws.specs.Drops.{DropsOldest}
use Rattle.ccr_laws.proofs.LegalEventsWereAllowed.{allowed_at, legal_past}
use Rattle.ccr_model.proofs.AllowedDrops.{put_allowed, drop_allowed}
use Rattle.ccr_model.proofs.WhoWasPut.{PutFacts-allowed, dropped_was_put}
use Rattle.ccr_model.proofs.AllowedFirings.{FiresSo-allowed}
use Rattle.ccr_model.proofs.Queued.{queued-other, new_unput, put_fresh}

-- a policy's number is at least 1
some_most : (w : Parts) → IsValid w → (q n : ℕ) → policy_of w q ≡ Discard n → 1 ≤ n
some_most w valid q n is = let inside : policy_is_outside (Discard n) ≡ false = subst (λ p. policy_is_outside p ≡ false) is (policy_inside w valid q) in grind (arith, nat_tests, inside)

-- over plain lists: one comes, and where there are as many as there may be, the oldest goes
one_comes : (n : ℕ) (ts : List TaskId) (t : TaskId) (d : Option TaskId) → 1 ≤ n → length ts ≤ n → d ≡ (if nat_le n (length ts) then slice_get ts 0 else None) → length (without ts (option_to_list d) ++ t ∷ []) ≤ n
one_comes n ts t d some few is = of_test (nat_le n (length ts)) refl is
  where
    goes : (xs : List TaskId) → ts ≡ xs → n ≤ length xs → d ≡ slice_get xs 0 → length (without ts (option_to_list d) ++ t ∷ []) ≤ n
    goes [] same full head = absurd (omega arith)
    goes (x ∷ xs) same full head =
        let long : length ts ≡ suc (length xs) = rw same refl in
        let first : without (x ∷ xs) (x ∷ []) ≡ without xs (x ∷ []) = rw (same_task-self x) refl in
        let left : without ts (option_to_list d) ≡ without xs (x ∷ []) = ap (λ o. without ts (option_to_list o)) head ∙ ap (λ us. without us (x ∷ [])) same ∙ first in
        rw left (omega (arith, length-append (without xs (x ∷ [])) (t ∷ []), length-kept (λ u. not (has_task (x ∷ []) u)) xs, few, long))

    of_test : (b : Bool) → nat_le n (length ts) ≡ b → d ≡ (if b then slice_get ts 0 else None) → length (without ts (option_to_list d) ++ t ∷ []) ≤ n
    of_test true e same = let full : n ≤ length ts = grind (arith, nat_tests, e) in goes ts refl full same
    of_test false e same =
        let room : length ts < n = grind (arith, nat_tests, e) in
        omega (arith, length-append (without ts (option_to_list d)) (t ∷ []), length-kept (λ u. not (has_task (option_to_list d) u)) ts, room)

-- the queue of a put
drop_on : (w : Parts) (h : List Event) (q n : ℕ) (t : TaskId) → policy_of w q ≡ Discard n → is_for_queue w h q t ≡ true → drop_at w h t ≡ drop_by (Discard n) (queued w h q)
drop_on w h q n t policy is =
    let found = some_of (λ (s : Placement). s.branch.queue == q) (placement_of w h t) is in
    let same = same_number found.0.branch.queue q found.2 in
    ap (λ o. option_and_then (λ (s : Placement). drop_by (policy_of w s.branch.queue) (queued w h s.branch.queue)) o) found.1 ∙ ap (λ k. drop_by (policy_of w k) (queued w h k)) same ∙ ap (λ p. drop_by p (queued w h q)) policy

put_within : (w : Parts) (q n : ℕ) → 1 ≤ n → policy_of w q ≡ Discard n → (h : List Event) (t : TaskId) (d : Option TaskId) → IsLegal w h → IsAllowed w h (Put t d) → length (queued w h q) ≤ n → length (queued w (h ++ Put t d ∷ []) q) ≤ n
put_within w q n some policy h t d legal allowed few = subst (λ ts. length ts ≤ n) (sym (queued-put w h q t d (put_fresh w h t d legal (PutFacts-allowed w h t d allowed).new_put (dropped_was_put w h t d allowed)))) (of_test (is_for_queue w h q t) refl)
  where
    of_test : (b : Bool) → is_for_queue w h q t ≡ b → length (without (queued w h q) (option_to_list d) ++ (if b then t ∷ [] else [])) ≤ n
    of_test true here = one_comes n (queued w h q) t d some few ((put_allowed w h t d allowed).1 ∙ drop_on w h q n t policy here)
    of_test false there = rw append-nil (omega (arith, length-kept (λ u. not (has_task (option_to_list d) u)) (queued w h q), few))

-- a `discard n` queue holds at most n tasks
pub few_queued : (w : Parts) → IsValid w → (q n : ℕ) → policy_of w q ≡ Discard n → (h : List Event) → IsLegal w h → length (queued w h q) ≤ n
few_queued w valid q n policy = along_legal w (λ g. length (queued w g q) ≤ n) kept (omega arith)
  where
    same : (h : List Event) (e : Event) → queued w (h ++ e ∷ []) q ≡ queued w h q → length (queued w h q) ≤ n → length (queued w (h ++ e ∷ []) q) ≤ n
    same h e is few = subst (λ ts. length ts ≤ n) (sym is) few

    kept : (h : List Event) (e : Event) → IsLegal w h → IsAllowed w h e → length (queued w h q) ≤ n → length (queued w (h ++ e ∷ []) q) ≤ n
    kept h (Post m) legal allowed few = same h (Post m) (queued-other w h q (Post m) refl refl refl refl) few
    kept h (Admit t) legal allowed few = same h (Admit t) (queued-other w h q (Admit t) refl refl refl refl) few
    kept h (End t how) legal allowed few = same h (End t how) (queued-other w h q (End t how) refl refl refl refl) few
    kept h (Fire t s ms cs) legal allowed few = same h (Fire t s ms cs) (queued-fire w h q t s ms cs (new_unput w h t legal (FiresSo-allowed w h t s ms cs allowed).new_name)) few
    kept h (Put t d) legal allowed few = put_within w q n (some_most w valid q n policy) policy h t d legal allowed few
    kept h (Start t a) legal allowed few = subst (λ ts. length ts ≤ n) (sym (queued-start w h q t a)) (omega (arith, length-kept (λ u. not (has_task (t ∷ []) u)) (queued w h q), few))

-- a put drops the oldest of as many tasks as its queue's policy says
pub drops_oldest : (w : Parts) → IsValid w → (h : List Event) → IsLegal w h → (past : List Event) (t x : TaskId) → Occurs h past (Put t (Some x)) → DropsOldest w past t x
drops_oldest w valid h legal past t x stands =
    let facts = drop_allowed w past t x (allowed_at w h past (Put t (Some x)) legal stands) in
    let few = few_queued w valid facts.its.branch.queue facts.most facts.policy past (legal_past w h past (Put t (Some x)) legal stands) in
    record { its = facts.its; with_placement = facts.with_placement; most = facts.most; policy = facts.policy; full = omega (arith, few, facts.full); oldest = facts.oldest }
