-- Who is stopped, and whose actor is at rest.
use Rattle.std.proofs.Common.{Bool, true, false, ◌≡◌, ℕ, zero, suc, ◌+◌, ◌<◌, List, [], ◌∷◌, ◌++◌, sym, refl, ap, ◌∙◌, subst, arith, eq-eqb, None}
use Rattle.std.specs.Prelude.{◌==◌, ◌&&◌, ◌||◌, filter, if◌then◌else◌}
use Rattle.std.specs.List.{list_any, range_with_len}
use Rattle.std.proofs.lemmas.List.Elements.{filter-append}
use Rattle.std.proofs.Math.Bool.{or-true}
use mathlib.Core.Option.{some, some-injective, some-ne-none}
use lib.ListN.{get_elem?}
use Rattle.ccr_wiring.specs.declared.parts.Parts.{Parts}
use Rattle.ccr_turns.proofs.Rows.{range-more}
use Rattle.ccr_actor.specs.Acting.{Acting, is_at_rest}
use Rattle.ccr_actor.specs.Actors.{next}
use Rattle.ccr_actor.proofs.ActorsFollowTheirSteps.{follows_rest}
use Rattle.ccr_turns.specs.declared.history.LogEntry.{LogEntry}
use Rattle.ccr_object.specs.declared.deed.Deed.{Deed}
use Rattle.ccr_object.specs.declared.object.Placed.{Placed}
use Rattle.ccr_space.specs.Spaces.{Pass, IsGoing, heard_in, is_stopped_in, number, stopped_of}

-- of one actor more
pub stopped_more : (passes : List Pass) (n : ℕ) → stopped_of passes (n + 1) ≡ stopped_of passes n ++ (if is_stopped_in passes n then n ∷ [] else [])
stopped_more passes n = ap (filter (is_stopped_in passes)) (range-more n) ∙ filter-append (is_stopped_in passes) (range_with_len 0 n) (n ∷ [])

any_in : (test : ℕ → Bool) (actor q n : ℕ) → test (q + actor) ≡ true → actor < n → list_any (λ m. m == q + actor) (filter test (range_with_len q n)) ≡ true
any_in test actor q zero is low = absurd (omega arith)
any_in test zero q (suc n) is low = let here : test q ≡ true = ap test (let z : q ≡ q + 0 = omega arith in z) ∙ is in rw here (let hit : (q == q + 0) ≡ true = eq-eqb q (q + 0) (omega arith) in rw hit refl)
any_in test (suc actor) q (suc n) is low = by (test q) refl (any_in test actor (q + 1) n (ap test (let z : q + 1 + actor ≡ q + suc actor = omega arith in z) ∙ is) (omega arith))
  where
    by : (b : Bool) → test q ≡ b → list_any (λ m. m == q + 1 + actor) (filter test (range_with_len (q + 1) n)) ≡ true → list_any (λ m. m == q + suc actor) (filter test (range_with_len q (suc n))) ≡ true
    by b tests again = subst (λ k. list_any (λ m. m == k) (filter test (range_with_len q (suc n))) ≡ true) (let z : q + 1 + actor ≡ q + suc actor = omega arith in z) (of b tests)
      where
        of : (b : Bool) → test q ≡ b → list_any (λ m. m == q + 1 + actor) (filter test (range_with_len q (suc n))) ≡ true
        of true in_it = rw in_it (ap (λ r. (q == q + 1 + actor) || r) again ∙ or-true (q == q + 1 + actor))
        of false out = rw out again

stopped_here : (passes : List Pass) (i : ℕ) (pass : Pass) (actor : ℕ) → get_elem? passes i ≡ some pass → number pass ≡ actor → pass.stopped ≡ true → is_stopped_in passes actor ≡ true
stopped_here [] i pass actor at is stops = absurd (some-ne-none pass (sym at))
stopped_here (x ∷ xs) zero pass actor at is stops =
    let same : x ≡ pass = some-injective x pass at in
    let stopped : x.stopped ≡ true = ap (λ (p : Pass). p.stopped) same ∙ stops in
    let hit : (number x == actor) ≡ true = eq-eqb (number x) actor (ap number same ∙ is) in
    rw (stopped, hit) refl
stopped_here (x ∷ xs) (suc i) pass actor at is stops = let again = stopped_here xs i pass actor at is stops in ap (λ r. (x.stopped && (number x == actor)) || r) again ∙ or-true (x.stopped && (number x == actor))

-- the actor of a stopped pass is among them
pub stopped_among : (passes : List Pass) (count i : ℕ) (pass : Pass) (actor : ℕ) → get_elem? passes i ≡ some pass → number pass ≡ actor → pass.stopped ≡ true → actor < count → list_any (λ n. n == actor) (stopped_of passes count) ≡ true
stopped_among passes count i pass actor at is stops low =
    subst (λ k. list_any (λ n. n == k) (stopped_of passes count) ≡ true) (let z : 0 + actor ≡ actor = omega arith in z)
    (any_in (is_stopped_in passes) actor 0 count (subst (λ k. is_stopped_in passes k ≡ true) (let z : actor ≡ 0 + actor = omega arith in z) (stopped_here passes i pass actor at is stops)) low)

-- an actor at rest that isn't short has nothing to ask next
pub nothing_next : (w : Parts) (k : ℕ) (logged : List (LogEntry Deed Placed)) (a : Acting) → IsGoing w k logged a → is_at_rest a ≡ true → next w k None (heard_in w k logged).given ≡ None
nothing_next w k logged a goes rest = subst (λ given. next w k None given ≡ None) goes.replies ((follows_rest w k goes.steps a goes.follows goes.long).0 rest)
