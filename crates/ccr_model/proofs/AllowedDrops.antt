-- What an allowed put says of the task that it drops.
use Rattle.std.proofs.Common.{◌≡◌, ℕ, ◌≤◌, Bool, true, false, List, length, Option, Some, None, refl, sym, ap, arith}
use Rattle.std.specs.Prelude.{if◌then◌else◌, nat_le}
use Rattle.std.specs.List.{slice_get}
use Rattle.std.proofs.lemmas.Bool.Decides.{nat_tests}
use Rattle.ccr_base.specs.declared.names.TaskId.{TaskId}
use Rattle.ccr_base.specs.declared.policies.Policy.{Policy}
use Rattle.ccr_base.specs.declared.policies.Policy.TheVariants.{Unbounded, Discard, Throttle}
use Rattle.ccr_wiring.specs.declared.parts.Parts.{Parts}
use Rattle.ccr_model.specs.declared.history.Event.{Event}
use Rattle.ccr_model.specs.declared.history.Event.TheVariants.{Put}
use Rattle.ccr_base.specs.Names.{same_task, same_options}
use Rattle.ccr_wiring.specs.Wirings.{Placement, policy_of}
use Rattle.ccr_model.specs.TaskData.{placement_of}
use Rattle.ccr_model.specs.Tasks.{queued}
use Rattle.ccr_model.specs.Rules.{may_put, drop_by, drop_at}
use Rattle.ccr_model.specs.Legal.{IsAllowed}
use Rattle.ccr_model.proofs.PostNames.{refused_not}
use Rattle.ccr_base.proofs.Options.{some_then}
use Rattle.ccr_base.proofs.SameNames.{same_task-is}

-- what an allowed drop says
pub record DropFacts (w : Parts) (h : List Event) (t x : TaskId) : Type 0 where
  pub its : Placement
  pub with_placement : placement_of w h t ≡ Some its
  pub most : ℕ
  pub policy : policy_of w its.branch.queue ≡ Discard most
  pub full : most ≤ length (queued w h its.branch.queue)
  pub oldest : slice_get (queued w h its.branch.queue) 0 ≡ Some x

drop_facts_by : (w : Parts) (h : List Event) (t x : TaskId) (its : Placement) → placement_of w h t ≡ Some its → (p : Policy) → policy_of w its.branch.queue ≡ p → drop_by p (queued w h its.branch.queue) ≡ Some x → DropFacts w h t x
drop_facts_by w h t x its with_placement Unbounded at is = absurd (cc)
drop_facts_by w h t x its with_placement (Throttle n) at is = absurd (cc)
drop_facts_by w h t x its with_placement (Discard n) at is = of_test (nat_le n (length (queued w h its.branch.queue))) refl is
  where
    of_test : (b : Bool) → nat_le n (length (queued w h its.branch.queue)) ≡ b → (if b then slice_get (queued w h its.branch.queue) 0 else None) ≡ Some x → DropFacts w h t x
    of_test false e same = absurd (cc)
    of_test true e same = let enough : n ≤ length (queued w h its.branch.queue) = grind (arith, nat_tests, e) in record { its = its; with_placement = with_placement; most = n; policy = at; full = enough; oldest = same }

drop_at_facts : (w : Parts) (h : List Event) (t x : TaskId) → drop_at w h t ≡ Some x → DropFacts w h t x
drop_at_facts w h t x is =
    let found = some_then (λ (s : Placement). drop_by (policy_of w s.branch.queue) (queued w h s.branch.queue)) (placement_of w h t) x is in
    drop_facts_by w h t x found.0 found.1 (policy_of w found.0.branch.queue) refl found.2

same_drop : (d o : Option TaskId) → same_options same_task d o ≡ true → d ≡ o
same_drop None None is = refl
same_drop None (Some x) is = absurd (cc)
same_drop (Some x) None is = absurd (cc)
same_drop (Some x) (Some y) is = ap Some (same_task-is x y is)

-- what an allowed put says
pub put_allowed : (w : Parts) (h : List Event) (t : TaskId) (d : Option TaskId) → IsAllowed w h (Put t d) → (may_put w h t ≡ true) × (d ≡ drop_at w h t)
put_allowed w h t d allowed =
    let a = refused_not (may_put w h t) _ _ allowed in
    (a.0, same_drop d (drop_at w h t) (refused_not (same_options same_task d (drop_at w h t)) _ None a.1).0)

pub drop_allowed : (w : Parts) (h : List Event) (t x : TaskId) → IsAllowed w h (Put t (Some x)) → DropFacts w h t x
drop_allowed w h t x allowed = drop_at_facts w h t x (sym (put_allowed w h t (Some x) allowed).1)
