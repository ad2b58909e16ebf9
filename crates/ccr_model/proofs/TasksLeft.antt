-- Over plain lists of tasks: who stands in a list, who passes a test, and who is left without others.
use Rattle.std.proofs.Common.{◌≡◌, Bool, true, false, not, ◌&&◌, ◌||◌, List, [], ◌∷◌, ◌++◌, filter, refl, sym, arith, ◌∙◌, length, ◌+◌, ◌≤◌, ap, subst}
use Rattle.std.specs.Prelude.{if◌then◌else◌}
use Rattle.std.proofs.lemmas.Grind.{common_steps}
use Rattle.ccr_base.specs.declared.names.TaskId.{TaskId}
use Rattle.ccr_base.specs.Names.{same_task, has_task, without}
use Rattle.ccr_model.specs.Consequences.{are_distinct_tasks}
use Rattle.ccr_base.proofs.SameNames.{same_task-is, same_task-self, same_task-sym}
use Rattle.ccr_base.proofs.Booleans.{not_true, both, or_left}
use Rattle.ccr_base.proofs.Apart.{distinct_kept, distinct_push}
use Rattle.ccr_base.proofs.Lists.{any_parts}
use Rattle.ccr_model.proofs.Members.{Among, any_among, same_filter, some_among, kept_among, fewer_kept}

-- a member stands in the list
pub has_among : (ts : List TaskId) (t : TaskId) → Among t ts → has_task ts t ≡ true
has_among ts t is = any_among (same_task t) ts t is (same_task-self t)

pub has_task-filter : (p : TaskId → Bool) (ts : List TaskId) (t : TaskId) → has_task (filter p ts) t ≡ has_task ts t && p t
has_task-filter p [] t = refl
has_task-filter p (x ∷ ts) t = of_tests (same_task t x) (p x) refl refl (has_task-filter p ts t)
  where
    of_tests : (a b : Bool) → same_task t x ≡ a → p x ≡ b → has_task (filter p ts) t ≡ has_task ts t && p t → has_task (if b then x ∷ filter p ts else filter p ts) t ≡ (a || has_task ts t) && p t
    of_tests true true e f rest = let one : t ≡ x = same_task-is t x e in rw (one, same_task-self x, f) refl
    of_tests true false e f rest = let one : t ≡ x = same_task-is t x e in let out : p t ≡ false = rw one f in grind (arith, rest, out)
    of_tests false true e f rest = rw e rest
    of_tests false false e f rest = rest

pub has_task-without : (ts gone : List TaskId) (t : TaskId) → has_task (without ts gone) t ≡ has_task ts t && not (has_task gone t)
has_task-without ts gone t = has_task-filter (λ u. not (has_task gone u)) ts t

-- a member of those that pass is a member and passes
pub of_filter : (p : TaskId → Bool) (ts : List TaskId) (t : TaskId) → has_task (filter p ts) t ≡ true → (has_task ts t ≡ true) × (p t ≡ true)
of_filter p ts t is = both (has_task ts t) (p t) (sym (has_task-filter p ts t) ∙ is)

-- a member of what is left is a member, and isn't gone
pub of_without : (ts gone : List TaskId) (t : TaskId) → has_task (without ts gone) t ≡ true → (has_task ts t ≡ true) × (has_task gone t ≡ false)
of_without ts gone t is =
    let parts = of_filter (λ u. not (has_task gone u)) ts t is in
    (parts.0, not_true (has_task gone t) parts.1)

-- a test that agrees on the members
pub filter_on : (p q : TaskId → Bool) (ts : List TaskId) → ((u : TaskId) → has_task ts u ≡ true → p u ≡ q u) → filter p ts ≡ filter q ts
filter_on p q ts same = same_filter p q ts (λ u is. same u (has_among ts u is))

-- what two lists leave
pub without_both : (ts gone more : List TaskId) → without ts (gone ++ more) ≡ without (without ts gone) more
without_both [] gone more = refl
without_both (t ∷ ts) gone more = grind (arith, common_steps, without_both ts gone more)

-- one more goes, in the middle of those that go
pub without_middle : (ts front back : List TaskId) (t : TaskId) → without ts ((front ++ t ∷ []) ++ back) ≡ without (without ts (front ++ back)) (t ∷ [])
without_middle [] front back t = refl
without_middle (x ∷ ts) front back t = grind (arith, common_steps, without_middle ts front back t)

-- one more started
pub lists_start : (f : TaskId → Bool) (ps ss ds : List TaskId) (t : TaskId) → filter f (without ps ((ss ++ t ∷ []) ++ ds)) ≡ without (filter f (without ps (ss ++ ds))) (t ∷ [])
lists_start f [] ss ds t = refl
lists_start f (p ∷ ps) ss ds t = grind (arith, common_steps, lists_start f ps ss ds t)

-- out of a longer list, out of its first part
pub out_left : (front back : List TaskId) (t : TaskId) → has_task (front ++ back) t ≡ false → has_task front t ≡ false
out_left front back t is = (any_parts (same_task t) front back is).0

-- nobody stands twice in a part
pub distinct-filter : (p : TaskId → Bool) (ts : List TaskId) → are_distinct_tasks ts ≡ true → are_distinct_tasks (filter p ts) ≡ true
distinct-filter = distinct_kept same_task are_distinct_tasks (λ t ts. refl)

pub distinct-push : (ts : List TaskId) (t : TaskId) → are_distinct_tasks ts ≡ true → has_task ts t ≡ false → are_distinct_tasks (ts ++ t ∷ []) ≡ true
distinct-push = distinct_push same_task are_distinct_tasks (λ t ts. refl) (λ s t out. same_task-sym t s ∙ out)

-- one more is gone
pub less_left : (came gone : List TaskId) (t : TaskId) → has_task came t ≡ true → has_task gone t ≡ false → length (without came (gone ++ t ∷ [])) + 1 ≤ length (without came gone)
less_left came gone t is out =
    let found = some_among (same_task t) came is in
    let among : Among t came = subst (λ u. Among u came) (sym (same_task-is t found.0 found.2)) found.1 in
    let left : Among t (without came gone) = kept_among (λ u. not (has_task gone u)) came t among (ap not out) in
    rw (without_both came gone (t ∷ [])) (fewer_kept (λ u. not (has_task (t ∷ []) u)) (without came gone) t left (ap not (or_left (same_task t t) false (same_task-self t))))
