-- Over plain lists of tasks: who stands in a list, in part of it, and in two lists.
use Rattle.std.proofs.Common.{◌≡◌, ℕ, zero, suc, ◌<◌, ◌≤◌, Bool, true, false, not, ◌||◌, List, [], ◌∷◌, ◌++◌, length, drop, filter, refl, sym, arith, ap, ◌∙◌, subst, Some, take, map}
use Rattle.std.specs.List.{list_any, slice_get}
use Rattle.std.proofs.lemmas.Grind.{common_steps}
use Rattle.std.proofs.lemmas.Bool.Decides.{nat_tests}
use Rattle.std.proofs.lemmas.List.{take-append-drop}
use Rattle.ccr_base.specs.declared.names.TaskId.{TaskId}
use Rattle.ccr_base.specs.Names.{same_task, has_task, without}
use Rattle.ccr_model.specs.Consequences.{are_distinct_tasks}
use Rattle.ccr_model.specs.Rules.{is_first}
use Rattle.ccr_model.proofs.QuietAllowsNone.{first_is}
use Rattle.ccr_base.proofs.Options.{head_rest, drop-next}
use Rattle.ccr_base.proofs.SameNames.{same_task-is, same_task-self, has_task-append}
use Rattle.ccr_model.proofs.TasksLeft.{has_task-filter, has_among}
use Rattle.ccr_model.specs.Live.{is_none_of}
use Rattle.ccr_model.proofs.Members.{Among, Among-map, Among-mapped, some_among, filter_all}
use Rattle.ccr_base.proofs.Booleans.{not_true, not_false, both, or_left, or_right, either, refuted, no_both}
use Rattle.ccr_base.proofs.Lists.{any_left, any_right, none_of_both, any_parts, any_at}

-- a member that passes is a member of those that pass
pub to_filter : (p : TaskId → Bool) (ts : List TaskId) (t : TaskId) → has_task ts t ≡ true → p t ≡ true → has_task (filter p ts) t ≡ true
to_filter p ts t is passes = rw (has_task-filter p ts t, is) passes

pub to_without : (ts gone : List TaskId) (t : TaskId) → has_task ts t ≡ true → has_task gone t ≡ false → has_task (without ts gone) t ≡ true
to_without ts gone t is out = to_filter (λ u. not (has_task gone u)) ts t is (not_false (has_task gone t) out)

pub without-append : (ts us gone : List TaskId) → without (ts ++ us) gone ≡ without ts gone ++ without us gone
without-append ts us gone = grind (arith, common_steps)

-- nobody goes
pub without_none : (ts gone : List TaskId) → ((u : TaskId) → has_task ts u ≡ true → has_task gone u ≡ false) → without ts gone ≡ ts
without_none ts gone apart = filter_all (λ u. not (has_task gone u)) ts (λ u is. not_false (has_task gone u) (apart u (has_among ts u is)))

-- one of one
pub of_one : (t u : TaskId) → has_task (t ∷ []) u ≡ true → u ≡ t
of_one t u is = of_test (same_task u t) refl is
  where
    of_test : (b : Bool) → same_task u t ≡ b → b || false ≡ true → u ≡ t
    of_test true e f = same_task-is u t e
    of_test false e f = absurd (cc)

-- not in a list of one
pub not_one : (t u : TaskId) (ts : List TaskId) → has_task ts t ≡ false → has_task ts u ≡ true → has_task (t ∷ []) u ≡ false
not_one t u ts out within = refuted (has_task (t ∷ []) u) (λ is. no_both (subst (λ x. has_task ts x ≡ true) (of_one t u is) within) out)

-- one who isn't there goes
pub without_other : (ts : List TaskId) (t : TaskId) → has_task ts t ≡ false → without ts (t ∷ []) ≡ ts
without_other ts t out = without_none ts (t ∷ []) (λ u is. not_one t u ts out is)

-- the first of a list, and the others
pub first_rest : (ts : List TaskId) (t : TaskId) → is_first ts t ≡ true → (rest : List TaskId) × (ts ≡ t ∷ rest)
first_rest ts t is = head_rest ts t (first_is ts t is)

-- the first goes, and stood there once
pub without_first : (ts : List TaskId) (t : TaskId) → are_distinct_tasks (t ∷ ts) ≡ true → without (t ∷ ts) (t ∷ []) ≡ ts
without_first ts t is =
    let out = not_true (has_task ts t) (both (not (has_task ts t)) (are_distinct_tasks ts) is).0 in
    rw same_task-self (without_other ts t out)

-- an oldest task is one of its list
pub has_oldest : (ts us : List TaskId) (t : TaskId) → ts ≡ t ∷ us → has_task ts t ≡ true
has_oldest ts us t is = rw (is, same_task-self) refl

-- one of a longer list is one of the first or one of those behind
pub of_more : (ts us : List TaskId) (t : TaskId) (C : Type 0) → has_task (ts ++ us) t ≡ true → (has_task ts t ≡ true → C) → (has_task us t ≡ true → C) → C
of_more ts us t C is one other = either (has_task ts t) (has_task us t) (sym (has_task-append ts us t) ∙ is) C one other

pub among_left : (ts us : List TaskId) (t : TaskId) → has_task ts t ≡ true → has_task (ts ++ us) t ≡ true
among_left ts us t is = any_left (same_task t) ts us is

pub among_right : (ts us : List TaskId) (t : TaskId) → has_task us t ≡ true → has_task (ts ++ us) t ≡ true
among_right ts us t is = any_right (same_task t) ts us is

pub not_more : (ts us : List TaskId) (t : TaskId) → has_task ts t ≡ false → has_task us t ≡ false → has_task (ts ++ us) t ≡ false
not_more ts us t one other = none_of_both (same_task t) ts us one other

-- not in a list whose members would be in another
pub not_within : (ts us : List TaskId) (t : TaskId) → (has_task ts t ≡ true → has_task us t ≡ true) → has_task us t ≡ false → has_task ts t ≡ false
not_within ts us t within out = refuted (has_task ts t) (λ is. no_both (within is) out)

pub out_right : (ts us : List TaskId) (t : TaskId) → has_task (ts ++ us) t ≡ false → has_task us t ≡ false
out_right ts us t is = (any_parts (same_task t) ts us is).1

-- who passes a test that some member passes
pub any_named : (p : TaskId → Bool) (ts : List TaskId) → list_any p ts ≡ true → (t : TaskId) × (has_task ts t ≡ true) × (p t ≡ true)
any_named p ts is = let found = some_among p ts is in (found.0, has_among ts found.0 found.1, found.2)

-- the only one of at most one
pub only_one : (ts : List TaskId) (t : TaskId) → has_task ts t ≡ true → length ts ≤ 1 → ts ≡ t ∷ []
only_one [] t is few = absurd (cc)
only_one (x ∷ []) t is few = let one : t ≡ x = of_one x t is in ap (λ y. y ∷ []) (sym one)
only_one (x ∷ y ∷ ts) t is few = absurd (omega arith)

-- without the first ones
pub has_task-drop : (n : ℕ) (ts : List TaskId) (t : TaskId) → has_task (drop n ts) t ≡ true → has_task ts t ≡ true
has_task-drop n ts t is = subst (λ us. has_task us t ≡ true) (take-append-drop n ts) (any_right (same_task t) (take n ts) (drop n ts) is)

pub distinct-drop : (n : ℕ) (ts : List TaskId) → are_distinct_tasks ts ≡ true → are_distinct_tasks (drop n ts) ≡ true
distinct-drop zero ts is = is
distinct-drop (suc n) [] is = is
distinct-drop (suc n) (x ∷ ts) is = distinct-drop n ts (both (not (has_task ts x)) (are_distinct_tasks ts) is).1

pub drop_one_more : (n : ℕ) (ts us : List TaskId) (t : TaskId) → drop n ts ≡ t ∷ us → drop (suc n) ts ≡ us
drop_one_more n ts us t is = sym (drop-next n ts t us (sym is)).1

pub drop_some : (n : ℕ) (ts us : List TaskId) (t : TaskId) → drop n ts ≡ t ∷ us → n < length ts
drop_some n ts us t is = (drop-next n ts t us (sym is)).2

-- nobody goes
pub none_gone : (ts : List TaskId) → without ts [] ≡ ts
none_gone ts = without_none ts [] (λ u is. refl)

-- a list without members
pub no_members : (ts : List TaskId) → ((t : TaskId) → has_task ts t ≡ true → ⊥) → ts ≡ []
no_members [] none = refl
no_members (t ∷ ts) none = absurd (none t (or_left (same_task t t) (has_task ts t) (same_task-self t)))

-- who stands at an index is among them
pub has_at : (ts : List TaskId) (n : ℕ) (t : TaskId) → slice_get ts n ≡ Some t → has_task ts t ≡ true
has_at ts n t at = any_at (same_task t) ts n t at (same_task-self t)

-- nobody is left without all
pub all_gone : (ts gone : List TaskId) → ((u : TaskId) → has_task ts u ≡ true → has_task gone u ≡ true) → without ts gone ≡ []
all_gone [] gone all = refl
all_gone (x ∷ ts) gone all =
    let here = all x (or_left (same_task x x) (has_task ts x) (same_task-self x)) in
    rw here (all_gone ts gone (λ u among. all u (or_right (same_task u x) (has_task ts u) among)))

-- where nobody is in two lists together, nobody is in the first
pub none_before : (ts us : List TaskId) → is_none_of (ts ++ us) ≡ true → is_none_of ts ≡ true
none_before [] us is = refl
none_before (t ∷ ts) us is = grind (arith, nat_tests, is)

-- who stands in a list is a member
pub task_among : (ts : List TaskId) (t : TaskId) → has_task ts t ≡ true → Among t ts
task_among ts t is = let found = some_among (same_task t) ts is in subst (λ u. Among u ts) (sym (same_task-is t found.0 found.2)) found.1

-- a member's name is among the names
pub named_has : {X : Type 0} (name : X → TaskId) (xs : List X) (x : X) → Among x xs → has_task (map name xs) (name x) ≡ true
named_has name xs x is = has_among (map name xs) (name x) (Among-map name xs x is)

-- what is made of tasks names one of them, where each names its own
pub made_names : {X : Type 0} (make : TaskId → X) (name : X → TaskId) → ((u : TaskId) → name (make u) ≡ u) → (ts : List TaskId) (x : X) → Among x (map make ts) → has_task ts (name x) ≡ true
made_names make name named ts x is = let found = Among-mapped make ts x is in subst (λ u. has_task ts u ≡ true) (sym (named found.0) ∙ ap name found.2) (has_among ts found.0 found.1)
