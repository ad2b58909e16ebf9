-- An exclusive or teardown root is alone from its admission until it is over.
use Rattle.std.proofs.Common.{◌≡◌, ℕ, ◌≤◌, Bool, true, false, not, ◌||◌, List, [], ◌∷◌, ◌++◌, length, refl, arith, ap, ◌∙◌, subst}
use Rattle.std.specs.Prelude.{◌==◌, nat_le}
use Rattle.std.specs.List.{list_all}
use Rattle.std.specs.Option.{option_map_or}
use Rattle.std.proofs.lemmas.Grind.{common_steps}
use Rattle.std.proofs.lemmas.Bool.Decides.{nat_tests}
use Rattle.ccr_base.specs.declared.names.TaskId.{TaskId}
use Rattle.ccr_base.specs.Names.{same_task, has_task}
use Rattle.ccr_wiring.specs.declared.parts.Parts.{Parts}
use Rattle.ccr_wiring.specs.Wirings.{Placement}
use Rattle.ccr_model.specs.declared.history.Event.{Event}
use Rattle.ccr_model.specs.declared.history.Event.TheVariants.{Admit}
use Rattle.ccr_model.specs.Firings.{ever_admitted}
use Rattle.ccr_model.specs.Sites.{root_of}
use Rattle.ccr_model.specs.TaskData.{placement_of}
use Rattle.ccr_model.specs.Tasks.{is_interleave, is_concurrent, is_of_domain, is_over, admitted}
use Rattle.ccr_model.specs.Rules.{is_concurrent_task}
use Rattle.ccr_model.specs.Legal.{IsLegal}
use Rattle.ccr_base.proofs.Options.{some_of}
use Rattle.ccr_base.proofs.SameNames.{same_task-self, has_task-append}
use Rattle.ccr_base.proofs.Booleans.{not_true, both, or_left, or_right}
use Rattle.ccr_model.proofs.ExclusiveRootsAreAlone.{is_alone-legal}
use Rattle.ccr_model.specs.AtWork.{is_at_work}
use Rattle.ccr_model.specs.Interleaves.{is_placement_in, is_exclusive_in, is_of_interleave, is_of_exclusive}
use Rattle.ccr_model.proofs.Members.{all_pass}
use Rattle.ccr_model.proofs.TaskLists.{of_one, only_one, task_among}
use Rattle.ccr_model.proofs.WhoWasPut.{ArePlaced-legal}
use Rattle.ccr_model.proofs.Roots.{IsAtWork, at_work_admitted, one_at_work, work_so, placement_of_root, admitted_whole}

-- whether the task's branch is concurrent, where it is an exclusive or teardown one of the Interleave
not_concurrent : (w : Parts) (h : List Event) (i : ℕ) (t : TaskId) → is_of_exclusive w h i t ≡ true → is_concurrent_task w h t ≡ false
not_concurrent w h i t is =
    let found = some_of (is_exclusive_in i) (placement_of w h t) is in
    let parts = both (is_placement_in i found.0) (not (is_concurrent found.0.branch.group)) found.2 in
    ap (λ o. option_map_or (λ (s : Placement). is_concurrent s.branch.group) o false) found.1 ∙ not_true (is_concurrent found.0.branch.group) parts.1

pub exclusive_within : (w : Parts) (h : List Event) (i : ℕ) (t : TaskId) → is_of_exclusive w h i t ≡ true → is_of_interleave w h i t ≡ true
exclusive_within w h i t is =
    let found = some_of (is_exclusive_in i) (placement_of w h t) is in
    let parts = both (is_placement_in i found.0) (not (is_concurrent found.0.branch.group)) found.2 in
    ap (λ o. option_map_or (is_placement_in i) o false) found.1 ∙ parts.0

-- an admitted root that isn't over and isn't concurrent is the only one
pub alone : (w : Parts) (h : List Event) → IsLegal w h → (i : ℕ) (t : TaskId) → is_of_exclusive w h i t ≡ true → has_task (admitted w h i) t ≡ true → admitted w h i ≡ t ∷ []
alone w h legal i t exclusive is = of_test (list_all (is_concurrent_task w h) (admitted w h i)) refl (is_alone-legal w h legal i)
  where
    of_test : (b : Bool) → list_all (is_concurrent_task w h) (admitted w h i) ≡ b → b || nat_le (length (admitted w h i)) 1 ≡ true → admitted w h i ≡ t ∷ []
    of_test true e one = let passes = all_pass (is_concurrent_task w h) (admitted w h i) t e (task_among (admitted w h i) t is) in let fails = not_concurrent w h i t exclusive in absurd (cc)
    of_test false e one = let few : length (admitted w h i) ≤ 1 = grind (arith, nat_tests, one) in only_one (admitted w h i) t is few

-- from the admission on until it is over
pub alone_since : (w : Parts) (i : ℕ) (before since : List Event) (t : TaskId) → IsLegal w (before ++ Admit t ∷ since) → is_of_exclusive w (before ++ Admit t ∷ since) i t ≡ true → is_over (before ++ Admit t ∷ since) t ≡ false → admitted w (before ++ Admit t ∷ since) i ≡ t ∷ []
alone_since w i before since t legal exclusive lasts =
    let h = before ++ Admit t ∷ since in
    let entered : has_task (ever_admitted h) t ≡ true = rw (ever_admitted_more, has_task-append (ever_admitted before) (t ∷ ever_admitted since) t) (or_right (has_task (ever_admitted before) t) (has_task (t ∷ ever_admitted since) t) (or_left (same_task t t) (has_task (ever_admitted since) t) (same_task-self t))) in
    let found = some_of (is_exclusive_in i) (placement_of w h t) exclusive in
    let parts = both (is_placement_in i found.0) (not (is_concurrent found.0.branch.group)) found.2 in
    let number = (both (is_interleave found.0.kind) (found.0.domain == i) parts.0).1 in
    let there : is_of_domain w h i t ≡ true = ap (λ o. option_map_or (λ (s : Placement). s.domain == i) o false) found.1 ∙ number in
    alone w h legal i t exclusive (admitted_whole w h i t entered there lasts)
  where
    ever_admitted_more : ever_admitted (before ++ Admit t ∷ since) ≡ ever_admitted before ++ t ∷ ever_admitted since
    ever_admitted_more = grind (arith, common_steps)

-- only its segments are at work
pub own_segments : (w : Parts) (h : List Event) → IsLegal w h → (i : ℕ) (t u : TaskId) → is_of_exclusive w h i t ≡ true → has_task (admitted w h i) t ≡ true → is_of_interleave w h i u ≡ true → is_at_work w h u ≡ true → root_of h u ≡ t
own_segments w h legal i t u exclusive is within works =
    let root = at_work_admitted w h legal i u within (work_so w h legal u works) in
    of_one t (root_of h u) (subst (λ ts. has_task ts (root_of h u) ≡ true) (alone w h legal i t exclusive is) root)

-- of a root one segment at a time
pub one_segment : (w : Parts) (h : List Event) → IsLegal w h → (t u : TaskId) → is_at_work w h t ≡ true → is_at_work w h u ≡ true → root_of h t ≡ root_of h u → t ≡ u
one_segment w h legal t u work_t work_u same = one_at_work w h legal t u (work_so w h legal t work_t) (work_so w h legal u work_u) same

pub admitted_works : (w : Parts) (h : List Event) → IsLegal w h → (i : ℕ) (t : TaskId) → is_of_interleave w h i t ≡ true → is_at_work w h t ≡ true → has_task (admitted w h i) (root_of h t) ≡ true
admitted_works w h legal i t within works = at_work_admitted w h legal i t within (work_so w h legal t works)

-- a segment's root is exclusive where the segment is
pub exclusive_root : (w : Parts) (h : List Event) → IsLegal w h → (i : ℕ) (t : TaskId) → IsAtWork h t → is_of_exclusive w h i t ≡ true → is_of_exclusive w h i (root_of h t) ≡ true
exclusive_root w h legal i t work is = ap (λ o. option_map_or (is_exclusive_in i) o false) (placement_of_root w h legal t ((ArePlaced-legal w h legal).all_fired t work.put_so)) ∙ is

-- while such a segment is at work no other task is
pub no_other_works : (w : Parts) (h : List Event) → IsLegal w h → (i : ℕ) (t u : TaskId) → is_of_exclusive w h i t ≡ true → is_at_work w h t ≡ true → is_of_interleave w h i u ≡ true → is_at_work w h u ≡ true → u ≡ t
no_other_works w h legal i t u exclusive work_t within work_u =
    let work = work_so w h legal t work_t in
    let root = admitted_works w h legal i t (exclusive_within w h i t exclusive) work_t in
    one_segment w h legal u t work_u work_t (own_segments w h legal i (root_of h t) u (exclusive_root w h legal i t work exclusive) root within work_u)
