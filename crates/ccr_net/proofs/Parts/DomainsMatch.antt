-- What a domain of Interleaves keeps by its notes: its waiting tasks are those of the history, each root that was admitted and
-- isn't over is among its own, and where no teardown fired by its notes none did.
use Rattle.std.proofs.Common.{◌≡◌, ◌⊎◌, zero, suc, ℕ, ◌+◌, Bool, true, false, not, ◌&&◌, ◌||◌, List, [], ◌∷◌, ◌++◌, length, map, filter, Option, option_map, Some, None, inl, inr, refl, sym, arith, ap, ◌∙◌, subst, append-nil}
use Rattle.std.specs.Prelude.{◌==◌, if◌then◌else◌, slice_get, position, option_and_then, nat_le}
use Rattle.std.specs.FinSet as set
use Rattle.std.specs.List.{list_all, prefix_len}
use Rattle.std.specs.Option.{option_map_or}
use Rattle.std.proofs.lemmas.Bool.Decides.{nat_tests}
use Rattle.std.proofs.lemmas.Grind.{common_steps}
use Rattle.ccr_base.specs.declared.names.MsgId.{MsgId}
use Rattle.ccr_base.specs.declared.names.Place.{Place}
use Rattle.ccr_base.specs.declared.names.Place.TheVariants as places
use Rattle.ccr_base.specs.declared.names.Spot.{Spot}
use Rattle.ccr_base.specs.declared.names.Spot.TheVariants.{Branch, Site}
use Rattle.ccr_base.specs.declared.names.TaskId.{TaskId}
use Rattle.ccr_base.specs.declared.policies.Group.{Group}
use Rattle.ccr_base.specs.declared.tasks.How.{How}
use Rattle.ccr_base.specs.Names.{same_task, has_task, without}
use Rattle.ccr_wiring.specs.declared.parts.Parts.{Parts}
use Rattle.ccr_wiring.specs.Wirings.{Placement, placement, placements, branch_of}
use Rattle.ccr_model.specs.declared.history.Event.{Event}
use Rattle.ccr_model.specs.declared.history.Event.TheVariants as events
use Rattle.ccr_model.specs.Firings.{Firing, firing_of, fired, ever_admitted, admitted_by, spot_of}
use Rattle.ccr_model.specs.Interleaves.{is_placement_in}
use Rattle.ccr_model.specs.Legal.{IsAllowed, IsLegal}
use Rattle.ccr_model.specs.Live.{is_none_of}
use Rattle.ccr_model.specs.Rules.{is_concurrent_task, is_oldest_waiting, may_admit, cuts_at}
use Rattle.ccr_model.specs.TaskData.{placement_of}
use Rattle.ccr_model.specs.Tasks.{is_interleave, is_teardown, is_concurrent, is_branch_where, fired_by, waiting, admitted, is_over, is_of_domain}
use Rattle.ccr_model.proofs.Allowing.{OneName-legal}
use Rattle.ccr_base.proofs.Booleans.{both, refuted, no_both, same_number, eq-self, and_false}
use Rattle.ccr_base.proofs.Options.{some_is}
use Rattle.ccr_model.proofs.FiredTasks.{IsFired, placement_stays}
use Rattle.ccr_model.proofs.AllowedFirings.{firing_named-new, FiresSo-allowed, BranchFacts-where, WaitingFacts, WaitingFacts-waiting}
use Rattle.ccr_model.proofs.Members.{Among, Among-either, all_from}
use Rattle.ccr_model.proofs.OneMoreEvent.{ever_admitted-push}
use Rattle.ccr_model.proofs.Roots.{AdmittedFacts-admitted}
use Rattle.ccr_base.proofs.SameNames.{same_task-is, same_task-self}
use Rattle.ccr_model.proofs.TaskLists.{without_other, without_first, of_more, of_one, has_oldest, none_gone, all_gone, no_members}
use Rattle.ccr_model.proofs.TasksLeft.{has_among}
use Rattle.ccr_model.proofs.WhoWasPut.{placement_by}
use Rattle.ccr_model.proofs.TasksOnce.{waiting_once, waits_in_one, waiting_apart}
use Rattle.ccr_model.specs.Consequences.{are_distinct_tasks}
use Rattle.ccr_model.proofs.WaitingTasks.{waiting-admit}
use Rattle.ccr_model.proofs.Cutting.{fired_by-fire, fired_by-same}
use Rattle.ccr_places.specs.declared.notes.Note.{Note}
use Rattle.ccr_places.specs.declared.notes.Note.TheVariants as notes
use Rattle.ccr_places.specs.Interleaves.{InterleaveState, Waiting, group_among, group_at, waiting_task}
use Rattle.ccr_places.specs.Interleaves as interleaves
use Rattle.ccr_places.specs.TaskSets.{TaskSet, len-there}
use Rattle.ccr_actor.specs.Plans.{is_interleave_number}
use Rattle.ccr_runs.specs.declared.entries.Entry.{Entry}
use Rattle.ccr_runs.specs.Places.{branches_from, groups_in}
use Rattle.ccr_runs.specs.EntryRuns.{same_place, domain_at}
use Rattle.ccr_net.proofs.Kept.EventsAreAllowed.{refused_pass}
use Rattle.ccr_net.proofs.Parts.TasksAreBookedOnce.{in-more, in-less}
use Rattle.ccr_net.proofs.Parts.EventsChangeDomains.{spot_stays, waiting-same, waiting-fire, admitted_before, concurrent_stays}

-- a teardown branch of the domain
abbrev pub tears : ℕ → Placement → Bool
tears i s = (s.domain == i) && is_teardown s.branch.group

-- the domain keeps the root, by whether its branch is concurrent
abbrev pub IsKeptRoot : Bool → InterleaveState → TaskId → Type 0
IsKeptRoot true place t = set.contains place.shared t ≡ true
IsKeptRoot false place t = set.contains place.alone t ≡ true

pub record DomainMatches (w : Parts) (h : List Event) (i : ℕ) (place : InterleaveState) : Type 0 where
  pub branches_so : place.branches ≡ branches_from i 0 (placements w)
  pub groups_so : place.groups ≡ groups_in w i
  pub waiting_so : map waiting_task place.waiting ≡ waiting w h i
  pub spots_so : (x : Waiting) → Among x place.waiting → spot_of h x.task ≡ Some x.spot
  pub roots_so : (t : TaskId) → has_task (admitted w h i) t ≡ true → IsKeptRoot (is_concurrent_task w h t) place t
  pub torn_so : place.teardown ≡ None → fired_by w (tears i) h ≡ []

-- ---- groups

same_teardown : (g : Group) → interleaves.is_teardown (Some g) ≡ is_teardown g
same_teardown g = refl

same_concurrent : (g : Group) → interleaves.is_concurrent (Some g) ≡ is_concurrent g
same_concurrent g = refl

abbrev group_of : Placement → Group
group_of s = s.branch.group

-- the first place of a number in a list
first_place : (k n : ℕ) (ns : List ℕ) → (n == k) ≡ true → position (λ m. m == k) (n ∷ ns) ≡ Some 0
first_place k n ns is = rw is (by (nat_le 1 (length (n ∷ ns))) refl)
  where
    front : Option ℕ
    front = Some 0

    by : (c : Bool) → nat_le 1 (length (n ∷ ns)) ≡ c → (if c then front else None) ≡ front
    by true e = refl
    by false e = absurd (let some : nat_le 1 (length (n ∷ ns)) ≡ true = grind (arith, nat_tests) in cc)

later_place : (k n : ℕ) (ns : List ℕ) → (n == k) ≡ false → position (λ m. m == k) (n ∷ ns) ≡ option_map suc (position (λ m. m == k) ns)
later_place k n ns other = rw other (by (nat_le (suc before) (length ns)) refl (nat_le (suc (1 + before)) (length (n ∷ ns))) refl)
  where
    before : ℕ
    before = prefix_len (λ m. not (m == k)) ns

    by : (b : Bool) → nat_le (suc before) (length ns) ≡ b → (c : Bool) → nat_le (suc (1 + before)) (length (n ∷ ns)) ≡ c → (if c then Some (1 + before) else None) ≡ option_map suc (if b then Some before else None)
    by true is true e = ap Some (let one : 1 + before ≡ suc before = omega arith in one)
    by false is false e = refl
    by true is false e = absurd (let yes : nat_le (suc (1 + before)) (length (n ∷ ns)) ≡ true = grind (arith, nat_tests, is) in cc)
    by false is true e = absurd (let no : nat_le (suc (1 + before)) (length (n ∷ ns)) ≡ false = grind (arith, nat_tests, is) in cc)

its_group : (i k j : ℕ) (ss : List Placement) (s : Placement) → slice_get ss j ≡ Some s → is_placement_in i s ≡ true → group_among (branches_from i k ss) (map group_of (filter (is_placement_in i) ss)) (Branch (k + j)) ≡ Some s.branch.group
its_group i k j [] s at within = absurd (cc)
its_group i k zero (r ∷ ss) s at within = rw (subst (λ x. is_placement_in i x ≡ true) (sym same) within, first_place (k + 0) k (branches_from i (k + 1) ss) here) (ap (λ x. Some (group_of x)) same)
  where
    same : r ≡ s
    same = cc

    here : (k == (k + 0)) ≡ true
    here = grind (arith, nat_tests)
its_group i k (suc j) (r ∷ ss) s at within = by (is_placement_in i r) refl (ap (λ b. group_among (branches_from i (k + 1) ss) (map group_of (filter (is_placement_in i) ss)) (Branch b)) (let same : k + suc j ≡ (k + 1) + j = omega arith in same) ∙ its_group i (k + 1) j ss s at within)
  where
    other : (k == (k + suc j)) ≡ false
    other = grind (arith, nat_tests)

    behind : (g : Group) (gs : List Group) (o : Option ℕ) → option_and_then (λ index. slice_get (g ∷ gs) index) (option_map suc o) ≡ option_and_then (λ index. slice_get gs index) o
    behind g gs None = refl
    behind g gs (Some n) = refl

    by : (b : Bool) → is_placement_in i r ≡ b → group_among (branches_from i (k + 1) ss) (map group_of (filter (is_placement_in i) ss)) (Branch (k + suc j)) ≡ Some s.branch.group → group_among (branches_from i k (r ∷ ss)) (map group_of (filter (is_placement_in i) (r ∷ ss))) (Branch (k + suc j)) ≡ Some s.branch.group
    by true e rest = rw (e, later_place (k + suc j) k (branches_from i (k + 1) ss) other) (behind (group_of r) (map group_of (filter (is_placement_in i) ss)) (position (λ n. n == (k + suc j)) (branches_from i (k + 1) ss)) ∙ rest)
    by false e rest = rw e rest

-- a branch of the domain has its group there
pub group_so : (w : Parts) (h : List Event) (i b : ℕ) (place : InterleaveState) (s : Placement) → placement w b ≡ Some s → is_placement_in i s ≡ true → DomainMatches w h i place → group_at place (Branch b) ≡ Some s.branch.group
group_so w h i b place s sits within match = rw (match.branches_so, match.groups_so) (ap (λ k. group_among (branches_from i 0 (placements w)) (groups_in w i) (Branch k)) (let same : b ≡ 0 + b = omega arith in same) ∙ its_group i 0 b (placements w) s sits within)

-- what a firing there cuts is what the rule cuts
pub cuts_so : (w : Parts) (h : List Event) (i b : ℕ) (place : InterleaveState) (s : Placement) → placement w b ≡ Some s → s.domain ≡ i → is_placement_in i s ≡ true → DomainMatches w h i place → interleaves.cut_note place (Branch b) ≡ cuts_at w h (Branch b)
cuts_so w h i b place s sits at_i within match = rw (group_so w h i b place s sits within match, sits, at_i, same_teardown s.branch.group, match.waiting_so) refl

-- ---- an event that fires nothing and admits nobody

roots_stay : (w : Parts) (h : List Event) (e : Event) (i : ℕ) (place : InterleaveState) → IsLegal w h → admitted_by e ≡ [] → DomainMatches w h i place → (t : TaskId) → has_task (admitted w (h ++ e ∷ []) i) t ≡ true → IsKeptRoot (is_concurrent_task w (h ++ e ∷ []) t) place t
roots_stay w h e i place legal admits match t is =
    let now = AdmittedFacts-admitted w (h ++ e ∷ []) i t is in
    let entered : has_task (ever_admitted h) t ≡ true = subst (λ ts. has_task ts t ≡ true) (ever_admitted-push h e ∙ ap (λ ts. ever_admitted h ++ ts) admits ∙ append-nil (ever_admitted h)) now.entered in
    subst (λ b. IsKeptRoot b place t) (sym (concurrent_stays w h e t legal entered)) (match.roots_so t (admitted_before w h e i t legal entered is))

pub DomainMatches-event : (w : Parts) (h : List Event) (e : Event) (i : ℕ) (place : InterleaveState) → IsLegal w h → firing_of e ≡ [] → admitted_by e ≡ [] → DomainMatches w h i place → DomainMatches w (h ++ e ∷ []) i place
DomainMatches-event w h e i place legal fires admits match = record {
  branches_so = match.branches_so;
  groups_so = match.groups_so;
  waiting_so = match.waiting_so ∙ sym (waiting-same w h e i fires admits);
  spots_so = λ x is. spot_stays h (e ∷ []) x.task x.spot (match.spots_so x is);
  roots_so = λ t is. roots_stay w h e i place legal admits match t is;
  torn_so = λ none. fired_by-same w (tears i) h e fires ∙ match.torn_so none;
}

-- ---- a root is noted over that is over

pub DomainMatches-over : (w : Parts) (h : List Event) (i : ℕ) (place : InterleaveState) (r : TaskId) → is_over h r ≡ true → DomainMatches w h i place → DomainMatches w h i (interleaves.after_over place r)
DomainMatches-over w h i place r over match = record {
  branches_so = match.branches_so;
  groups_so = match.groups_so;
  waiting_so = match.waiting_so;
  spots_so = match.spots_so;
  roots_so = λ t is. kept t (is_concurrent_task w h t) (AdmittedFacts-admitted w h i t is).lasts (match.roots_so t is);
  torn_so = match.torn_so;
}
  where
    other : (t : TaskId) → is_over h t ≡ false → same_task t r ≡ false
    other t lasts = refuted (same_task t r) (λ is. no_both (subst (λ u. is_over h u ≡ true) (sym (same_task-is t r is)) over) lasts)

    kept : (t : TaskId) (b : Bool) → is_over h t ≡ false → IsKeptRoot b place t → IsKeptRoot b (interleaves.after_over place r) t
    kept t true lasts is = in-less place.shared r t ∙ rw (other t lasts, is) refl
    kept t false lasts is = in-less place.alone r t ∙ rw (other t lasts, is) refl

-- ---- a firing

roots_fired : (w : Parts) (h : List Event) (t : TaskId) (spot : Spot) (ms : List MsgId) (cs : List TaskId) (i : ℕ) (place place' : InterleaveState) → IsLegal w h → place'.shared ≡ place.shared → place'.alone ≡ place.alone → DomainMatches w h i place → (u : TaskId) → has_task (admitted w (h ++ events.Fire t spot ms cs ∷ []) i) u ≡ true → IsKeptRoot (is_concurrent_task w (h ++ events.Fire t spot ms cs ∷ []) u) place' u
roots_fired w h t spot ms cs i place place' legal shared alone match u is = by (is_concurrent_task w (h ++ events.Fire t spot ms cs ∷ []) u) (roots_stay w h (events.Fire t spot ms cs) i place legal refl match u is)
  where
    by : (b : Bool) → IsKeptRoot b place u → IsKeptRoot b place' u
    by true kept = rw shared kept
    by false kept = rw alone kept

-- elsewhere: nobody who waits here is cut, and the spot is no branch of the domain
pub DomainMatches-fire-else : (w : Parts) (h : List Event) (t : TaskId) (spot : Spot) (ms : List MsgId) (cs : List TaskId) (i : ℕ) (place : InterleaveState) → IsLegal w h → IsAllowed w h (events.Fire t spot ms cs) → is_branch_where w (is_placement_in i) spot ≡ false → is_branch_where w (tears i) spot ≡ false → without (waiting w h i) cs ≡ waiting w h i → DomainMatches w h i place → DomainMatches w (h ++ events.Fire t spot ms cs ∷ []) i place
DomainMatches-fire-else w h t spot ms cs i place legal allowed outside untorn stay match = record {
  branches_so = match.branches_so;
  groups_so = match.groups_so;
  waiting_so = match.waiting_so ∙ sym (waiting-fire w h t spot ms cs i legal allowed ∙ ap (λ b. without (waiting w h i) cs ++ (if b then t ∷ [] else [])) outside ∙ append-nil (without (waiting w h i) cs) ∙ stay);
  spots_so = λ x is. spot_stays h (events.Fire t spot ms cs ∷ []) x.task x.spot (match.spots_so x is);
  roots_so = roots_fired w h t spot ms cs i place place legal refl refl match;
  torn_so = λ none. fired_by-fire w (tears i) h t spot ms cs ∙ ap (λ b. fired_by w (tears i) h ++ (if b then t ∷ [] else [])) untorn ∙ append-nil (fired_by w (tears i) h) ∙ match.torn_so none;
}

map-last : (xs : List Waiting) (x : Waiting) → map waiting_task (xs ++ x ∷ []) ≡ map waiting_task xs ++ x.task ∷ []
map-last xs x = grind (arith, common_steps)

-- at a branch of the domain
pub DomainMatches-fire : (w : Parts) (h : List Event) (t : TaskId) (b : ℕ) (ms : List MsgId) (i : ℕ) (s : Placement) (place : InterleaveState) → IsLegal w h → IsAllowed w h (events.Fire t (Branch b) ms (interleaves.cut_note place (Branch b))) → placement w b ≡ Some s → is_placement_in i s ≡ true → DomainMatches w h i place → DomainMatches w (h ++ events.Fire t (Branch b) ms (interleaves.cut_note place (Branch b)) ∷ []) i (interleaves.after_firing place t (Branch b))
DomainMatches-fire w h t b ms i s place legal allowed sits within match = record {
  branches_so = match.branches_so;
  groups_so = match.groups_so;
  waiting_so = map-last (interleaves.spared place (Branch b)) (record { task = t; spot = Branch b }) ∙ ap (λ ts. ts ++ t ∷ []) (left (interleaves.is_teardown (group_at place (Branch b)))) ∙ sym (waiting-fire w h t (Branch b) ms cs i legal allowed ∙ ap (λ c. without (waiting w h i) cs ++ (if c then t ∷ [] else [])) here);
  spots_so = λ x is. spots x (interleaves.is_teardown (group_at place (Branch b))) (Among-either x (interleaves.spared place (Branch b)) _ is);
  roots_so = roots_fired w h t (Branch b) ms cs i place (interleaves.after_firing place t (Branch b)) legal refl refl match;
  torn_so = λ none. torn (is_teardown s.branch.group) refl (interleaves.is_teardown (group_at place (Branch b))) (ap interleaves.is_teardown (group_so w h i b place s sits within match) ∙ same_teardown s.branch.group) none;
}
  where
    cs : List TaskId
    cs = interleaves.cut_note place (Branch b)

    here : is_branch_where w (is_placement_in i) (Branch b) ≡ true
    here = rw sits within

    left : (c : Bool) → map waiting_task (if c then [] else place.waiting) ≡ without (waiting w h i) (if c then map waiting_task place.waiting else [])
    left true = sym (ap (without (waiting w h i)) match.waiting_so ∙ all_gone (waiting w h i) (waiting w h i) (λ u is. is))
    left false = match.waiting_so ∙ sym (none_gone (waiting w h i))

    fresh : has_task (fired h) t ≡ false
    fresh = (FiresSo-allowed w h t (Branch b) ms cs allowed).new_name

    spots : (x : Waiting) (c : Bool) → Among x (if c then [] else place.waiting) ⊎ Among x ((record { task = t; spot = Branch b }) ∷ []) → spot_of (h ++ events.Fire t (Branch b) ms cs ∷ []) x.task ≡ Some x.spot
    spots x true (inl is) = absurd is
    spots x false (inl is) = spot_stays h (events.Fire t (Branch b) ms cs ∷ []) x.task x.spot (match.spots_so x is)
    spots x c (inr (inl e)) = subst (λ (y : Waiting). spot_of (h ++ events.Fire t (Branch b) ms cs ∷ []) y.task ≡ Some y.spot) (sym e) (ap (option_map (λ (f : Firing). f.spot)) (firing_named-new h t (Branch b) ms cs fresh))
    spots x c (inr (inr none)) = absurd none

    torn : (g : Bool) → is_teardown s.branch.group ≡ g → (c : Bool) → c ≡ is_teardown s.branch.group → (if c then Some t else place.teardown) ≡ None → fired_by w (tears i) (h ++ events.Fire t (Branch b) ms cs ∷ []) ≡ []
    torn true is true e none = absurd (cc)
    torn true is false e none = absurd (cc)
    torn false is true e none = absurd (cc)
    torn false is false e none = fired_by-fire w (tears i) h t (Branch b) ms cs ∙ ap (λ c. fired_by w (tears i) h ++ (if c then t ∷ [] else [])) untorn ∙ append-nil (fired_by w (tears i) h) ∙ match.torn_so none
      where
        untorn : is_branch_where w (tears i) (Branch b) ≡ false
        untorn = rw (sits, is) (and_false (s.domain == i))

-- ---- the oldest waiting task

pub record Oldest (w : Parts) (h : List Event) (i : ℕ) (place : InterleaveState) : Type 0 where
  pub first : Waiting
  pub others : List Waiting
  pub list : place.waiting ≡ first ∷ others
  pub facts : WaitingFacts w h i first.task
  pub number : ℕ
  pub branch : first.spot ≡ Branch number
  pub s : Placement
  pub placed : placement_of w h first.task ≡ Some s
  pub sits : placement w number ≡ Some s
  pub within : is_placement_in i s ≡ true
  pub at_i : s.domain ≡ i
  pub waits : waiting w h i ≡ first.task ∷ map waiting_task others

abbrev pub oldest : (w : Parts) (h : List Event) (i : ℕ) (place : InterleaveState) (x : Waiting) (others : List Waiting) → IsLegal w h → place.waiting ≡ x ∷ others → DomainMatches w h i place → Oldest w h i place
oldest w h i place x others legal list match =
    let waits_so : waiting w h i ≡ x.task ∷ map waiting_task others = sym match.waiting_so ∙ ap (map waiting_task) list in
    let known = WaitingFacts-waiting w h i x.task (OneName-legal w h legal) (has_oldest (waiting w h i) (map waiting_task others) x.task waits_so) in
    let at_branch = BranchFacts-where w (is_placement_in i) known.firing.spot known.is_branch in
    let spot : x.spot ≡ known.firing.spot = some_is (sym (match.spots_so x (rw list (inl refl))) ∙ ap (option_map (λ (f : Firing). f.spot)) known.is_firing) in
    record {
      first = x;
      others = others;
      list = list;
      facts = known;
      number = at_branch.number;
      branch = spot ∙ at_branch.is_branch;
      s = at_branch.placement;
      placed = placement_by w h x.task known.firing known.is_firing ∙ ap (λ r. placement w (branch_of r)) at_branch.is_branch ∙ at_branch.is_placement;
      sits = at_branch.is_placement;
      within = at_branch.passes;
      at_i = same_number at_branch.placement.domain i (both (is_interleave at_branch.placement.kind) (at_branch.placement.domain == i) at_branch.passes).1;
      waits = waits_so;
    }

all_pass : (p : TaskId → Bool) (ts : List TaskId) → ((u : TaskId) → has_task ts u ≡ true → p u ≡ true) → list_all p ts ≡ true
all_pass p ts all = all_from p ts (λ u is. all u (has_among ts u is))

nobody : (ts : List TaskId) → ((u : TaskId) → has_task ts u ≡ true → ⊥) → is_none_of ts ≡ true
nobody ts none = ap is_none_of (no_members ts none)

empty_out : (tasks : TaskSet) (t : TaskId) → (set.len tasks == 0) ≡ true → set.contains tasks t ≡ true → ⊥
empty_out tasks t none is = let some = len-there tasks t is in let zero_so : set.len tasks ≡ 0 = grind (arith, nat_tests, none) in absurd (omega (arith, some, zero_so))

-- where the object admits it, the rules do
pub admit_allowed : (w : Parts) (h : List Event) (i : ℕ) (place : InterleaveState) (found : Oldest w h i place) → DomainMatches w h i place → interleaves.may_admit place found.first.spot ≡ true → IsAllowed w h (events.Admit found.first.task)
admit_allowed w h i place found match may =
    refused_pass (is_oldest_waiting w h found.first.task) _ _ first_so (refused_pass (may_admit w h found.first.task) _ None may_so refl)
  where
    first_so : is_oldest_waiting w h found.first.task ≡ true
    first_so = rw (found.placed, found.at_i, found.waits) (same_task-self found.first.task)

    group : interleaves.is_concurrent (group_at place found.first.spot) ≡ is_concurrent found.s.branch.group
    group = ap (λ r. interleaves.is_concurrent (group_at place r)) found.branch ∙ ap interleaves.is_concurrent (group_so w h i found.number place found.s found.sits found.within match) ∙ same_concurrent found.s.branch.group

    parts : ((set.len place.alone == 0) ≡ true) × (interleaves.is_concurrent (group_at place found.first.spot) || (set.len place.shared == 0) ≡ true)
    parts = both (set.len place.alone == 0) _ may

    -- none stands alone
    shared_all : (u : TaskId) (c : Bool) → is_concurrent_task w h u ≡ c → IsKeptRoot c place u → (c ≡ true) × (set.contains place.shared u ≡ true)
    shared_all u true e kept = (refl, kept)
    shared_all u false e kept = absurd (empty_out place.alone u parts.0 kept)

    each : (u : TaskId) → has_task (admitted w h i) u ≡ true → (is_concurrent_task w h u ≡ true) × (set.contains place.shared u ≡ true)
    each u is = shared_all u (is_concurrent_task w h u) refl (match.roots_so u is)

    by : (c : Bool) → c || (set.len place.shared == 0) ≡ true → (if c then list_all (is_concurrent_task w h) (admitted w h i) else is_none_of (admitted w h i)) ≡ true
    by true is = all_pass (is_concurrent_task w h) (admitted w h i) (λ u there. (each u there).0)
    by false is = nobody (admitted w h i) (λ u there. empty_out place.shared u is (each u there).1)

    may_so : may_admit w h found.first.task ≡ true
    may_so = rw (found.placed, found.at_i) (by (is_concurrent found.s.branch.group) (subst (λ c. c || (set.len place.shared == 0) ≡ true) group parts.1))

-- ---- all domains, along the entries

abbrev pub DomainsMatch : Parts → List Event → List Entry → Type 0
DomainsMatch w h es = (i : ℕ) → is_interleave_number w i ≡ true → DomainMatches w h i (domain_at w es i)

pub domain_at-push : (w : Parts) (es : List Entry) (e : Entry) (i : ℕ) → domain_at w (es ++ e ∷ []) i ≡ (if same_place e.place (places.Arbiter i) then interleaves.after (domain_at w es i) e.note else domain_at w es i)
domain_at-push w es e i = grind (arith, common_steps)

abbrev pub is_arbiter_place : Place → Bool
is_arbiter_place (places.Arbiter i) = true
is_arbiter_place _ = false

-- an entry at another place
pub DomainsMatch-elsewhere : (w : Parts) (h : List Event) (es : List Entry) (e : Entry) (place : Place) → e.place ≡ place → is_arbiter_place place ≡ false → DomainsMatch w h es → DomainsMatch w h (es ++ e ∷ [])
DomainsMatch-elsewhere w h es e place there other match i is = subst (DomainMatches w h i) (sym (domain_at-push w es e i ∙ rw (there, elsewhere place other) refl)) (match i is)
  where
    elsewhere : (p : Place) → is_arbiter_place p ≡ false → same_place p (places.Arbiter i) ≡ false
    elsewhere (places.Port p) out = refl
    elsewhere (places.Arbiter j) out = absurd (cc)
    elsewhere (places.Site b k) out = refl
    elsewhere (places.Queue k) out = refl
    elsewhere places.Meter out = refl

pub DomainsMatch-event : (w : Parts) (h : List Event) (ev : Event) (es : List Entry) → IsLegal w h → firing_of ev ≡ [] → admitted_by ev ≡ [] → DomainsMatch w h es → DomainsMatch w (h ++ ev ∷ []) es
DomainsMatch-event w h ev es legal fires admits match i is = DomainMatches-event w h ev i (domain_at w es i) legal fires admits (match i is)

-- an entry at a domain: what holds there after its note, and elsewhere
pub DomainsMatch-at : (w : Parts) (h : List Event) (es : List Entry) (e : Entry) (j : ℕ) (note : Note) → e.place ≡ places.Arbiter j → e.note ≡ note → (is_interleave_number w j ≡ true → DomainMatches w h j (interleaves.after (domain_at w es j) note)) → ((i : ℕ) → (j == i) ≡ false → is_interleave_number w i ≡ true → DomainMatches w h i (domain_at w es i)) → DomainsMatch w h (es ++ e ∷ [])
DomainsMatch-at w h es e j note there noted here others i is = subst (DomainMatches w h i) (sym (domain_at-push w es e i ∙ rw (there, noted) refl)) (by (j == i) refl)
  where
    by : (b : Bool) → (j == i) ≡ b → DomainMatches w h i (if b then interleaves.after (domain_at w es i) note else domain_at w es i)
    by true same = subst (λ k. DomainMatches w h k (interleaves.after (domain_at w es k) note)) (same_number j i same) (here (subst (λ k. is_interleave_number w k ≡ true) (sym (same_number j i same)) is))
    by false other = others i other is

-- a root is noted over that is over
pub DomainsMatch-over : (w : Parts) (h : List Event) (es : List Entry) (e : Entry) (j : ℕ) (t r : TaskId) (how : How) → e.place ≡ places.Arbiter j → e.note ≡ notes.Over t r how → is_over h r ≡ true → DomainsMatch w h es → DomainsMatch w h (es ++ e ∷ [])
DomainsMatch-over w h es e j t r how there noted over match = DomainsMatch-at w h es e j (notes.Over t r how) there noted (λ is. DomainMatches-over w h j (domain_at w es j) r over (match j is)) (λ i other is. match i is)

-- a note that says nothing
pub DomainsMatch-still : (w : Parts) (h : List Event) (es : List Entry) (e : Entry) (j : ℕ) (note : Note) → e.place ≡ places.Arbiter j → e.note ≡ note → interleaves.after (domain_at w es j) note ≡ domain_at w es j → DomainsMatch w h es → DomainsMatch w h (es ++ e ∷ [])
DomainsMatch-still w h es e j note there noted still match = DomainsMatch-at w h es e j note there noted (λ is. subst (DomainMatches w h j) (sym still) (match j is)) (λ i other is. match i is)

-- a firing at a site
pub DomainsMatch-resume : (w : Parts) (h : List Event) (es : List Entry) (e : Entry) (t : TaskId) (b k : ℕ) (ms : List MsgId) → IsLegal w h → IsAllowed w h (events.Fire t (Site b k) ms []) → e.place ≡ places.Site b k → DomainsMatch w h es → DomainsMatch w (h ++ events.Fire t (Site b k) ms [] ∷ []) (es ++ e ∷ [])
DomainsMatch-resume w h es e t b k ms legal allowed there match = DomainsMatch-elsewhere w (h ++ events.Fire t (Site b k) ms [] ∷ []) es e (places.Site b k) there refl (λ i is. DomainMatches-fire-else w h t (Site b k) ms [] i (domain_at w es i) legal allowed refl refl (none_gone (waiting w h i)) (match i is))

-- where the branch is of another number
other_branch : (w : Parts) (b i j : ℕ) (s : Placement) → placement w b ≡ Some s → s.domain ≡ j → (j == i) ≡ false → (is_branch_where w (is_placement_in i) (Branch b) ≡ false) × (is_branch_where w (tears i) (Branch b) ≡ false)
other_branch w b i j s sits at_j other = (rw (sits, at_j, other) (and_false (is_interleave s.kind)), rw (sits, at_j, other) refl)

-- a firing at a receiver or a choice
pub DomainsMatch-branch : (w : Parts) (h : List Event) (es : List Entry) (e : Entry) (t : TaskId) (b j : ℕ) (s : Placement) (ms : List MsgId) → IsLegal w h → IsAllowed w h (events.Fire t (Branch b) ms []) → placement w b ≡ Some s → s.domain ≡ j → is_interleave_number w j ≡ false → e.place ≡ places.Arbiter j → e.note ≡ notes.Fired t (Branch b) ms [] → DomainsMatch w h es → DomainsMatch w (h ++ events.Fire t (Branch b) ms [] ∷ []) (es ++ e ∷ [])
DomainsMatch-branch w h es e t b j s ms legal allowed sits at_j plain there noted match = DomainsMatch-at w (h ++ events.Fire t (Branch b) ms [] ∷ []) es e j (notes.Fired t (Branch b) ms []) there noted (λ is. absurd (no_both is plain)) (λ i other is. (let out = other_branch w b i j s sits at_j other in DomainMatches-fire-else w h t (Branch b) ms [] i (domain_at w es i) legal allowed out.0 out.1 (none_gone (waiting w h i)) (match i is)))

-- a firing at a branch of an Interleave
pub DomainsMatch-fire : (w : Parts) (h : List Event) (es : List Entry) (e : Entry) (t : TaskId) (b j : ℕ) (s : Placement) (ms : List MsgId) → IsLegal w h → IsAllowed w h (events.Fire t (Branch b) ms (interleaves.cut_note (domain_at w es j) (Branch b))) → placement w b ≡ Some s → is_placement_in j s ≡ true → is_interleave_number w j ≡ true → e.place ≡ places.Arbiter j → e.note ≡ notes.Fired t (Branch b) ms (interleaves.cut_note (domain_at w es j) (Branch b)) → DomainsMatch w h es → DomainsMatch w (h ++ events.Fire t (Branch b) ms (interleaves.cut_note (domain_at w es j) (Branch b)) ∷ []) (es ++ e ∷ [])
DomainsMatch-fire w h es e t b j s ms legal allowed sits within number there noted match = DomainsMatch-at w (h ++ events.Fire t (Branch b) ms cs ∷ []) es e j (notes.Fired t (Branch b) ms cs) there noted
    (λ is. DomainMatches-fire w h t b ms j s (domain_at w es j) legal allowed sits within (match j number))
    (λ i other is. (let out = other_branch w b i j s sits at_j other in DomainMatches-fire-else w h t (Branch b) ms cs i (domain_at w es i) legal allowed out.0 out.1 (stay i other) (match i is)))
  where
    cs : List TaskId
    cs = interleaves.cut_note (domain_at w es j) (Branch b)

    at_j : s.domain ≡ j
    at_j = same_number s.domain j (both (is_interleave s.kind) (s.domain == j) within).1

    stay : (i : ℕ) → (j == i) ≡ false → without (waiting w h i) cs ≡ waiting w h i
    stay i other = by (interleaves.is_teardown (group_at (domain_at w es j) (Branch b)))
      where
        by : (c : Bool) → without (waiting w h i) (if c then map waiting_task (domain_at w es j).waiting else []) ≡ waiting w h i
        by true = ap (without (waiting w h i)) (match j number).waiting_so ∙ waiting_apart w h j i legal other
        by false = none_gone (waiting w h i)

-- before all entries
pub DomainMatches-begins : (w : Parts) (i : ℕ) → DomainMatches w [] i (domain_at w [] i)
DomainMatches-begins w i = record { branches_so = refl; groups_so = refl; waiting_so = refl; spots_so = λ x is. absurd is; roots_so = λ t is. absurd (cc); torn_so = λ none. refl }

-- ---- an admission

-- the roots that are left after it were left before, or are its own
roots_admitted : (w : Parts) (h : List Event) (t : TaskId) (i : ℕ) (place place' : InterleaveState) → IsLegal w h → IsFired h t → ((u : TaskId) (c : Bool) → IsKeptRoot c place u → IsKeptRoot c place' u) → (is_of_domain w h i t ≡ true → IsKeptRoot (is_concurrent_task w h t) place' t) → DomainMatches w h i place → (u : TaskId) → has_task (admitted w (h ++ events.Admit t ∷ []) i) u ≡ true → IsKeptRoot (is_concurrent_task w (h ++ events.Admit t ∷ []) u) place' u
roots_admitted w h t i place place' legal fires grows new match u is =
    let now = AdmittedFacts-admitted w (h ++ events.Admit t ∷ []) i u is in
    of_more (ever_admitted h) (t ∷ []) u _ (subst (λ ts. has_task ts u ≡ true) (ever_admitted-push h (events.Admit t)) now.entered)
    (λ old. grows u (is_concurrent_task w (h ++ events.Admit t ∷ []) u) (subst (λ b. IsKeptRoot b place u) (sym (concurrent_stays w h (events.Admit t) u legal old)) (match.roots_so u (admitted_before w h (events.Admit t) i u legal old is))))
    (λ one. (let same : u ≡ t = of_one t u one in subst (λ v. IsKeptRoot (is_concurrent_task w (h ++ events.Admit t ∷ []) v) place' v) (sym same) (subst (λ b. IsKeptRoot b place' t) (sym stays) (new (within_before (subst (λ v. is_of_domain w (h ++ events.Admit t ∷ []) i v ≡ true) same now.within))))))
  where
    placed : placement_of w (h ++ events.Admit t ∷ []) t ≡ placement_of w h t
    placed = placement_stays w h (events.Admit t ∷ []) t fires

    stays : is_concurrent_task w (h ++ events.Admit t ∷ []) t ≡ is_concurrent_task w h t
    stays = ap (λ o. option_map_or (λ (s : Placement). is_concurrent s.branch.group) o false) placed

    within_before : is_of_domain w (h ++ events.Admit t ∷ []) i t ≡ true → is_of_domain w h i t ≡ true
    within_before is' = ap (λ o. option_map_or (λ (s : Placement). s.domain == i) o false) (sym placed) ∙ is'

-- of another domain
admit_else : (w : Parts) (h : List Event) (t : TaskId) (i j : ℕ) (place : InterleaveState) (s : Placement) → IsLegal w h → has_task (waiting w h j) t ≡ true → placement_of w h t ≡ Some s → s.domain ≡ j → IsFired h t → (j == i) ≡ false → DomainMatches w h i place → DomainMatches w (h ++ events.Admit t ∷ []) i place
admit_else w h t i j place s legal waits placed at_j fires other match = record {
  branches_so = match.branches_so;
  groups_so = match.groups_so;
  waiting_so = match.waiting_so ∙ sym (waiting-admit w h t i ∙ without_other (waiting w h i) t (refuted (has_task (waiting w h i) t) (λ is. differ (waits_in_one w h j i t legal waits is))));
  spots_so = λ x is. spot_stays h (events.Admit t ∷ []) x.task x.spot (match.spots_so x is);
  roots_so = roots_admitted w h t i place place legal fires (λ u c kept. kept) (λ is. absurd (let there : (j == i) ≡ true = rw (placed, at_j) at is in cc)) match;
  torn_so = λ none. fired_by-same w (tears i) h (events.Admit t) refl ∙ match.torn_so none;
}
  where
    differ : j ≡ i → ⊥
    differ same = let self : (j == i) ≡ true = subst (λ k. (j == k) ≡ true) same (eq-self j) in absurd (cc)

-- of this one
admit_here : (w : Parts) (h : List Event) (i : ℕ) (place : InterleaveState) (found : Oldest w h i place) → IsLegal w h → DomainMatches w h i place → DomainMatches w (h ++ events.Admit found.first.task ∷ []) i (record (interleaves.with_root place found.first) { waiting = found.others })
admit_here w h i place found legal match = record {
  branches_so = match.branches_so;
  groups_so = match.groups_so;
  waiting_so = sym (waiting-admit w h t i ∙ ap (λ ts. without ts (t ∷ [])) found.waits ∙ without_first (map waiting_task found.others) t (ap are_distinct_tasks (sym found.waits) ∙ waiting_once w h i legal));
  spots_so = λ x is. spot_stays h (events.Admit t ∷ []) x.task x.spot (match.spots_so x (rw found.list (inr is)));
  roots_so = roots_admitted w h t i place place' legal (found.facts.firing, found.facts.is_firing) grows (λ is. new (is_concurrent found.s.branch.group) group concurrent) match;
  torn_so = λ none. fired_by-same w (tears i) h (events.Admit t) refl ∙ match.torn_so none;
}
  where
    t : TaskId
    t = found.first.task

    place' : InterleaveState
    place' = record (interleaves.with_root place found.first) { waiting = found.others }

    group : interleaves.is_concurrent (group_at place found.first.spot) ≡ is_concurrent found.s.branch.group
    group = ap (λ r. interleaves.is_concurrent (group_at place r)) found.branch ∙ ap interleaves.is_concurrent (group_so w h i found.number place found.s found.sits found.within match) ∙ same_concurrent found.s.branch.group

    concurrent : is_concurrent_task w h t ≡ is_concurrent found.s.branch.group
    concurrent = ap (λ o. option_map_or (λ (s : Placement). is_concurrent s.branch.group) o false) found.placed

    more : (u : TaskId) (tasks : TaskSet) → set.contains tasks u ≡ true → set.contains (set.insert tasks t) u ≡ true
    more u tasks is = in-more tasks t u ∙ later (same_task u t) is
      where
        later : (a : Bool) → set.contains tasks u ≡ true → a || set.contains tasks u ≡ true
        later true now = refl
        later false now = now

    grows : (u : TaskId) (c : Bool) → IsKeptRoot c place u → IsKeptRoot c place' u
    grows u true is = by (interleaves.is_concurrent (group_at place found.first.spot))
      where
        by : (d : Bool) → set.contains (if d then set.insert place.shared t else place.shared) u ≡ true
        by true = more u place.shared is
        by false = is
    grows u false is = by (interleaves.is_concurrent (group_at place found.first.spot))
      where
        by : (d : Bool) → set.contains (if d then place.alone else set.insert place.alone t) u ≡ true
        by true = is
        by false = more u place.alone is

    own : (tasks : TaskSet) → set.contains (set.insert tasks t) t ≡ true
    own tasks = in-more tasks t t ∙ ap (λ b. b || set.contains tasks t) (same_task-self t)

    new : (c : Bool) → interleaves.is_concurrent (group_at place found.first.spot) ≡ c → is_concurrent_task w h t ≡ c → IsKeptRoot (is_concurrent_task w h t) place' t
    new true at_place is = subst (λ b. IsKeptRoot b place' t) (sym is) (rw at_place (own place.shared))
    new false at_place is = subst (λ b. IsKeptRoot b place' t) (sym is) (rw at_place (own place.alone))

after_first : (place : InterleaveState) (x : Waiting) (others : List Waiting) → place.waiting ≡ x ∷ others → interleaves.after_admission place ≡ record (interleaves.with_root place x) { waiting = others }
after_first place x others list = rw list refl

pub DomainsMatch-admit : (w : Parts) (h : List Event) (es : List Entry) (e : Entry) (j : ℕ) (found : Oldest w h j (domain_at w es j)) → IsLegal w h → is_interleave_number w j ≡ true → e.place ≡ places.Arbiter j → e.note ≡ notes.Admit (Some found.first.task) → DomainsMatch w h es → DomainsMatch w (h ++ events.Admit found.first.task ∷ []) (es ++ e ∷ [])
DomainsMatch-admit w h es e j found legal number there noted match = DomainsMatch-at w (h ++ events.Admit t ∷ []) es e j (notes.Admit (Some t)) there noted
    (λ is. subst (DomainMatches w (h ++ events.Admit t ∷ []) j) (sym after) (admit_here w h j (domain_at w es j) found legal (match j number)))
    (λ i other is. admit_else w h t i j (domain_at w es i) found.s legal (has_oldest (waiting w h j) (map waiting_task found.others) t found.waits) found.placed found.at_i (found.facts.firing, found.facts.is_firing) other (match i is))
  where
    t : TaskId
    t = found.first.task

    after : interleaves.after_admission (domain_at w es j) ≡ record (interleaves.with_root (domain_at w es j) found.first) { waiting = found.others }
    after = after_first (domain_at w es j) found.first found.others found.list
