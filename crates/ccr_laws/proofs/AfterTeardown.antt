-- After a task of a teardown branch has started, no task of another root of its Interleave starts.
use Rattle.std.proofs.Common.{◌≡◌, ℕ, Bool, true, false, List, [], ◌∷◌, ◌++◌, map, Some, ◌⊎◌, inl, inr, refl, sym, ap, ◌∙◌, subst, append-nil, append_assoc}
use Rattle.std.specs.Prelude.{◌==◌, if◌then◌else◌}
use Rattle.std.specs.Option.{option_map_or}
use Rattle.ccr_base.specs.declared.names.TaskId.{TaskId}
use Rattle.ccr_base.specs.declared.names.MsgId.{MsgId}
use Rattle.ccr_base.specs.declared.names.Spot.{Spot}
use Rattle.ccr_base.specs.declared.policies.Group.{Group}
use Rattle.ccr_base.specs.declared.policies.Group.TheVariants as groups
use Rattle.ccr_base.specs.Names.{has_task}
use Rattle.ccr_wiring.specs.declared.parts.Parts.{Parts}
use Rattle.ccr_wiring.specs.Valid.{HasGroups}
use Rattle.ccr_wiring.specs.Wirings.{Placement, placement, branch_of}
use Rattle.ccr_model.specs.declared.history.Event.{Event}
use Rattle.ccr_model.specs.declared.history.Event.TheVariants.{Post, Fire, Admit, Put, Start, End}
use Rattle.ccr_model.specs.Firings.{Firing, firing_of, firing_named, fired, cut, ever_admitted, admitted_by, started, started_by}
use Rattle.ccr_model.specs.Sites.{root_of}
use Rattle.ccr_model.specs.TaskData.{placement_of}
use Rattle.ccr_model.specs.Tasks.{is_interleave, is_teardown, is_concurrent, is_branch_where, fired_by, waiting, is_of_domain, is_over, admitted, queued}
use Rattle.ccr_model.specs.Rules.{cuts_at}
use Rattle.ccr_model.specs.Legal.{IsAllowed, IsLegal}
use Rattle.ccr_model.proofs.Stable.{firing_named-append}
use Rattle.ccr_model.proofs.OneMoreEvent.{started-push, ever_admitted-push, cut-push}
use Rattle.ccr_model.proofs.LegalParts.{along_legal, onward, Parted-legal}
use Rattle.ccr_base.proofs.Options.{some_of}
use Rattle.ccr_model.proofs.TasksLeft.{out_left}
use Rattle.ccr_base.proofs.Booleans.{both, and_not, refuted, no_both, same_number}
use Rattle.ccr_model.proofs.FiredTasks.{IsFired, IsFired-append, placement_fired, placement_stays, root_stays}
use Rattle.ccr_model.proofs.ExclusiveRootsAreAlone.{over_stays, lasts_fired, ever_admitted_fired}
use Rattle.ccr_model.specs.Interleaves.{is_placement_in, is_teardown_in, is_exclusive_in, tears_down, is_of_interleave, is_of_teardown, is_of_exclusive}
use Rattle.ccr_model.proofs.TaskLists.{has_oldest, of_more, of_one, out_right}
use Rattle.ccr_model.proofs.WhoWasPut.{ArePlaced-legal, StartFacts-allowed, placement_by}
use Rattle.ccr_model.proofs.AllowedFirings.{FiresSo, FiresSo-allowed, BranchFacts, BranchFacts-where, waits_parts, waits_whole}
use Rattle.ccr_model.proofs.Cutting.{fired_by-append, dead, AdmitFacts-allowed}
use Rattle.ccr_model.proofs.Roots.{of_firing, other_firing, AreRooted-legal, queued_works, at_work_admitted, placement_of_root, AdmittedFacts-admitted, admitted_whole}
use Rattle.ccr_laws.proofs.Exclusion.{alone}

-- who waits after one more event waited before it, or fired by it; the event didn't cut him
waits_before : (w : Parts) (h : List Event) (e : Event) (i : ℕ) (t : TaskId) → has_task (waiting w (h ++ e ∷ []) i) t ≡ true → ((has_task (waiting w h i) t ≡ true) ⊎ (has_task (fired_by w (is_placement_in i) (e ∷ [])) t ≡ true)) × (has_task (cut (e ∷ [])) t ≡ false)
waits_before w h e i t is =
    let parts = waits_parts w (h ++ e ∷ []) i t is in
    let uncut : has_task (cut h ++ cut (e ∷ [])) t ≡ false = rw (cut-push h e) at parts.2 in
    let outside : has_task (ever_admitted h ++ admitted_by e) t ≡ false = rw (ever_admitted-push h e) at parts.1 in
    let there : has_task (fired_by w (is_placement_in i) h ++ fired_by w (is_placement_in i) (e ∷ [])) t ≡ true = rw (fired_by-append w (is_placement_in i) h (e ∷ [])) at parts.0 in (
      of_more (fired_by w (is_placement_in i) h) (fired_by w (is_placement_in i) (e ∷ [])) t ((has_task (waiting w h i) t ≡ true) ⊎ (has_task (fired_by w (is_placement_in i) (e ∷ [])) t ≡ true)) there
          (λ old. inl (waits_whole w h i t old (out_left (ever_admitted h) (admitted_by e) t outside) (out_left (cut h) (cut (e ∷ [])) t uncut))) (λ new. inr new),
      out_right (cut h) (cut (e ∷ [])) t uncut,
    )

-- once a teardown fired, nobody else of its Interleave waits
abbrev IsTornDown : Parts → ℕ → List Event → Type 0
IsTornDown w i h = (t : TaskId) (f : Firing) → firing_named h t ≡ Some f → tears_down w i f.spot ≡ true → (u : TaskId) → has_task (waiting w h i) u ≡ true → u ≡ t

fires_one : (w : Parts) (i : ℕ) (x : TaskId) (s : Spot) (ms : List MsgId) (cs : List TaskId) (u : TaskId) → has_task (fired_by w (is_placement_in i) (Fire x s ms cs ∷ [])) u ≡ true → (is_branch_where w (is_placement_in i) s ≡ true) × (u ≡ x)
fires_one w i x s ms cs u is = of_test (is_branch_where w (is_placement_in i) s) refl is
  where
    of_test : (b : Bool) → is_branch_where w (is_placement_in i) s ≡ b → has_task (map (λ (f : Firing). f.task) (if b then record { task = x; spot = s; messages = ms; cuts = cs } ∷ [] else [])) u ≡ true → (is_branch_where w (is_placement_in i) s ≡ true) × (u ≡ x)
    of_test true e at = (e, of_one x u at)
    of_test false e at = absurd (cc)

-- a teardown cuts all that wait
cuts_all : (w : Parts) (h : List Event) (i : ℕ) (s : Spot) → tears_down w i s ≡ true → cuts_at w h s ≡ waiting w h i
cuts_all w h i s tears =
    let facts = BranchFacts-where w (is_teardown_in i) s tears in
    let parts = both (is_placement_in i facts.placement) (is_teardown facts.placement.branch.group) facts.passes in
    let number = same_number facts.placement.domain i (both (is_interleave facts.placement.kind) (facts.placement.domain == i) parts.0).1 in
    at_branch facts parts.1 ∙ ap (λ n. waiting w h n) number
  where
    at_branch : (facts : BranchFacts w (is_teardown_in i) s) → is_teardown facts.placement.branch.group ≡ true → cuts_at w h s ≡ waiting w h facts.placement.domain
    at_branch facts group = rw (facts.is_branch, facts.is_placement, group) refl

torn_fire : (w : Parts) → HasGroups w → (i : ℕ) (h : List Event) (x : TaskId) (s : Spot) (ms : List MsgId) (cs : List TaskId) → IsAllowed w h (Fire x s ms cs) → IsTornDown w i h → IsTornDown w i (h ++ Fire x s ms cs ∷ [])
torn_fire w groups_fit i h x s ms cs allowed known t f is tears u waits =
    let so = FiresSo-allowed w h x s ms cs allowed in
    let before = waits_before w h (Fire x s ms cs) i u waits in
    of_cases so before.0 before.1 (of_firing h x s ms cs t f so.new_name is)
  where
    of_cases : FiresSo w h x s ms cs → (has_task (waiting w h i) u ≡ true) ⊎ (has_task (fired_by w (is_placement_in i) (Fire x s ms cs ∷ [])) u ≡ true) → has_task (cut (Fire x s ms cs ∷ [])) u ≡ false → (firing_named h t ≡ Some f) ⊎ ((t ≡ x) × (f ≡ record { task = x; spot = s; messages = ms; cuts = cs })) → u ≡ t
    of_cases so (inl was) uncut (inl old) = known t f old tears u was
    of_cases so (inr now) uncut (inl old) = absurd (dead w groups_fit i h t f s old tears so.live (fires_one w i x s ms cs u now).0)
    of_cases so (inr now) uncut (inr new) = (fires_one w i x s ms cs u now).1 ∙ sym new.0
    of_cases so (inl was) uncut (inr new) =
        let tears_here : tears_down w i s ≡ true = subst (λ (g : Firing). tears_down w i g.spot ≡ true) new.1 tears in
        let cuts_him : has_task cs u ≡ true = subst (λ ts. has_task ts u ≡ true) (sym (so.cuts ∙ cuts_all w h i s tears_here)) was in
        let never : has_task cs u ≡ false = subst (λ ts. has_task ts u ≡ false) (append-nil cs) uncut in
        absurd (cc)

torn_other : (w : Parts) (i : ℕ) (h : List Event) (e : Event) → firing_of e ≡ [] → fired_by w (is_placement_in i) (e ∷ []) ≡ [] → IsTornDown w i h → IsTornDown w i (h ++ e ∷ [])
torn_other w i h e none no_fire known t f is tears u waits = of_case (waits_before w h e i u waits).0
  where
    of_case : (has_task (waiting w h i) u ≡ true) ⊎ (has_task (fired_by w (is_placement_in i) (e ∷ [])) u ≡ true) → u ≡ t
    of_case (inl was) = known t f (other_firing h e t f none is) tears u was
    of_case (inr now) = let never : has_task [] u ≡ true = subst (λ ts. has_task ts u ≡ true) no_fire now in absurd (cc)

IsTornDown_kept : (w : Parts) → HasGroups w → (i : ℕ) (h : List Event) (e : Event) → IsLegal w h → IsAllowed w h e → IsTornDown w i h → IsTornDown w i (h ++ e ∷ [])
IsTornDown_kept w groups_fit i h (Fire x s ms cs) legal allowed known = torn_fire w groups_fit i h x s ms cs allowed known
IsTornDown_kept w groups_fit i h (Post m) legal allowed known = torn_other w i h (Post m) refl refl known
IsTornDown_kept w groups_fit i h (Admit x) legal allowed known = torn_other w i h (Admit x) refl refl known
IsTornDown_kept w groups_fit i h (Put x d) legal allowed known = torn_other w i h (Put x d) refl refl known
IsTornDown_kept w groups_fit i h (Start x a) legal allowed known = torn_other w i h (Start x a) refl refl known
IsTornDown_kept w groups_fit i h (End x how) legal allowed known = torn_other w i h (End x how) refl refl known

IsTornDown-legal : (w : Parts) → HasGroups w → (i : ℕ) (h : List Event) → IsLegal w h → IsTornDown w i h
IsTornDown-legal w groups_fit i h legal = along_legal w (IsTornDown w i) (IsTornDown_kept w groups_fit i) (λ t f is tears u waits. absurd (cc)) h legal

not_over_before : (w : Parts) (h : List Event) (e : Event) (t : TaskId) → IsLegal w h → is_over (h ++ e ∷ []) t ≡ false → is_over h t ≡ false
not_over_before w h e t legal is = refuted (is_over h t) (λ over. no_both (over_stays h e t (lasts_fired w h legal) over) is)

-- who is admitted after one more event was so before it, or enters by it
admitted_before : (w : Parts) (h : List Event) (e : Event) (i : ℕ) (t : TaskId) → IsLegal w h → IsAllowed w h e → has_task (admitted w (h ++ e ∷ []) i) t ≡ true → (has_task (admitted w h i) t ≡ true) ⊎ ((has_task (admitted_by e) t ≡ true) × (is_of_domain w (h ++ e ∷ []) i t ≡ true))
admitted_before w h e i t legal allowed is =
    let facts = AdmittedFacts-admitted w (h ++ e ∷ []) i t is in
    of_more (ever_admitted h) (admitted_by e) t ((has_task (admitted w h i) t ≡ true) ⊎ ((has_task (admitted_by e) t ≡ true) × (is_of_domain w (h ++ e ∷ []) i t ≡ true))) (subst (λ ts. has_task ts t ≡ true) (ever_admitted-push h e) facts.entered)
    (λ old. inl (admitted_whole w h i t old (sym (ap (λ o. option_map_or (λ (s : Placement). s.domain == i) o false) (placement_stays w h (e ∷ []) t (ever_admitted_fired w h legal t old))) ∙ facts.within) (not_over_before w h e t legal facts.lasts)))
    (λ new. inr (new, facts.within))

-- a teardown branch isn't concurrent
torn_exclusive : (w : Parts) (h : List Event) (i : ℕ) (t : TaskId) → is_of_teardown w h i t ≡ true → is_of_exclusive w h i t ≡ true
torn_exclusive w h i t is =
    let found = some_of (is_teardown_in i) (placement_of w h t) is in
    let parts = both (is_placement_in i found.0) (is_teardown found.0.branch.group) found.2 in
    ap (λ o. option_map_or (is_exclusive_in i) o false) found.1 ∙ and_not (is_placement_in i found.0) (is_concurrent found.0.branch.group) parts.0 (of_group found.0.branch.group parts.1)
  where
    of_group : (g : Group) → is_teardown g ≡ true → is_concurrent g ≡ false
    of_group groups.Teardown e = refl
    of_group groups.Once e = refl
    of_group groups.Always e = refl
    of_group groups.Choice e = refl
    of_group groups.Exclusive e = refl
    of_group groups.Concurrent e = absurd (cc)

torn_within : (w : Parts) (h : List Event) (i : ℕ) (t : TaskId) → is_of_teardown w h i t ≡ true → is_of_interleave w h i t ≡ true
torn_within w h i t is =
    let found = some_of (is_teardown_in i) (placement_of w h t) is in
    let parts = both (is_placement_in i found.0) (is_teardown found.0.branch.group) found.2 in
    ap (λ o. option_map_or (is_placement_in i) o false) found.1 ∙ parts.0

-- the root of a teardown's task fired at the teardown branch
root_tears : (w : Parts) (h : List Event) → IsLegal w h → (i : ℕ) (t : TaskId) → IsFired h t → is_of_teardown w h i t ≡ true → (f : Firing) × (firing_named h (root_of h t) ≡ Some f) × (tears_down w i f.spot ≡ true)
root_tears w h legal i t fired is =
    let root = AreRooted-legal w h legal t fired.0 fired.1 in
    let placed : placement_of w h t ≡ placement w (branch_of fired.0.spot) = placement_by w h t fired.0 fired.1 in
    let passes : option_map_or (is_teardown_in i) (placement w (branch_of fired.0.spot)) false ≡ true = sym (ap (λ o. option_map_or (is_teardown_in i) o false) placed) ∙ is in
    (root.0, root.1, subst (λ s. tears_down w i s ≡ true) (sym root.2) passes)

-- of the events that follow a history: none but the root is admitted, and who starts has it as root
record FollowFacts (w : Parts) (i : ℕ) (r : TaskId) (past done : List Event) : Type 0 where
  none_else : (t : TaskId) → has_task (admitted w (past ++ done) i) t ≡ true → t ≡ r
  all_own : (t : TaskId) → has_task (started done) t ≡ true → IsFired (past ++ done) t × (is_of_interleave w (past ++ done) i t ≡ true → root_of (past ++ done) t ≡ r)

none_else_kept : (w : Parts) → HasGroups w → (i : ℕ) (r : TaskId) (f : Firing) (h : List Event) (e : Event) → IsLegal w h → IsAllowed w h e → firing_named h r ≡ Some f → tears_down w i f.spot ≡ true → ((t : TaskId) → has_task (admitted w h i) t ≡ true → t ≡ r) → (t : TaskId) → has_task (admitted w (h ++ e ∷ []) i) t ≡ true → t ≡ r
none_else_kept w groups_fit i r f h e legal allowed named tears known t is = of_case (admitted_before w h e i t legal allowed is)
  where
    by_event : (e : Event) → IsAllowed w h e → has_task (admitted_by e) t ≡ true → is_of_domain w (h ++ e ∷ []) i t ≡ true → t ≡ r
    by_event (Admit x) allowed' new within =
        let facts = AdmitFacts-allowed w h x allowed' in
        let one : t ≡ x = of_one x t new in
        let placed : placement_of w (h ++ Admit x ∷ []) x ≡ Some facts.placement = placement_stays w h (Admit x ∷ []) x (placement_fired w h x facts.placement facts.is_placement) ∙ facts.is_placement in
        let within_x : is_of_domain w (h ++ Admit x ∷ []) i x ≡ true = subst (λ y. is_of_domain w (h ++ Admit x ∷ []) i y ≡ true) one within in
        let there : (facts.placement.domain == i) ≡ true = sym (ap (λ o. option_map_or (λ (s : Placement). s.domain == i) o false) placed) ∙ within_x in
        let number = same_number facts.placement.domain i there in
        one ∙ IsTornDown-legal w groups_fit i h legal r f named tears x (subst (λ n. has_task (waiting w h n) x ≡ true) number facts.waits)
    by_event (Post m) allowed' new within = absurd (cc)
    by_event (Fire x s ms cs) allowed' new within = absurd (cc)
    by_event (Put x d) allowed' new within = absurd (cc)
    by_event (Start x a) allowed' new within = absurd (cc)
    by_event (End x how) allowed' new within = absurd (cc)

    of_case : (has_task (admitted w h i) t ≡ true) ⊎ ((has_task (admitted_by e) t ≡ true) × (is_of_domain w (h ++ e ∷ []) i t ≡ true)) → t ≡ r
    of_case (inl old) = known t old
    of_case (inr new) = by_event e allowed new.0 new.1

-- who starts was queued, so its root is admitted
starts_own : (w : Parts) (i : ℕ) (r : TaskId) (h : List Event) (t : TaskId) (a : ℕ) → IsLegal w h → IsAllowed w h (Start t a) → ((u : TaskId) → has_task (admitted w h i) u ≡ true → u ≡ r) → IsFired h t × (is_of_interleave w h i t ≡ true → root_of h t ≡ r)
starts_own w i r h t a legal allowed none_else =
    let facts = StartFacts-allowed w h t a allowed in
    let work = queued_works w h legal facts.placement.branch.queue t (has_oldest (queued w h facts.placement.branch.queue) facts.others t facts.is_oldest) in
    ((ArePlaced-legal w h legal).all_fired t work.put_so, λ within. none_else (root_of h t) (at_work_admitted w h legal i t within work))

own_stays : (w : Parts) (i : ℕ) (r : TaskId) (h es : List Event) (t : TaskId) → IsFired h t × (is_of_interleave w h i t ≡ true → root_of h t ≡ r) → IsFired (h ++ es) t × (is_of_interleave w (h ++ es) i t ≡ true → root_of (h ++ es) t ≡ r)
own_stays w i r h es t known = (IsFired-append h es t known.0, λ within. root_stays h es t known.0 ∙ known.1 (sym (ap (λ o. option_map_or (is_placement_in i) o false) (placement_stays w h es t known.0)) ∙ within))

own_kept : (w : Parts) (i : ℕ) (r : TaskId) (h done : List Event) (e : Event) → IsLegal w h → IsAllowed w h e → ((t : TaskId) → has_task (admitted w h i) t ≡ true → t ≡ r) → ((t : TaskId) → has_task (started done) t ≡ true → IsFired h t × (is_of_interleave w h i t ≡ true → root_of h t ≡ r)) → (t : TaskId) → has_task (started (done ++ e ∷ [])) t ≡ true → IsFired (h ++ e ∷ []) t × (is_of_interleave w (h ++ e ∷ []) i t ≡ true → root_of (h ++ e ∷ []) t ≡ r)
own_kept w i r h done e legal allowed none_else known t is =
    own_stays w i r h (e ∷ []) t (of_more (started done) (started_by e) t (IsFired h t × (is_of_interleave w h i t ≡ true → root_of h t ≡ r)) (subst (λ ts. has_task ts t ≡ true) (started-push done e) is) (known t) (by_event e allowed))
  where
    by_event : (e : Event) → IsAllowed w h e → has_task (started_by e) t ≡ true → IsFired h t × (is_of_interleave w h i t ≡ true → root_of h t ≡ r)
    by_event (Start x a) allowed' new = let one : x ≡ t = sym (of_one x t new) in subst (λ y. IsFired h y × (is_of_interleave w h i y ≡ true → root_of h y ≡ r)) one (starts_own w i r h x a legal allowed' none_else)
    by_event (Post m) allowed' new = absurd (cc)
    by_event (Fire x s ms cs) allowed' new = absurd (cc)
    by_event (Admit x) allowed' new = absurd (cc)
    by_event (Put x d) allowed' new = absurd (cc)
    by_event (End x how) allowed' new = absurd (cc)

follow_kept : (w : Parts) → HasGroups w → (i : ℕ) (r : TaskId) (f : Firing) (past : List Event) → firing_named past r ≡ Some f → tears_down w i f.spot ≡ true → (done : List Event) (e : Event) → IsLegal w (past ++ done) → IsAllowed w (past ++ done) e → FollowFacts w i r past done → FollowFacts w i r past (done ++ e ∷ [])
follow_kept w groups_fit i r f past named tears done e legal allowed known =
    let more : (past ++ done) ++ e ∷ [] ≡ past ++ (done ++ e ∷ []) = append_assoc past done (e ∷ []) in
    record {
      none_else = λ t. subst (λ g. has_task (admitted w g i) t ≡ true → t ≡ r) more (none_else_kept w groups_fit i r f (past ++ done) e legal allowed (firing_named-append past done r f named) tears known.none_else t);
      all_own = λ t is. subst (λ g. IsFired g t × (is_of_interleave w g i t ≡ true → root_of g t ≡ r)) more (own_kept w i r (past ++ done) done e legal allowed known.none_else known.all_own t is);
    }

-- a task of a teardown branch starts: then and later no other root is admitted
pub none_starts : (w : Parts) → HasGroups w → (i : ℕ) (before after : List Event) (t : TaskId) (a : ℕ) → IsLegal w (before ++ Start t a ∷ after) → is_of_teardown w (before ++ Start t a ∷ after) i t ≡ true → (u : TaskId) → is_of_interleave w (before ++ Start t a ∷ after) i u ≡ true → has_task (started after) u ≡ true → root_of (before ++ Start t a ∷ after) u ≡ root_of (before ++ Start t a ∷ after) t
none_starts w groups_fit i before after t a legal torn u within starts =
    let parts = Parted-legal w before (Start t a) after legal in
    let facts = StartFacts-allowed w before t a parts.allowed in
    let work = queued_works w before parts.legal_before facts.placement.branch.queue t (has_oldest (queued w before facts.placement.branch.queue) facts.others t facts.is_oldest) in
    let fired_so = (ArePlaced-legal w before parts.legal_before).all_fired t work.put_so in
    let torn_then : is_of_teardown w before i t ≡ true = sym (ap (λ o. option_map_or (is_teardown_in i) o false) (placement_stays w before (Start t a ∷ after) t fired_so)) ∙ torn in
    let r = root_of before t in
    let root = root_tears w before parts.legal_before i t fired_so torn_then in
    let entered = at_work_admitted w before parts.legal_before i t (torn_within w before i t torn_then) work in
    let root_torn : is_of_teardown w before i r ≡ true = ap (λ o. option_map_or (is_teardown_in i) o false) (placement_of_root w before parts.legal_before t fired_so) ∙ torn_then in
    let only = alone w before parts.legal_before i r (torn_exclusive w before i r root_torn) entered in
    let past = before ++ Start t a ∷ [] in
    let none_before : (v : TaskId) → has_task (admitted w before i) v ≡ true → v ≡ r = λ v is. of_one r v (subst (λ ts. has_task ts v ≡ true) only is) in
    let none_then : (v : TaskId) → has_task (admitted w (past ++ []) i) v ≡ true → v ≡ r = λ v is. none_else_kept w groups_fit i r root.0 before (Start t a) parts.legal_before parts.allowed root.1 root.2 none_before v (subst (λ g. has_task (admitted w g i) v ≡ true) (append-nil past) is) in
    let named = firing_named-append before (Start t a ∷ []) r root.0 root.1 in
    let follows = onward w past (FollowFacts w i r past) (follow_kept w groups_fit i r root.0 past named root.2) (record { none_else = none_then; all_own = λ v is. absurd (cc) }) after parts.legal_then parts.legal_after in
    let whole : past ++ after ≡ before ++ Start t a ∷ after = append_assoc before (Start t a ∷ []) after in
    let own = (follows.all_own u starts).1 in
    (subst (λ g. is_of_interleave w g i u ≡ true → root_of g u ≡ r) whole own within) ∙ sym (root_stays before (Start t a ∷ after) t fired_so)
