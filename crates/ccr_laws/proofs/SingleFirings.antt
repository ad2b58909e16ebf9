-- A choice, a once receiver and the teardowns of a domain together fire at most once.
use Rattle.std.proofs.Common.{◌≡◌, ℕ, ◌+◌, ◌≤◌, Bool, true, false, ◌&&◌, List, [], ◌∷◌, ◌++◌, length, map, filter, Some, refl, sym, ap, ◌∙◌, arith, subst}
use Rattle.std.specs.Prelude.{◌==◌, if◌then◌else◌, IsSomeAnd}
use Rattle.std.specs.List.{slice_get}
use Rattle.std.specs.Option.{option_map_or}
use Rattle.std.proofs.lemmas.Bool.Decides.{nat_tests}
use Rattle.std.proofs.lemmas.List.{length-map}
use Rattle.ccr_base.specs.declared.names.MsgId.{MsgId}
use Rattle.ccr_base.specs.declared.names.TaskId.{TaskId}
use Rattle.ccr_base.specs.declared.names.Spot.{Spot}
use Rattle.ccr_base.specs.declared.names.Spot.TheVariants.{Branch}
use Rattle.ccr_base.specs.declared.policies.Group.{Group}
use Rattle.ccr_base.specs.declared.policies.Group.TheVariants as groups
use Rattle.ccr_wiring.specs.declared.parts.Parts.{Parts}
use Rattle.ccr_wiring.specs.declared.parts.ArbiterPart.{ArbiterPart}
use Rattle.ccr_wiring.specs.declared.parts.Kind.{Kind}
use Rattle.ccr_wiring.specs.declared.parts.Kind.TheVariants as kinds
use Rattle.ccr_base.specs.Names.{same_spot}
use Rattle.ccr_wiring.specs.Groups.{may_have}
use Rattle.ccr_wiring.specs.Wirings.{Placement, placement}
use Rattle.ccr_wiring.specs.Valid.{IsValid, HasDomains}
use Rattle.ccr_wiring.proofs.Soundness.{sound}
use Rattle.ccr_model.specs.declared.history.Event.{Event}
use Rattle.ccr_model.specs.declared.history.Event.TheVariants.{Post, Fire, Admit, Put, Start, End}
use Rattle.ccr_model.specs.Firings.{Firing, firings, firing_of, fired_where, fired_at}
use Rattle.ccr_model.specs.Tasks.{fired_by, is_branch_where, is_teardown}
use Rattle.ccr_model.specs.Live.{is_live, is_live_in, is_none_of}
use Rattle.ccr_model.specs.Legal.{IsAllowed, IsLegal}
use Rattle.ccr_model.proofs.PostNames.{along}
use Rattle.ccr_model.proofs.TakenOnce.{FireFacts-allowed}
use Rattle.ccr_model.proofs.OneMoreEvent.{firings-push}
use Rattle.ccr_base.proofs.Booleans.{both, same_number}
use Rattle.ccr_base.proofs.Filters.{count_push}
use Rattle.ccr_base.proofs.SameNames.{same_spot-is}
use Rattle.ccr_laws.specs.Times.{times_fired, times_any_fired, times_torn_down}
use Rattle.ccr_model.proofs.AllowedFirings.{BranchFacts-where, live_at, firings-other}

-- the tasks that fired at spots that pass the test
abbrev fired_on : (Spot → Bool) → List Event → List TaskId
fired_on test h = fired_where (λ (f : Firing). test f.spot) h

-- over plain lists: one more firing
one_more : (test : Spot → Bool) (fs : List Firing) (f : Firing) → length (map (λ (g : Firing). g.task) (filter (λ (g : Firing). test g.spot) (fs ++ f ∷ []))) ≡ length (map (λ (g : Firing). g.task) (filter (λ (g : Firing). test g.spot) fs)) + (if test f.spot then 1 else 0)
one_more test fs f =
    length-map (filter (λ (g : Firing). test g.spot) (fs ++ f ∷ [])) (λ (g : Firing). g.task)
    ∙ (count_push (λ (g : Firing). test g.spot) fs f
    ∙ ap (λ n. n + (if test f.spot then 1 else 0)) (sym (length-map (filter (λ (g : Firing). test g.spot) fs) (λ (g : Firing). g.task))))

same_firings : (test : Spot → Bool) (h : List Event) (e : Event) → firing_of e ≡ [] → length (fired_on test h) ≤ 1 → length (fired_on test (h ++ e ∷ [])) ≤ 1
same_firings test h e none few = rw (firings-other h e none) few

more_firings : (test : Spot → Bool) (h : List Event) (t : TaskId) (s : Spot) (ms : List MsgId) (cs : List TaskId) → (test s ≡ true → length (fired_on test h) ≡ 0) → length (fired_on test h) ≤ 1 → length (fired_on test (h ++ Fire t s ms cs ∷ [])) ≤ 1
more_firings test h t s ms cs first few =
    rw (firings-push h (Fire t s ms cs)) (by_test (test s) refl _ (one_more test (firings h) (record { task = t; spot = s; messages = ms; cuts = cs })))
  where
    by_test : (b : Bool) → test s ≡ b → (n : ℕ) → n ≡ length (fired_on test h) + (if test s then 1 else 0) → n ≤ 1
    by_test true e n long =
        let none = first e in
        let one : n ≡ length (fired_on test h) + 1 = rw e at long in
        omega (arith, one, none)
    by_test false e n long =
        let same : n ≡ length (fired_on test h) + 0 = rw e at long in
        omega (arith, same, few)

-- where such a spot is live only before the first of these firings, there is one at most
at_most_once : (w : Parts) (test : Spot → Bool) → ((h : List Event) (s : Spot) → is_live w h s ≡ true → test s ≡ true → length (fired_on test h) ≡ 0) → (h : List Event) → IsLegal w h → length (fired_on test h) ≤ 1
at_most_once w test first = along w (λ g. length (fired_on test g) ≤ 1) kept (omega arith)
  where
    kept : (h : List Event) (e : Event) → length (fired_on test h) ≤ 1 → IsAllowed w h e → length (fired_on test (h ++ e ∷ [])) ≤ 1
    kept h (Fire t s ms cs) few allowed = more_firings test h t s ms cs (first h s (FireFacts-allowed w h t s ms cs allowed).live) few
    kept h (Post m) few allowed = same_firings test h (Post m) refl few
    kept h (Admit t) few allowed = same_firings test h (Admit t) refl few
    kept h (Put t d) few allowed = same_firings test h (Put t d) refl few
    kept h (Start t a) few allowed = same_firings test h (Start t a) refl few
    kept h (End t how) few allowed = same_firings test h (End t how) refl few

none_there : (ts : List TaskId) → is_none_of ts ≡ true → length ts ≡ 0
none_there ts is = grind (arith, nat_tests, is)

-- a branch of an arbiter's domain has its kind
kind_of : (w : Parts) → HasDomains w → (number : ℕ) (arbiter : ArbiterPart) (branch : ℕ) (s : Placement) → slice_get w.arbiters number ≡ Some arbiter → placement w branch ≡ Some s → s.domain ≡ number → s.kind ≡ arbiter.kind
kind_of w domains number arbiter branch s at known is =
    let there : slice_get w.arbiters s.domain ≡ Some arbiter = ap (slice_get w.arbiters) is ∙ at in
    sym (subst (λ o. IsSomeAnd o (λ (a : ArbiterPart). a.kind ≡ s.kind)) there (domains branch s known))

choice_group : (kind : Kind) (group : Group) → kind ≡ kinds.Choice → may_have kind group ≡ true → group ≡ groups.Choice
choice_group kinds.Receive group is may = absurd (cc)
choice_group kinds.Interleave group is may = absurd (cc)
choice_group kinds.Choice groups.Choice is may = refl
choice_group kinds.Choice groups.Once is may = absurd (cc)
choice_group kinds.Choice groups.Always is may = absurd (cc)
choice_group kinds.Choice groups.Teardown is may = absurd (cc)
choice_group kinds.Choice groups.Exclusive is may = absurd (cc)
choice_group kinds.Choice groups.Concurrent is may = absurd (cc)

choice_first : (w : Parts) → IsValid w → (number : ℕ) (arbiter : ArbiterPart) → slice_get w.arbiters number ≡ Some arbiter → arbiter.kind ≡ kinds.Choice → (h : List Event) (s : Spot) → is_live w h s ≡ true → is_branch_where w (λ (s : Placement). s.domain == number) s ≡ true → length (fired_by w (λ (s : Placement). s.domain == number) h) ≡ 0
choice_first w valid number arbiter at kind h s live is =
    let at_branch = BranchFacts-where w (λ (s : Placement). s.domain == number) s is in
    let its = at_branch.placement in
    let live_so = live_at w h (λ (s : Placement). s.domain == number) s at_branch live in
    let same : its.domain ≡ number = same_number its.domain number at_branch.passes in
    let group : its.branch.group ≡ groups.Choice = choice_group its.kind its.branch.group (kind_of w (sound w valid).domains number arbiter at_branch.number its at at_branch.is_placement same ∙ kind) ((sound w valid).groups at_branch.number its at_branch.is_placement) in
    let none : is_live_in w h at_branch.number number groups.Choice ≡ true = subst (λ n. is_live_in w h at_branch.number n groups.Choice ≡ true) same (subst (λ g. is_live_in w h at_branch.number its.domain g ≡ true) group live_so) in
    none_there (fired_by w (λ (s : Placement). s.domain == number) h) none

pub choice_once : (w : Parts) → IsValid w → (h : List Event) → IsLegal w h → (number : ℕ) (arbiter : ArbiterPart) → slice_get w.arbiters number ≡ Some arbiter → arbiter.kind ≡ kinds.Choice → times_any_fired w h number ≤ 1
choice_once w valid h legal number arbiter at kind = at_most_once w (is_branch_where w (λ (s : Placement). s.domain == number)) (choice_first w valid number arbiter at kind) h legal

once_first : (w : Parts) (b : ℕ) (its : Placement) → placement w b ≡ Some its → its.branch.group ≡ groups.Once → (h : List Event) (s : Spot) → is_live w h s ≡ true → same_spot s (Branch b) ≡ true → length (fired_at h (Branch b)) ≡ 0
once_first w b its at group h s live is =
    let there : is_live w h (Branch b) ≡ true = subst (λ r. is_live w h r ≡ true) (same_spot-is s (Branch b) is) live in
    let known : is_live_in w h b its.domain its.branch.group ≡ true = subst (λ o. option_map_or (λ (s : Placement). is_live_in w h b s.domain s.branch.group) o false ≡ true) at there in
    let none : is_live_in w h b its.domain groups.Once ≡ true = subst (λ g. is_live_in w h b its.domain g ≡ true) group known in
    none_there (fired_at h (Branch b)) none

pub receiver_once : (w : Parts) (h : List Event) → IsLegal w h → (b : ℕ) (its : Placement) → placement w b ≡ Some its → its.branch.group ≡ groups.Once → times_fired h b ≤ 1
receiver_once w h legal b its at group = at_most_once w (λ s. same_spot s (Branch b)) (once_first w b its at group) h legal

teardown_group : (group : Group) → is_teardown group ≡ true → group ≡ groups.Teardown
teardown_group groups.Teardown is = refl
teardown_group groups.Once is = absurd (cc)
teardown_group groups.Always is = absurd (cc)
teardown_group groups.Choice is = absurd (cc)
teardown_group groups.Exclusive is = absurd (cc)
teardown_group groups.Concurrent is = absurd (cc)

teardown_first : (w : Parts) (i : ℕ) (h : List Event) (s : Spot) → is_live w h s ≡ true → is_branch_where w (λ (s : Placement). (s.domain == i) && is_teardown s.branch.group) s ≡ true → length (fired_by w (λ (s : Placement). (s.domain == i) && is_teardown s.branch.group) h) ≡ 0
teardown_first w i h s live is =
    let at_branch = BranchFacts-where w (λ (s : Placement). (s.domain == i) && is_teardown s.branch.group) s is in
    let its = at_branch.placement in
    let live_so = live_at w h (λ (s : Placement). (s.domain == i) && is_teardown s.branch.group) s at_branch live in
    let parts = both (its.domain == i) (is_teardown its.branch.group) at_branch.passes in
    let same : its.domain ≡ i = same_number its.domain i parts.0 in
    let group : its.branch.group ≡ groups.Teardown = teardown_group its.branch.group parts.1 in
    let none : is_live_in w h at_branch.number i groups.Teardown ≡ true = subst (λ n. is_live_in w h at_branch.number n groups.Teardown ≡ true) same (subst (λ g. is_live_in w h at_branch.number its.domain g ≡ true) group live_so) in
    none_there (fired_by w (λ (s : Placement). (s.domain == i) && is_teardown s.branch.group) h) none

pub teardown_once : (w : Parts) (h : List Event) → IsLegal w h → (i : ℕ) → times_torn_down w h i ≤ 1
teardown_once w h legal i = at_most_once w (is_branch_where w (λ (s : Placement). (s.domain == i) && is_teardown s.branch.group)) (teardown_first w i) h legal
