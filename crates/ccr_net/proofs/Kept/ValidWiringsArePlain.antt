-- A valid wiring has what the proofs use.
use Rattle.std.proofs.Common.{◌≡◌, ◌≤◌, ◌⊎◌, ℕ, zero, suc, ◌+◌, ◌-◌, ◌&&◌, not, Bool, length, option_map, drop, true, false, List, [], ◌∷◌, Option, Some, None, inl, inr, refl, sym, ap, ◌∙◌, subst, arith}
use Rattle.std.specs.Prelude.{IsSomeAnd, ◌==◌, nat_le, nat_lt}
use Rattle.std.proofs.lemmas.Bool.Decides.{nat_tests}
use Rattle.std.specs.List.{slice_get}
use Rattle.std.specs.Option.{option_map_or}
use Rattle.std.proofs.lemmas.List.{drop-drop}
use Rattle.ccr_base.specs.declared.handlers.Action.{Action}
use Rattle.ccr_base.specs.declared.handlers.Action.TheVariants as actions
use Rattle.ccr_base.specs.declared.names.Spot.{Spot}
use Rattle.ccr_base.specs.declared.names.Spot.TheVariants.{Branch, Site}
use Rattle.ccr_base.specs.declared.patterns.Pattern.{Pattern}
use Rattle.ccr_base.specs.declared.patterns.Pattern.TheVariants.{Slots, Gather}
use Rattle.ccr_base.specs.declared.policies.Group.{Group}
use Rattle.ccr_base.specs.declared.policies.Group.TheVariants as groups
use Rattle.ccr_base.specs.declared.tasks.Task.{Task}
use Rattle.ccr_handler.specs.declared.segments.PlayEnd.TheVariants as plays
use Rattle.ccr_handler.specs.Playing.{play, actions_from, after_await}
use Rattle.ccr_wiring.specs.declared.parts.ArbiterPart.{ArbiterPart}
use Rattle.ccr_wiring.specs.declared.parts.BranchPart.{BranchPart}
use Rattle.ccr_wiring.specs.declared.parts.Kind.{Kind}
use Rattle.ccr_wiring.specs.declared.parts.Kind.TheVariants as kinds
use Rattle.ccr_wiring.specs.declared.parts.Parts.{Parts}
use Rattle.ccr_wiring.specs.Groups.{may_have, is_receive, is_one_named, is_misgrouped, has_strange_group, is_once}
use Rattle.ccr_wiring.specs.Valid.{IsValid, IsSound, IsPatternFilled}
use Rattle.ccr_wiring.specs.Wirings.{Placement, placement, placements, placements_from, in_domain, spots_from, sites_from, site_port, actions_of, awaited, branch_of, segment_of, exception_port, branches_before}
use Rattle.ccr_wiring.proofs.Lists.{neither}
use Rattle.ccr_wiring.proofs.Positions.{placement-here, placement-later, placement-domain}
use Rattle.ccr_wiring.proofs.Soundness.{sound}
use Rattle.ccr_wiring.proofs.Validity.{no_codes, none_misgrouped}
use Rattle.ccr_model.specs.Tasks.{is_interleave}
use Rattle.ccr_base.proofs.Booleans.{both}
use Rattle.ccr_base.proofs.Options.{drop-next, some_is}
use Rattle.ccr_base.proofs.Lists.{none_at}
use Rattle.ccr_model.proofs.Members.{Among, Among-either, index_of}
use Rattle.ccr_actor.specs.Actors.{play_in}
use Rattle.ccr_places.specs.Arbiters as arbiters
use Rattle.ccr_runs.specs.Places.{arbiter_after, first_branch}
use Rattle.ccr_net.proofs.Parts.PhasesFitPlans.{SpotFits}
use Rattle.ccr_net.proofs.Kept.WhatWiringsHave.{PlainFacts, IsEven, Retires}

even_filled : (pattern : Pattern) → IsPatternFilled pattern → IsEven pattern
even_filled (Gather total first second) filled = tt
even_filled (Slots slots) filled = λ slot among. (let found = index_of slots slot among in (filled.2 found.0 slot found.1).0)

-- ---- groups

-- where an arbiter has one branch, that is the branch of its first number
first_placement : (n i : ℕ) (arbiters : List ArbiterPart) (part : ArbiterPart) (one : BranchPart) → slice_get arbiters i ≡ Some part → part.branches ≡ one ∷ [] → option_map (λ (s : Placement). s.branch) (slice_get (placements_from n arbiters) (branches_before i arbiters)) ≡ Some one
first_placement n i [] part one at is = absurd (cc)
first_placement n zero (a ∷ arbiters) part one at is =
    let same : a ≡ part = cc in
    ap (option_map (λ (s : Placement). s.branch)) (placement-here n a arbiters 0 one (rw (same, is) refl))
first_placement n (suc i) (a ∷ arbiters) part one at is =
    let low : length a.branches ≤ length a.branches + branches_before i arbiters = omega arith in
    let rest : (length a.branches + branches_before i arbiters) - length a.branches ≡ branches_before i arbiters = omega arith in
    ap (option_map (λ (s : Placement). s.branch)) (placement-later n a arbiters (length a.branches + branches_before i arbiters) low ∙ ap (slice_get (placements_from (n + 1) arbiters)) rest) ∙ first_placement (n + 1) i arbiters part one at is

-- a receive has one branch
pub one_branch : (w : Parts) → IsValid w → (i : ℕ) (part : ArbiterPart) → slice_get w.arbiters i ≡ Some part → part.kind ≡ kinds.Receive → (one : BranchPart) × (part.branches ≡ one ∷ [])
one_branch w valid i part at kind =
    let well : is_misgrouped part ≡ false = none_at is_misgrouped w.arbiters i part (none_misgrouped w (no_codes w valid)) at in
    let named : is_receive part.kind && not (is_one_named part.name part.branches) ≡ false = (neither (has_strange_group part) _ well).1 in
    of_list part.branches refl (is_true (is_one_named part.name part.branches) (rw kind at named))
  where
    is_true : (b : Bool) → true && not b ≡ false → b ≡ true
    is_true true out = refl
    is_true false out = absurd (cc)

    of_list : (bs : List BranchPart) → part.branches ≡ bs → is_one_named part.name part.branches ≡ true → (one : BranchPart) × (part.branches ≡ one ∷ [])
    of_list [] is named = absurd (let so : is_one_named part.name [] ≡ true = subst (λ l. is_one_named part.name l ≡ true) is named in cc)
    of_list (one ∷ []) is named = (one, is)
    of_list (one ∷ other ∷ more) is named = absurd (let so : is_one_named part.name (one ∷ other ∷ more) ≡ true = subst (λ l. is_one_named part.name l ≡ true) is named in let some : (length (other ∷ more) == 0) ≡ false = grind (arith, nat_tests) in let two = (both (length (other ∷ more) == 0) _ so).0 in cc)

-- the branch that stands at the first number of its receive is that one
its_branch : (w : Parts) (b i : ℕ) (s : Placement) (part : ArbiterPart) (one : BranchPart) → placement w b ≡ Some s → slice_get w.arbiters i ≡ Some part → part.branches ≡ one ∷ [] → b ≡ first_branch w i → s.branch ≡ one
its_branch w b i s part one sits at is number = of_placement (slice_get (placements_from 0 w.arbiters) b) (placement-domain w b ∙ sits) (ap (λ k. option_map (λ (r : Placement). r.branch) (slice_get (placements_from 0 w.arbiters) k)) number ∙ first_placement 0 i w.arbiters part one at is)
  where
    of_placement : (o : Option Placement) → option_map (in_domain w.domains) o ≡ Some s → option_map (λ (r : Placement). r.branch) o ≡ Some one → s.branch ≡ one
    of_placement None here there = absurd (cc)
    of_placement (Some r) here there = ap (λ (z : Placement). z.branch) (sym (some_is here)) ∙ some_is there

retires_so : (w : Parts) → IsValid w → (b : ℕ) (s : Placement) (part : ArbiterPart) → placement w b ≡ Some s → slice_get w.arbiters s.domain ≡ Some part → is_interleave s.kind ≡ false → arbiters.has_spot (arbiter_after (first_branch w s.domain) part []) (Branch b) ≡ true → Retires w s part
retires_so w valid b s part sits at outside here = by s.kind s.branch.group refl refl (all.groups b s sits) outside
  where
    all : IsSound w
    all = sound w valid

    i : ℕ
    i = s.domain

    kind_so : part.kind ≡ s.kind
    kind_so = subst (λ (o : Option ArbiterPart). IsSomeAnd o (λ (p : ArbiterPart). p.kind ≡ s.kind)) at (all.domains b s sits)

    once_by : s.kind ≡ kinds.Receive → s.branch.group ≡ groups.Once → (arbiter_after (first_branch w i) part []).once ≡ true
    once_by kind group =
        let receives : part.kind ≡ kinds.Receive = kind_so ∙ kind in
        let found = one_branch w valid i part at receives in
        let tests : nat_le (first_branch w i) b && nat_lt b (first_branch w i + 1) ≡ true = rw receives at here in
        let two = both (nat_le (first_branch w i) b) (nat_lt b (first_branch w i + 1)) tests in
        let number : b ≡ first_branch w i = (let low = two.0 in let high = two.1 in grind (arith, nat_tests, low, high)) in
        let one = its_branch w b i s part found.0 sits at found.1 number in
        rw (receives, found.1) (ap (λ (x : BranchPart). is_once x.group) (sym one) ∙ ap is_once group)

    by : (kind : Kind) (group : Group) → s.kind ≡ kind → s.branch.group ≡ group → may_have s.kind s.branch.group ≡ true → is_interleave s.kind ≡ false → Retires w s part
    by kinds.Receive groups.Always k g may free = inl g
    by kinds.Receive groups.Once k g may free = inr (once_by k g, inl g)
    by kinds.Choice groups.Choice k g may free = inr (rw (kind_so ∙ k) refl, inr g)
    by kinds.Receive groups.Choice k g may free = absurd (let out : false ≡ true = rw (k, g) at may in cc)
    by kinds.Receive groups.Teardown k g may free = absurd (let out : false ≡ true = rw (k, g) at may in cc)
    by kinds.Receive groups.Exclusive k g may free = absurd (let out : false ≡ true = rw (k, g) at may in cc)
    by kinds.Receive groups.Concurrent k g may free = absurd (let out : false ≡ true = rw (k, g) at may in cc)
    by kinds.Choice groups.Always k g may free = absurd (let out : false ≡ true = rw (k, g) at may in cc)
    by kinds.Choice groups.Once k g may free = absurd (let out : false ≡ true = rw (k, g) at may in cc)
    by kinds.Choice groups.Teardown k g may free = absurd (let out : false ≡ true = rw (k, g) at may in cc)
    by kinds.Choice groups.Exclusive k g may free = absurd (let out : false ≡ true = rw (k, g) at may in cc)
    by kinds.Choice groups.Concurrent k g may free = absurd (let out : false ≡ true = rw (k, g) at may in cc)
    by kinds.Interleave group k g may free = absurd (let out : true ≡ false = rw k at free in cc)

-- ---- awaits

awaited-after : (acts : List Action) → awaited (after_await acts) ≡ drop 1 (awaited acts)
awaited-after [] = refl
awaited-after (actions.Post port expr ∷ acts) = awaited-after acts
awaited-after (actions.Fail expr ∷ acts) = awaited-after acts
awaited-after (actions.Add cause ∷ acts) = awaited-after acts
awaited-after (actions.Remove cause ∷ acts) = awaited-after acts
awaited-after (actions.Await port ∷ acts) = refl

drop-one : (k : ℕ) (xs : List ℕ) → drop 1 (drop k xs) ≡ drop (suc k) xs
drop-one k xs = drop-drop 1 k xs ∙ ap (λ n. drop n xs) (let on : k + 1 ≡ suc k = omega arith in on)

awaited-from : (k : ℕ) (acts : List Action) → awaited (actions_from k acts) ≡ drop k (awaited acts)
awaited-from zero acts = refl
awaited-from (suc k) acts = awaited-after (actions_from k acts) ∙ ap (drop 1) (awaited-from k acts) ∙ drop-one k (awaited acts)

-- a play that ends in a suspension stops at an await
yields_awaits : (port_of : ℕ → Option ℕ) (values : List (List ℕ)) (segment : ℕ) (acts : List Action) (site : ℕ) (causes : List ℕ) → (play port_of values segment causes acts).end ≡ plays.Yield site → (port : ℕ) × (rest : List ℕ) × (awaited acts ≡ port ∷ rest)
yields_awaits port_of values segment [] site causes is = absurd (cc)
yields_awaits port_of values segment (actions.Post port expr ∷ acts) site causes is = yields_awaits port_of values segment acts site causes is
yields_awaits port_of values segment (actions.Fail expr ∷ acts) site causes is = absurd (cc)
yields_awaits port_of values segment (actions.Add cause ∷ acts) site causes is = yields_awaits port_of values segment acts site _ is
yields_awaits port_of values segment (actions.Remove cause ∷ acts) site causes is = yields_awaits port_of values segment acts site _ is
yields_awaits port_of values segment (actions.Await port ∷ acts) site causes is = (port, awaited acts, refl)

-- so there is a site for the task
pub yields_at_site : (w : Parts) (task : Task) (site : ℕ) → (play_in w task).end ≡ plays.Yield site → (port : ℕ) × (site_port w (branch_of task.spot) (segment_of task.spot) ≡ Some port)
yields_at_site w task site is = of_placement (placement w (branch_of task.spot)) refl
  where
    k : ℕ
    k = segment_of task.spot

    acts : Option Placement → List Action
    acts o = option_map_or (λ (s : Placement). actions_of w s.branch.handler) o []

    found : (port : ℕ) × (rest : List ℕ) × (awaited (actions_from k (acts (placement w (branch_of task.spot)))) ≡ port ∷ rest)
    found = yields_awaits (exception_port w) task.values k (actions_from k (acts (placement w (branch_of task.spot)))) site task.causes is

    there : slice_get (awaited (acts (placement w (branch_of task.spot)))) k ≡ Some found.0
    there = (drop-next k (awaited (acts (placement w (branch_of task.spot)))) found.0 found.1 (sym found.2 ∙ awaited-from k (acts (placement w (branch_of task.spot))))).0

    of_placement : (o : Option Placement) → placement w (branch_of task.spot) ≡ o → (port : ℕ) × (site_port w (branch_of task.spot) k ≡ Some port)
    of_placement None none = absurd (let nothing : slice_get (awaited (acts None)) k ≡ Some found.0 = subst (λ o. slice_get (awaited (acts o)) k ≡ Some found.0) none there in nobody nothing)
      where
        nobody : slice_get {X = ℕ} [] k ≡ Some found.0 → ⊥
        nobody e = absurd (cc)
    of_placement (Some s) some = (found.0, ap (λ o. option_map_or (λ (r : Placement). slice_get (awaited (actions_of w r.branch.handler)) k) o None) some ∙ (subst (λ o. slice_get (awaited (acts o)) k ≡ Some found.0) some there))

-- ---- each spot of the wiring is a branch or a site

sites_in : (b n : ℕ) (ports : List ℕ) (spot : Spot) → Among spot (sites_from b n ports) → (i : ℕ) × (port : ℕ) × (spot ≡ Site b (n + i)) × (slice_get ports i ≡ Some port)
sites_in b n [] spot is = absurd is
sites_in b n (port ∷ ports) spot (inl e) = (0, port, e ∙ ap (Site b) (let same : n ≡ n + 0 = omega arith in same), refl)
sites_in b n (port ∷ ports) spot (inr more) =
    let found = sites_in b (n + 1) ports spot more in
    let same : (n + 1) + found.0 ≡ n + suc found.0 = omega arith in
    (suc found.0, found.1, found.2 ∙ ap (Site b) same, found.3)

spots_fit : (w : Parts) (k : ℕ) (ss : List Placement) (spot : Spot) → ((i : ℕ) (s : Placement) → slice_get ss i ≡ Some s → placement w (k + i) ≡ Some s) → Among spot (spots_from w k ss) → SpotFits w spot
spots_fit w k [] spot known is = absurd is
spots_fit w k (s ∷ ss) spot known (inl e) = subst (SpotFits w) (sym e) (s, here)
  where
    here : placement w k ≡ Some s
    here = ap (placement w) (let same : k ≡ k + 0 = omega arith in same) ∙ known 0 s refl
spots_fit w k (s ∷ ss) spot known (inr more) = by (Among-either spot (sites_from k 0 (awaited (actions_of w s.branch.handler))) (spots_from w (k + 1) ss) more) (spots_fit w (k + 1) ss spot (λ i r at_i. ap (placement w) (let same : (k + 1) + i ≡ k + suc i = omega arith in same) ∙ known (suc i) r at_i))
  where
    here : placement w k ≡ Some s
    here = ap (placement w) (let same : k ≡ k + 0 = omega arith in same) ∙ known 0 s refl

    by : Among spot (sites_from k 0 (awaited (actions_of w s.branch.handler))) ⊎ Among spot (spots_from w (k + 1) ss) → (Among spot (spots_from w (k + 1) ss) → SpotFits w spot) → SpotFits w spot
    by (inl site) later =
        let found = sites_in k 0 (awaited (actions_of w s.branch.handler)) spot site in
        let same : 0 + found.0 ≡ found.0 = omega arith in
        subst (SpotFits w) (sym (found.2 ∙ ap (Site k) same)) (found.1, rw here found.3)
    by (inr rest) later = later rest

pub plain_facts : (w : Parts) → IsValid w → PlainFacts w
plain_facts w valid = record {
  kinds_so = λ b s part is at. subst (λ (o : Option ArbiterPart). IsSomeAnd o (λ (p : ArbiterPart). p.kind ≡ s.kind)) at (all.domains b s is);
  groups_so = all.groups;
  retires = retires_so w valid;
  even = λ b s is. even_filled s.branch.pattern (all.patterns b s is);
  places_so = λ spot is. spots_fit w 0 (placements w) spot (λ i r at_i. ap (placement w) (from_none i) ∙ at_i) is;
  sites_so = λ task site is. yields_at_site w task site is;
}
  where
    from_none : (k : ℕ) → 0 + k ≡ k
    from_none k = omega arith

    all : IsSound w
    all = sound w valid
