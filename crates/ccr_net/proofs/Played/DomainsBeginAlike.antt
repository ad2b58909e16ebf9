-- A domain of Interleaves begins with the branches and groups that its object begins with.
use Rattle.std.proofs.Common.{◌≡◌, ℕ, ◌+◌, suc, Bool, true, false, ◌&&◌, List, [], ◌∷◌, ◌++◌, map, filter, Option, Some, None, refl, sym, arith, ap, ◌∙◌}
use Rattle.std.specs.Prelude.{◌==◌, if◌then◌else◌, slice_get, filter_map}
use Rattle.std.specs.Option.{option_map_or, option_and_then}
use Rattle.std.proofs.lemmas.List.Elements.{filter_map-append}
use Rattle.ccr_base.specs.declared.names.Place.TheVariants as places
use Rattle.ccr_base.specs.declared.names.Spot.TheVariants.{Branch}
use Rattle.ccr_base.specs.declared.policies.Group.{Group}
use Rattle.ccr_wiring.specs.declared.parts.ArbiterPart.{ArbiterPart}
use Rattle.ccr_wiring.specs.declared.parts.Kind.{Kind}
use Rattle.ccr_wiring.specs.declared.parts.Kind.TheVariants as kinds
use Rattle.ccr_wiring.specs.declared.parts.Parts.{Parts}
use Rattle.ccr_wiring.specs.Wirings.{Placement, placement, placements, spots_from, sites_from, awaited, actions_of, kind_of}
use Rattle.ccr_model.specs.Interleaves.{is_placement_in}
use Rattle.ccr_model.specs.Tasks.{is_interleave}
use Rattle.ccr_base.proofs.Booleans.{same_number, and_false}
use Rattle.ccr_base.proofs.Options.{some_of}
use Rattle.ccr_places.specs.Interleaves as interleaves
use Rattle.ccr_object.specs.declared.object.Object.TheVariants.{Interleave}
use Rattle.ccr_object.specs.Starts.{start_at, fresh_arbiter, member_at, member_of, members, branches_of, groups_of}
use Rattle.ccr_actor.specs.Plans.{is_interleave_number}
use Rattle.ccr_runs.specs.declared.entries.Entry.{Entry}
use Rattle.ccr_runs.specs.Places.{branches_from, groups_in}
use Rattle.ccr_runs.specs.EntryRuns.{notes_at, domain_at}
use Rattle.ccr_runs.specs.Visible.{visible}
use Rattle.ccr_net.proofs.Kept.WhatWiringsHave.{PlainFacts}
use Rattle.ccr_net.proofs.Played.ObjectsFollowNotes.{object_of, told_interleave, told_object}

-- ---- the arbiter of the domain's number

pub record DomainArbiter (w : Parts) (i : ℕ) : Type 0 where
  pub part : ArbiterPart
  pub at_i : slice_get w.arbiters i ≡ Some part
  pub kind_so : part.kind ≡ kinds.Interleave

pub domain_arbiter : (w : Parts) (i : ℕ) → is_interleave_number w i ≡ true → DomainArbiter w i
domain_arbiter w i number =
    let found = some_of (λ (part : ArbiterPart). is_interleave part.kind) (slice_get w.arbiters i) number in
    record { part = found.0; at_i = found.1; kind_so = of_kind found.0.kind found.2 }
  where
    of_kind : (kind : Kind) → is_interleave kind ≡ true → kind ≡ kinds.Interleave
    of_kind kinds.Receive is = absurd (cc)
    of_kind kinds.Choice is = absurd (cc)
    of_kind kinds.Interleave is = refl

-- a branch of the domain is one of an Interleave
pub domain_branch : (w : Parts) → PlainFacts w → (i : ℕ) → is_interleave_number w i ≡ true → (b : ℕ) (s : Placement) → placement w b ≡ Some s → s.domain ≡ i → is_interleave s.kind ≡ true
domain_branch w plain i number b s sits at_i =
    let its = domain_arbiter w i number in
    let kind : s.kind ≡ kinds.Interleave = sym (plain.kinds_so b s its.part sits (ap (slice_get w.arbiters) at_i ∙ its.at_i)) ∙ its.kind_so in
    ap is_interleave kind

-- ---- the branches and their groups

abbrev group_of : Placement → Group
group_of s = s.branch.group

-- what is picked of one more
abbrev with_picked : {Y : Type 0} → Option Y → List Y → List Y
with_picked None ys = ys
with_picked (Some y) ys = y ∷ ys

picks : {X Y : Type 0} (f : X → Option Y) (x : X) (xs : List X) (o : Option Y) → f x ≡ o → filter_map f (x ∷ xs) ≡ with_picked o (filter_map f xs)
picks f x xs None is = rw is refl
picks f x xs (Some y) is = rw is refl

-- no site is a member of a domain
pub no_sites : (w : Parts) (i b k : ℕ) (ports : List ℕ) → filter_map (member_at w i) (sites_from b k ports) ≡ []
no_sites w i b k [] = refl
no_sites w i b k (port ∷ ports) = no_sites w i b (k + 1) ports

-- the domain's branches among these, of which the first has this number
record Listed (w : Parts) (i k : ℕ) (ss : List Placement) : Type 0 where
  branches_so : branches_of (filter_map (member_at w i) (spots_from w k ss)) ≡ branches_from i k ss
  groups_so : groups_of (filter_map (member_at w i) (spots_from w k ss)) ≡ map group_of (filter (is_placement_in i) ss)

listed : (w : Parts) (i : ℕ) → ((b : ℕ) (s : Placement) → placement w b ≡ Some s → (s.domain == i) ≡ true → is_interleave s.kind ≡ true) → (k : ℕ) (ss : List Placement) → ((j : ℕ) (s : Placement) → slice_get ss j ≡ Some s → placement w (k + j) ≡ Some s) → Listed w i k ss
listed w i within k [] known = record { branches_so = refl; groups_so = refl }
listed w i within k (s ∷ ss) known = by (s.domain == i) refl (listed w i within (k + 1) ss (λ j r at. ap (placement w) (let same : (k + 1) + j ≡ k + suc j = omega arith in same) ∙ known (suc j) r at))
  where
    here : placement w k ≡ Some s
    here = ap (placement w) (let same : k ≡ k + 0 = omega arith in same) ∙ known 0 s refl

    behind : filter_map (member_at w i) (sites_from k 0 (awaited (actions_of w s.branch.handler)) ++ spots_from w (k + 1) ss) ≡ filter_map (member_at w i) (spots_from w (k + 1) ss)
    behind = filter_map-append (member_at w i) (sites_from k 0 (awaited (actions_of w s.branch.handler))) (spots_from w (k + 1) ss) ∙ ap (λ xs. xs ++ filter_map (member_at w i) (spots_from w (k + 1) ss)) (no_sites w i k 0 (awaited (actions_of w s.branch.handler)))

    whole : filter_map (member_at w i) (spots_from w k (s ∷ ss)) ≡ with_picked (if s.domain == i then Some (k, s.branch.group) else None) (filter_map (member_at w i) (spots_from w (k + 1) ss))
    whole = picks (member_at w i) (Branch k) (sites_from k 0 (awaited (actions_of w s.branch.handler)) ++ spots_from w (k + 1) ss) (if s.domain == i then Some (k, s.branch.group) else None) (ap (option_and_then (member_of i k)) here) ∙ ap (with_picked (if s.domain == i then Some (k, s.branch.group) else None)) behind

    by : (c : Bool) → (s.domain == i) ≡ c → Listed w i (k + 1) ss → Listed w i k (s ∷ ss)
    by true e more = record {
      branches_so = ap branches_of whole ∙ ap (λ c. branches_of (with_picked (if c then Some (k, s.branch.group) else None) (filter_map (member_at w i) (spots_from w (k + 1) ss)))) e ∙ ap (λ bs. k ∷ bs) more.branches_so ∙ sym (ap (λ c. if c then k ∷ branches_from i (k + 1) ss else branches_from i (k + 1) ss) inside);
      groups_so = ap groups_of whole ∙ ap (λ c. groups_of (with_picked (if c then Some (k, s.branch.group) else None) (filter_map (member_at w i) (spots_from w (k + 1) ss)))) e ∙ ap (λ gs. s.branch.group ∷ gs) more.groups_so ∙ sym (ap (λ c. map group_of (if c then s ∷ filter (is_placement_in i) ss else filter (is_placement_in i) ss)) inside);
    }
      where
        inside : is_placement_in i s ≡ true
        inside = rw (within k s here e, e) refl
    by false e more = record {
      branches_so = ap branches_of whole ∙ ap (λ c. branches_of (with_picked (if c then Some (k, s.branch.group) else None) (filter_map (member_at w i) (spots_from w (k + 1) ss)))) e ∙ more.branches_so ∙ sym (ap (λ c. if c then k ∷ branches_from i (k + 1) ss else branches_from i (k + 1) ss) outside);
      groups_so = ap groups_of whole ∙ ap (λ c. groups_of (with_picked (if c then Some (k, s.branch.group) else None) (filter_map (member_at w i) (spots_from w (k + 1) ss)))) e ∙ more.groups_so ∙ sym (ap (λ c. map group_of (if c then s ∷ filter (is_placement_in i) ss else filter (is_placement_in i) ss)) outside);
    }
      where
        outside : is_placement_in i s ≡ false
        outside = ap (λ c. is_interleave s.kind && c) e ∙ and_false (is_interleave s.kind)

-- ---- the domain's object

pub domain_starts : (w : Parts) → PlainFacts w → (i : ℕ) → is_interleave_number w i ≡ true → start_at w (places.Arbiter i) ≡ Interleave (record { state = interleaves.start (branches_from i 0 (placements w)) (groups_in w i); tasks = [] })
domain_starts w plain i number = ap (λ kind. fresh_arbiter kind (members w i)) kind ∙ (λ j. Interleave (record { state = interleaves.start (all.branches_so j) (all.groups_so j); tasks = [] }))
  where
    its : DomainArbiter w i
    its = domain_arbiter w i number

    kind : kind_of w i ≡ kinds.Interleave
    kind = ap (λ o. option_map_or (λ (part : ArbiterPart). part.kind) o kinds.Interleave) its.at_i ∙ its.kind_so

    all : Listed w i 0 (placements w)
    all = listed w i (λ b s sits at. domain_branch w plain i number b s sits (same_number s.domain i at)) 0 (placements w) (λ j s at. ap (placement w) (let same : 0 + j ≡ j = omega arith in same) ∙ at)

pub domain_object : (w : Parts) → PlainFacts w → (i : ℕ) → is_interleave_number w i ≡ true → (es : List Entry) → object_of w es (places.Arbiter i) ≡ told_interleave w (visible es) (domain_at w es i)
domain_object w plain i number es = ap (told_object w (visible es) (notes_at es (places.Arbiter i))) (domain_starts w plain i number)
