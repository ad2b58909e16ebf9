-- The branches with which the object of an arbiter begins, and the object of a receive or a choice.
use Rattle.std.proofs.Common.{◌≡◌, ◌⊎◌, inl, inr, ◌<◌, ℕ, zero, suc, ◌+◌, Bool, true, false, not, ◌&&◌, List, [], ◌∷◌, ◌++◌, length, map, Some, None, refl, sym, arith, ap, ◌∙◌}
use Rattle.std.specs.Prelude.{◌==◌, if◌then◌else◌, slice_get, filter_map}
use Rattle.std.specs.List.{cons_option, list_any}
use Rattle.std.specs.Option.{option_map_or, option_and_then}
use Rattle.std.proofs.lemmas.Bool.Decides.{nat_tests}
use Rattle.std.proofs.lemmas.List.Elements.{filter_map-append}
use Rattle.ccr_base.specs.declared.names.Place.TheVariants as places
use Rattle.ccr_base.specs.declared.names.Spot.{Spot}
use Rattle.ccr_base.specs.declared.policies.Group.{Group}
use Rattle.ccr_base.specs.declared.policies.Group.TheVariants as groups
use Rattle.ccr_wiring.specs.declared.parts.ArbiterPart.{ArbiterPart}
use Rattle.ccr_wiring.specs.declared.parts.BranchPart.{BranchPart}
use Rattle.ccr_wiring.specs.declared.parts.DomainPart.{DomainPart}
use Rattle.ccr_wiring.specs.declared.parts.Kind.{Kind}
use Rattle.ccr_wiring.specs.declared.parts.Kind.TheVariants as kinds
use Rattle.ccr_wiring.specs.declared.parts.Parts.{Parts}
use Rattle.ccr_wiring.specs.Domains.{domain_of, least_with}
use Rattle.ccr_wiring.specs.Groups.{has_strange_group, is_branchless, is_interleave, is_misgrouped, is_one_named, is_receive}
use Rattle.ccr_wiring.specs.References.{domain_is_dangling, has_dangling_domain, no_interleave}
use Rattle.ccr_wiring.specs.Valid.{IsValid}
use Rattle.ccr_wiring.specs.Wirings.{Placement, actions_of, awaited, in_domain, placement, placements, placements_from, sites_from, spots_from, kind_of, branches_before}
use Rattle.ccr_wiring.proofs.Lists.{neither}
use Rattle.ccr_wiring.proofs.Validity.{no_codes, none_dangle, none_misgrouped}
use Rattle.ccr_base.proofs.Booleans.{eq-self, same_number}
use Rattle.ccr_base.specs.Lists.{has_number}
use Rattle.ccr_base.proofs.Lists.{none_at}
use Rattle.ccr_object.specs.declared.object.Object.TheVariants.{Arbiter}
use Rattle.ccr_object.specs.Starts.{fresh_arbiter, member_at, member_of, members}
use Rattle.ccr_runs.specs.declared.entries.Entry.{Entry}
use Rattle.ccr_runs.specs.Places.{arbiter_after, first_branch}
use Rattle.ccr_runs.specs.EntryRuns.{notes_at}
use Rattle.ccr_runs.specs.Visible.{visible}
use Rattle.ccr_net.proofs.Played.ObjectsFollowNotes.{object_of, told_object}
use Rattle.ccr_net.proofs.Played.DomainsBeginAlike.{no_sites}
use Rattle.ccr_wiring.proofs.DomainsOfOwnKind.{no_less, least_fails, member_fails}

-- ---- the branches of a domain, from branch to branch

abbrev pub members_from : ℕ → ℕ → List Placement → List (ℕ × Group)
members_from i b [] = []
members_from i b (s ∷ ss) = cons_option (member_of i b s) (members_from i (b + 1) ss)

members_in : (w : Parts) (i b : ℕ) (ss : List Placement) → ((k : ℕ) (s : Placement) → slice_get ss k ≡ Some s → placement w (b + k) ≡ Some s) → filter_map (member_at w i) (spots_from w b ss) ≡ members_from i b ss
members_in w i b [] known = refl
members_in w i b (s ∷ ss) known =
    let sites : List Spot = sites_from b 0 (awaited (actions_of w s.branch.handler)) in
    let rest : List Spot = spots_from w (b + 1) ss in
    let here : placement w b ≡ Some s = ap (placement w) (let same : b ≡ b + 0 = omega arith in same) ∙ known 0 s refl in
    let later : filter_map (member_at w i) rest ≡ members_from i (b + 1) ss = members_in w i (b + 1) ss (λ k r at. ap (placement w) (let same : (b + 1) + k ≡ b + suc k = omega arith in same) ∙ known (suc k) r at) in
    ap (λ o. cons_option (option_and_then (member_of i b) o) (filter_map (member_at w i) (sites ++ rest))) here
    ∙ ap (cons_option (member_of i b s)) (filter_map-append (member_at w i) sites rest ∙ ap (λ l. l ++ filter_map (member_at w i) rest) (no_sites w i b 0 (awaited (actions_of w s.branch.handler))) ∙ later)

pub members_walk : (w : Parts) (i : ℕ) → members w i ≡ members_from i 0 (placements w)
members_walk w i = members_in w i 0 (placements w) (λ k s at. ap (placement w) (let same : 0 + k ≡ k = omega arith in same) ∙ at)

-- ---- domains of what is no Interleave

-- an arbiter's domain is its own, or is an Interleave's, and so is the arbiter
domain_or : (w : Parts) (ds : List DomainPart) (j : ℕ) → list_any (domain_is_dangling w) ds ≡ false → (domain_of ds j ≡ j) ⊎ ((no_interleave w j ≡ false) × (no_interleave w (domain_of ds j) ≡ false))
domain_or w [] j none = inl refl
domain_or w (d ∷ ds) j none =
    let both = neither (domain_is_dangling w d) (list_any (domain_is_dangling w) ds) none in
    by_test (has_number d.members j) refl (domain_or w ds j both.1)
  where
    by_test : (t : Bool) → has_number d.members j ≡ t → (domain_of ds j ≡ j) ⊎ ((no_interleave w j ≡ false) × (no_interleave w (domain_of ds j) ≡ false))
        → ((if t then least_with j d.members else domain_of ds j) ≡ j) ⊎ ((no_interleave w j ≡ false) × (no_interleave w (if t then least_with j d.members else domain_of ds j) ≡ false))
    by_test false apart rest = rest
    by_test true there rest =
        let fine = (neither (domain_is_dangling w d) (list_any (domain_is_dangling w) ds) none).0 in
        let own = member_fails (no_interleave w) d.members j there fine in
        inr (own, least_fails (no_interleave w) j d.members own fine)

-- what is in the domain of no Interleave is that arbiter itself
domain_test : (w : Parts) (ds : List DomainPart) (i : ℕ) → list_any (domain_is_dangling w) ds ≡ false → no_interleave w i ≡ true → (j : ℕ) → (domain_of ds j == i) ≡ (j == i)
domain_test w ds i none plain j = by (domain_or w ds j none)
  where
    apart : (k : ℕ) → no_interleave w k ≡ false → (k == i) ≡ false
    apart k fails = of_test (k == i) refl
      where
        of_test : (b : Bool) → (k == i) ≡ b → (k == i) ≡ false
        of_test false e = e
        of_test true e = absurd (let so : no_interleave w i ≡ false = ap (no_interleave w) (sym (same_number k i e)) ∙ fails in cc)

    by : (domain_of ds j ≡ j) ⊎ ((no_interleave w j ≡ false) × (no_interleave w (domain_of ds j) ≡ false)) → (domain_of ds j == i) ≡ (j == i)
    by (inl own) = ap (λ k. k == i) own
    by (inr two) = apart (domain_of ds j) two.1 ∙ sym (apart j two.0)

-- ---- the branches of an arbiter that is no Interleave

abbrev numbered : ℕ → List BranchPart → List (ℕ × Group)
numbered b [] = []
numbered b (x ∷ xs) = (b, x.group) ∷ numbered (b + 1) xs

length-numbered : (b : ℕ) (xs : List BranchPart) → length (numbered b xs) ≡ length xs
length-numbered b [] = refl
length-numbered b (x ∷ xs) = ap suc (length-numbered (b + 1) xs)

module _ (ds : List DomainPart) (i : ℕ) where
  others : (n b : ℕ) (kind : Kind) (branches : List BranchPart) (rest : List Placement) → (domain_of ds n == i) ≡ false → members_from i b (map (in_domain ds) (map (λ branch. record { domain = n; kind = kind; branch = branch }) branches ++ rest)) ≡ members_from i (b + length branches) (map (in_domain ds) rest)
  others n b kind [] rest apart = ap (λ k. members_from i k (map (in_domain ds) rest)) (let same : b ≡ b + 0 = omega arith in same)
  others n b kind (x ∷ xs) rest apart =
      ap (λ t. cons_option (if t then Some (b, x.group) else None) (members_from i (b + 1) (map (in_domain ds) (map (λ branch. record { domain = n; kind = kind; branch = branch }) xs ++ rest)))) apart
      ∙ others n (b + 1) kind xs rest apart
      ∙ ap (λ k. members_from i k (map (in_domain ds) rest)) (let same : (b + 1) + length xs ≡ b + length (x ∷ xs) = omega arith in same)

  own : (n b : ℕ) (kind : Kind) (branches : List BranchPart) (rest : List Placement) → (domain_of ds n == i) ≡ true → members_from i b (map (in_domain ds) (map (λ branch. record { domain = n; kind = kind; branch = branch }) branches ++ rest)) ≡ numbered b branches ++ members_from i (b + length branches) (map (in_domain ds) rest)
  own n b kind [] rest here = ap (λ k. members_from i k (map (in_domain ds) rest)) (let same : b ≡ b + 0 = omega arith in same)
  own n b kind (x ∷ xs) rest here =
      ap (λ t. cons_option (if t then Some (b, x.group) else None) (members_from i (b + 1) (map (in_domain ds) (map (λ branch. record { domain = n; kind = kind; branch = branch }) xs ++ rest)))) here
      ∙ ap (λ l. (b, x.group) ∷ l) (own n (b + 1) kind xs rest here ∙ ap (λ k. numbered (b + 1) xs ++ members_from i k (map (in_domain ds) rest)) (let same : (b + 1) + length xs ≡ b + length (x ∷ xs) = omega arith in same))

  module _ (test : (j : ℕ) → (domain_of ds j == i) ≡ (j == i)) where
    none_later : (n b : ℕ) (arbiters : List ArbiterPart) → i < n → members_from i b (map (in_domain ds) (placements_from n arbiters)) ≡ []
    none_later n b [] past = refl
    none_later n b (a ∷ arbiters) past = others n b a.kind a.branches (placements_from (n + 1) arbiters) (test n ∙ (let apart : (n == i) ≡ false = grind (arith, nat_tests, past) in apart)) ∙ none_later (n + 1) (b + length a.branches) arbiters (omega arith)

    its_members : (n b k : ℕ) (arbiters : List ArbiterPart) (part : ArbiterPart) → slice_get arbiters k ≡ Some part → n + k ≡ i → members_from i b (map (in_domain ds) (placements_from n arbiters)) ≡ numbered (b + branches_before k arbiters) part.branches
    its_members n b k [] part at is = absurd (cc)
    its_members n b zero (a ∷ arbiters) part at is =
        let same : a ≡ part = cc in
        let here : n ≡ i = omega (arith, is) in
        own n b a.kind a.branches (placements_from (n + 1) arbiters) (test n ∙ ap (λ m. m == i) here ∙ eq-self i)
        ∙ ap (λ l. numbered b a.branches ++ l) (none_later (n + 1) (b + length a.branches) arbiters (omega (arith, here)))
        ∙ no_more (numbered b a.branches)
        ∙ (λ j. numbered (let e : b ≡ b + 0 = omega arith in e j) (same j).branches)
      where
        no_more : (l : List (ℕ × Group)) → l ++ [] ≡ l
        no_more [] = refl
        no_more (x ∷ l) = ap (λ m. x ∷ m) (no_more l)
    its_members n b (suc k) (a ∷ arbiters) part at is =
        others n b a.kind a.branches (placements_from (n + 1) arbiters) (test n ∙ (let apart : (n == i) ≡ false = grind (arith, nat_tests, is) in apart))
        ∙ its_members (n + 1) (b + length a.branches) k arbiters part at (omega (arith, is))
        ∙ ap (λ m. numbered m part.branches) (let e : (b + length a.branches) + branches_before k arbiters ≡ b + (length a.branches + branches_before k arbiters) = omega arith in e)

-- ---- a receive or a choice

module _ (w : Parts) (valid : IsValid w) (i : ℕ) (part : ArbiterPart) (at : slice_get w.arbiters i ≡ Some part) (outside : is_interleave part.kind ≡ false) where
  plain_members : members w i ≡ numbered (first_branch w i) part.branches
  plain_members =
      let none : list_any (domain_is_dangling w) w.domains ≡ false = none_dangle w (no_codes w valid) in
      let plain : no_interleave w i ≡ true = ap (λ o. option_map_or (λ (a : ArbiterPart). not (is_interleave a.kind)) o true) at ∙ ap not outside in
      members_walk w i
      ∙ its_members w.domains i (domain_test w w.domains i none plain) 0 0 i w.arbiters part at (let e : 0 + i ≡ i = omega arith in e)
      ∙ ap (λ n. numbered n part.branches) (let e : 0 + branches_before i w.arbiters ≡ branches_before i w.arbiters = omega arith in e)

  -- it has a branch
  some_branch : (one : BranchPart) × (more : List BranchPart) × (part.branches ≡ one ∷ more)
  some_branch = by part.branches refl
    where
      no_named : (kind : Kind) → part.kind ≡ kind → part.branches ≡ [] → is_interleave kind ≡ false → ⊥
      no_named kinds.Receive kind none free =
          let well : is_misgrouped part ≡ false = none_at is_misgrouped w.arbiters i part (none_misgrouped w (no_codes w valid)) at in
          let named : is_receive part.kind && not (is_one_named part.name part.branches) ≡ false = (neither (has_strange_group part) _ well).1 in
          let out : true ≡ false = rw (kind, none) at named in
          absurd (cc)
      no_named kinds.Choice kind none free =
          let full : is_branchless part ≡ false = none_at is_branchless w.arbiters i part (no_codes w valid).branches at in
          let out : true ≡ false = rw (kind, none) at full in
          absurd (cc)
      no_named kinds.Interleave kind none free = absurd (cc)

      by : (bs : List BranchPart) → part.branches ≡ bs → (one : BranchPart) × (more : List BranchPart) × (part.branches ≡ one ∷ more)
      by [] none = absurd (no_named part.kind refl none outside)
      by (one ∷ more) is = (one, more, is)

  plain_starts : (b : ℕ) → fresh_arbiter part.kind (numbered b part.branches) ≡ Arbiter (arbiter_after b part [])
  plain_starts b = by part.kind refl outside
    where
      by : (kind : Kind) → part.kind ≡ kind → is_interleave kind ≡ false → fresh_arbiter part.kind (numbered b part.branches) ≡ Arbiter (arbiter_after b part [])
      by kinds.Receive kind free = rw (kind, some_branch.2) refl
      by kinds.Choice kind free = rw (kind, some_branch.2) (ap (λ n. Arbiter (record { first = b; count = n; once = true; fired = []; over = [] })) (ap suc (length-numbered (b + 1) some_branch.1)))
      by kinds.Interleave kind free = absurd (cc)

  -- its object keeps what the run has by the notes
  pub plain_object : (es : List Entry) → object_of w es (places.Arbiter i) ≡ Arbiter (arbiter_after (first_branch w i) part (notes_at es (places.Arbiter i)))
  plain_object es =
      let kind : kind_of w i ≡ part.kind = ap (λ o. option_map_or (λ (a : ArbiterPart). a.kind) o kinds.Interleave) at in
      (λ j. told_object w (visible es) (notes_at es (places.Arbiter i)) (fresh_arbiter (kind j) (plain_members j)))
      ∙ ap (told_object w (visible es) (notes_at es (places.Arbiter i))) (plain_starts (first_branch w i))
