-- The domain of a branch is the number of an arbiter of its own kind.
use Rattle.std.proofs.Common.{◌≡◌, ℕ, suc, ◌+◌, ◌≤◌, min, Bool, true, false, List, [], ◌∷◌, Option, Some, None, refl, ap, sym, subst, ◌∙◌, arith, ◌-◌, ◌<◌, length}
use Rattle.std.specs.Prelude.{◌==◌, not, nat_le, IsSomeAnd, nat_lt}
use Rattle.std.specs.List.{list_any, slice_get}
use Rattle.std.specs.Option.{option_map, option_map_or}
use Rattle.std.proofs.lemmas.Option.{slice_get-map}
use Rattle.std.proofs.lemmas.Bool.Decides.{nat_tests}
use Rattle.ccr_base.specs.Lists.{has_number}
use Rattle.ccr_base.proofs.Options.{get-some}
use Rattle.ccr_wiring.specs.declared.parts.ArbiterPart.{ArbiterPart}
use Rattle.ccr_wiring.specs.declared.parts.BranchPart.{BranchPart}
use Rattle.ccr_wiring.specs.declared.parts.DomainPart.{DomainPart}
use Rattle.ccr_wiring.specs.declared.parts.Kind.{Kind}
use Rattle.ccr_wiring.specs.declared.parts.Kind.TheVariants as kinds
use Rattle.ccr_wiring.specs.declared.parts.Parts.{Parts}
use Rattle.ccr_wiring.specs.Domains.{least_with, domain_of}
use Rattle.ccr_wiring.specs.Groups.{is_interleave}
use Rattle.ccr_wiring.specs.References.{no_interleave, domain_is_dangling, has_dangling_domain}
use Rattle.ccr_wiring.specs.Wirings.{Placement, placement, placements_from, in_domain, branches_before}
use Rattle.ccr_wiring.proofs.Lists.{neither}
use Rattle.ccr_wiring.proofs.Positions.{placement-here, placement-later}
use Rattle.ccr_base.proofs.Booleans.{refuted, no_both, same_number}
use Rattle.ccr_base.proofs.Lists.{none_narrower}

-- the arbiter of a branch's placement, by its index, and where its branches stand among all
pub record ArbiterOf (first : ℕ) (arbiters : List ArbiterPart) (branch : ℕ) (s : Placement) : Type 0 where
  pub index : ℕ
  pub arbiter : ArbiterPart
  pub number : s.domain ≡ first + index
  pub at : slice_get arbiters index ≡ Some arbiter
  pub kind : s.kind ≡ arbiter.kind
  pub low : branches_before index arbiters ≤ branch
  pub high : branch < branches_before index arbiters + length arbiter.branches

-- each placement is one of an arbiter's
pub placement_of_arbiter : (first : ℕ) (arbiters : List ArbiterPart) (branch : ℕ) (s : Placement) → slice_get (placements_from first arbiters) branch ≡ Some s → ArbiterOf first arbiters branch s
placement_of_arbiter first [] branch s at = absurd (none_there at)
  where
    none_there : slice_get {X = Placement} [] branch ≡ Some s → ⊥
    none_there e = absurd cc
placement_of_arbiter first (arbiter ∷ arbiters) branch s at = by (nat_lt branch (length arbiter.branches)) refl (λ k later. placement_of_arbiter (first + 1) arbiters k s later)
  where
    by : (c : Bool) → nat_lt branch (length arbiter.branches) ≡ c → ((k : ℕ) → slice_get (placements_from (first + 1) arbiters) k ≡ Some s → ArbiterOf (first + 1) arbiters k s) → ArbiterOf first (arbiter ∷ arbiters) branch s
    by true e rest = record { index = 0; arbiter = arbiter; number = ap (λ (r : Placement). r.domain) is ∙ (let same : first ≡ first + 0 = omega arith in same); at = refl; kind = ap (λ (r : Placement). r.kind) is; low = omega arith; high = omega (arith, below) }
      where
        below : branch < length arbiter.branches
        below = grind (arith, nat_tests, e)

        found : (part : BranchPart) × (slice_get arbiter.branches branch ≡ Some part)
        found = get-some arbiter.branches branch below

        is : s ≡ record { domain = first; kind = arbiter.kind; branch = found.0 }
        is = inside s _ (sym at ∙ placement-here first arbiter arbiters branch found.0 found.1)
          where
            inside : (x y : Placement) → Some x ≡ Some y → x ≡ y
            inside x y same = cc
    by false e rest =
        let above : length arbiter.branches ≤ branch = grind (arith, nat_tests, e) in
        let there = rest (branch - length arbiter.branches) (sym (placement-later first arbiter arbiters branch above) ∙ at) in
        let number = there.number in
        let low = there.low in
        let high = there.high in
        record { index = suc there.index; arbiter = there.arbiter; number = omega (arith, number); at = there.at; kind = there.kind; low = omega (arith, above, low); high = omega (arith, above, high) }

pub no_less : (p : ℕ → Bool) (a b : ℕ) → p a ≡ false → p b ≡ false → p (min a b) ≡ false
no_less p a b fails other = by_test (nat_le a b) refl
  where
    by_test : (t : Bool) → nat_le a b ≡ t → p (min a b) ≡ false
    by_test true less = let below : a ≤ b = grind (arith, nat_tests, less) in let e : min a b ≡ a = omega arith in rw e fails
    by_test false more = let above : b ≤ a = grind (arith, nat_tests, more) in let e : min a b ≡ b = omega arith in rw e other

-- the least is none above the first
pub least-low : (least : ℕ) (numbers : List ℕ) → least_with least numbers ≤ least
least-low least [] = omega arith
least-low least (number ∷ numbers) = omega (arith, least-low (min least number) numbers)

-- what none of the numbers passes, the least doesn't
pub least_fails : (p : ℕ → Bool) (least : ℕ) (numbers : List ℕ) → p least ≡ false → list_any p numbers ≡ false → p (least_with least numbers) ≡ false
least_fails p least [] fails none = fails
least_fails p least (number ∷ numbers) fails none =
    let both = neither (p number) (list_any p numbers) none in
    least_fails p (min least number) numbers (no_less p least number fails both.0) both.1

-- what none of the numbers passes, a number among them doesn't
pub member_fails : (p : ℕ → Bool) (numbers : List ℕ) (number : ℕ) → has_number numbers number ≡ true → list_any p numbers ≡ false → p number ≡ false
member_fails p numbers number there none = refuted (p number) (λ is. no_both there (none_narrower (λ n. n == number) p numbers (λ n same. ap p (same_number n number same) ∙ is) none))

interleave_kind : (kind : Kind) → not (is_interleave kind) ≡ false → kind ≡ kinds.Interleave
interleave_kind kinds.Interleave fails = refl
interleave_kind kinds.Receive fails = absurd cc
interleave_kind kinds.Choice fails = absurd cc

-- what is an Interleave's number has its kind
kind_at : (found : Option ArbiterPart) → option_map_or (λ (arbiter : ArbiterPart). not (is_interleave arbiter.kind)) found true ≡ false → IsSomeAnd found (λ (arbiter : ArbiterPart). arbiter.kind ≡ kinds.Interleave)
kind_at None fails = absurd cc
kind_at (Some arbiter) fails = interleave_kind arbiter.kind fails

other_kind : (found : Option ArbiterPart) (kind : Kind) → kind ≡ kinds.Interleave → IsSomeAnd found (λ (arbiter : ArbiterPart). arbiter.kind ≡ kinds.Interleave) → IsSomeAnd found (λ (arbiter : ArbiterPart). arbiter.kind ≡ kind)
other_kind None kind is found = found
other_kind (Some arbiter) kind is found = found ∙ sym is

-- the domain of an arbiter is the number of one of its kind
domain_kind : (parts : Parts) (number : ℕ) (arbiter : ArbiterPart) (domains : List DomainPart) → list_any (domain_is_dangling parts) domains ≡ false → slice_get parts.arbiters number ≡ Some arbiter
    → IsSomeAnd (slice_get parts.arbiters (domain_of domains number)) (λ (other : ArbiterPart). other.kind ≡ arbiter.kind)
domain_kind parts number arbiter [] none at = rw at refl
domain_kind parts number arbiter (domain ∷ domains) none at =
    let both = neither (domain_is_dangling parts domain) (list_any (domain_is_dangling parts) domains) none in
    by_test (has_number domain.members number) refl both.0 (domain_kind parts number arbiter domains both.1 at)
  where
    by_test : (t : Bool) → has_number domain.members number ≡ t → domain_is_dangling parts domain ≡ false
        → IsSomeAnd (slice_get parts.arbiters (domain_of domains number)) (λ (other : ArbiterPart). other.kind ≡ arbiter.kind)
        → IsSomeAnd (slice_get parts.arbiters (domain_of (domain ∷ domains) number)) (λ (other : ArbiterPart). other.kind ≡ arbiter.kind)
    by_test false apart fine rest = rw apart rest
    by_test true there fine rest =
        let own = member_fails (no_interleave parts) domain.members number there fine in
        let least = least_fails (no_interleave parts) number domain.members own fine in
        let kind : arbiter.kind ≡ kinds.Interleave = subst (λ (found : Option ArbiterPart). IsSomeAnd found (λ (other : ArbiterPart). other.kind ≡ kinds.Interleave)) at (kind_at (slice_get parts.arbiters number) own) in
        rw there (other_kind (slice_get parts.arbiters (least_with number domain.members)) arbiter.kind kind (kind_at (slice_get parts.arbiters (least_with number domain.members)) least))

-- each branch's domain is the number of an arbiter of the kind of its own
pub kept_domain : (parts : Parts) (branch : ℕ) (s : Placement) → has_dangling_domain parts ≡ false → placement parts branch ≡ Some s → IsSomeAnd (slice_get parts.arbiters s.domain) (λ (arbiter : ArbiterPart). arbiter.kind ≡ s.kind)
kept_domain parts branch s none at = of_own (slice_get (placements_from 0 parts.arbiters) branch) refl (sym (slice_get-map (in_domain parts.domains) (placements_from 0 parts.arbiters) branch) ∙ at)
  where
    of_own : (found : Option Placement) → slice_get (placements_from 0 parts.arbiters) branch ≡ found → option_map (in_domain parts.domains) found ≡ Some s → IsSomeAnd (slice_get parts.arbiters s.domain) (λ (arbiter : ArbiterPart). arbiter.kind ≡ s.kind)
    of_own None found is = absurd cc
    of_own (Some own) found is =
        let p = placement_of_arbiter 0 parts.arbiters branch own found in
        let number : own.domain ≡ p.index = omega (arith, p.number) in
        let there : slice_get parts.arbiters own.domain ≡ Some p.arbiter = ap (slice_get parts.arbiters) number ∙ p.at in
        let kept : IsSomeAnd (slice_get parts.arbiters (domain_of parts.domains own.domain)) (λ (arbiter : ArbiterPart). arbiter.kind ≡ p.arbiter.kind) = domain_kind parts own.domain p.arbiter parts.domains none there in
        let same : in_domain parts.domains own ≡ s = cc in
        let kept' : IsSomeAnd (slice_get parts.arbiters (domain_of parts.domains own.domain)) (λ (arbiter : ArbiterPart). arbiter.kind ≡ own.kind) = rw p.kind kept in
        subst (λ (x : Placement). IsSomeAnd (slice_get parts.arbiters x.domain) (λ (arbiter : ArbiterPart). arbiter.kind ≡ x.kind)) same kept'
