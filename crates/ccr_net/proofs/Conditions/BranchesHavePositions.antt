-- Where a branch stands among those of its arbiter, and that the ports of an attempt's slots differ.
use Rattle.std.proofs.Common.{◌≡◌, ◌≤◌, ◌<◌, ℕ, ◌+◌, Bool, true, false, ◌&&◌, ◌||◌, List, [], ◌∷◌, length, Option, option_map, Some, None, refl, sym, arith, ap, ◌∙◌, subst}
use Rattle.std.specs.Prelude.{nat_lt, nat_le}
use Rattle.std.specs.List.{slice_get, list_any}
use Rattle.std.proofs.lemmas.Bool.Decides.{nat_tests}
use Rattle.ccr_base.specs.declared.names.Spot.TheVariants.{Branch}
use Rattle.ccr_wiring.specs.declared.parts.ArbiterPart.{ArbiterPart}
use Rattle.ccr_wiring.specs.declared.parts.BranchPart.{BranchPart}
use Rattle.ccr_wiring.specs.declared.parts.DomainPart.{DomainPart}
use Rattle.ccr_wiring.specs.declared.parts.Kind.{Kind}
use Rattle.ccr_wiring.specs.declared.parts.Kind.TheVariants as kinds
use Rattle.ccr_wiring.specs.declared.parts.Parts.{Parts}
use Rattle.ccr_wiring.specs.Domains.{domain_of}
use Rattle.ccr_wiring.specs.Groups.{is_interleave}
use Rattle.ccr_wiring.specs.References.{has_dangling_set, has_dangling_cause, has_dangling_handler, has_dangling_arbiter, has_dangling_poster, has_dangling_domain, domain_is_dangling, no_interleave}
use Rattle.ccr_wiring.specs.Valid.{IsValid}
use Rattle.ccr_wiring.specs.Wirings.{Placement, placement, placements_from, in_domain, branches_before}
use Rattle.ccr_wiring.proofs.Positions.{placement-domain}
use Rattle.ccr_wiring.proofs.DomainsOfOwnKind.{member_fails, ArbiterOf, placement_of_arbiter}
use Rattle.ccr_wiring.proofs.Validity.{no_codes, none_dangle}
use Rattle.ccr_base.proofs.Booleans.{neither, no_both}
use Rattle.ccr_base.proofs.Options.{some_is}
use Rattle.ccr_base.specs.Lists.{has_number}
use Rattle.ccr_places.specs.Arbiters as arbiters
use Rattle.ccr_runs.specs.Places.{arbiter_after, first_branch}
use Rattle.ccr_net.proofs.Kept.ValidWiringsArePlain.{one_branch}

-- ---- domains

-- what isn't an Interleave is combined with none
own_domain : (w : Parts) (number : ℕ) (part : ArbiterPart) (domains : List DomainPart) → list_any (domain_is_dangling w) domains ≡ false → slice_get w.arbiters number ≡ Some part → is_interleave part.kind ≡ false → domain_of domains number ≡ number
own_domain w number part [] none at out = refl
own_domain w number part (domain ∷ domains) none at out =
    let both = neither (domain_is_dangling w domain) (list_any (domain_is_dangling w) domains) none in
    by_test (has_number domain.members number) refl both.0 (own_domain w number part domains both.1 at out)
  where
    by_test : (t : Bool) → has_number domain.members number ≡ t → domain_is_dangling w domain ≡ false → domain_of domains number ≡ number → domain_of (domain ∷ domains) number ≡ number
    by_test false apart fine rest = rw apart rest
    by_test true there fine rest = absurd (no_both known (member_fails (no_interleave w) domain.members number there fine))
      where
        known : no_interleave w number ≡ true
        known = rw (at, out) refl

-- a branch is one of its receiver's or choice's
pub branch_position : (w : Parts) → IsValid w → (b : ℕ) (s : Placement) (part : ArbiterPart) → placement w b ≡ Some s → slice_get w.arbiters s.domain ≡ Some part → part.kind ≡ s.kind → is_interleave s.kind ≡ false → arbiters.has_spot (arbiter_after (first_branch w s.domain) part []) (Branch b) ≡ true
branch_position w valid b s part sits at kind_so outside = of_placement (slice_get (placements_from 0 w.arbiters) b) refl (placement-domain w b ∙ sits)
  where
    dangling : has_dangling_domain w ≡ false
    dangling = none_dangle w (no_codes w valid)

    of_placement : (o : Option Placement) → slice_get (placements_from 0 w.arbiters) b ≡ o → option_map (in_domain w.domains) o ≡ Some s → arbiters.has_spot (arbiter_after (first_branch w s.domain) part []) (Branch b) ≡ true
    of_placement None here is = absurd (cc)
    of_placement (Some r) here is = positioned s.kind refl
      where
        same : in_domain w.domains r ≡ s
        same = cc

        there : ArbiterOf 0 w.arbiters b r
        there = placement_of_arbiter 0 w.arbiters b r here

        raw : r.domain ≡ there.index
        raw = there.number ∙ (let e : 0 + there.index ≡ there.index = omega arith in e)

        free : is_interleave there.arbiter.kind ≡ false
        free = ap is_interleave (sym there.kind ∙ ap (λ (x : Placement). x.kind) same) ∙ outside

        number : s.domain ≡ there.index
        number = ap (λ (x : Placement). x.domain) (sym same) ∙ ap (domain_of w.domains) raw ∙ own_domain w there.index there.arbiter w.domains dangling there.at free

        part_so : there.arbiter ≡ part
        part_so = some_is (sym there.at ∙ ap (slice_get w.arbiters) (sym number) ∙ at)

        low : first_branch w s.domain ≤ b
        low = subst (λ k. branches_before k w.arbiters ≤ b) (sym number) there.low

        high : b < first_branch w s.domain + length part.branches
        high = subst (λ k. b < branches_before k w.arbiters + length part.branches) (sym number) (subst (λ (x : ArbiterPart). b < branches_before there.index w.arbiters + length x.branches) part_so there.high)

        within : (count : ℕ) → length part.branches ≡ count → nat_le (first_branch w s.domain) b && nat_lt b (first_branch w s.domain + count) ≡ true
        within count is' =
            let above : nat_le (first_branch w s.domain) b ≡ true = grind (arith, nat_tests, low) in
            let small : b < first_branch w s.domain + count = omega (arith, high, is') in
            let below : nat_lt b (first_branch w s.domain + count) ≡ true = grind (arith, nat_tests, small) in
            rw (above, below) refl

        positioned : (kind : Kind) → s.kind ≡ kind → arbiters.has_spot (arbiter_after (first_branch w s.domain) part []) (Branch b) ≡ true
        positioned kinds.Receive is' = let receives : part.kind ≡ kinds.Receive = kind_so ∙ is' in let found = one_branch w valid s.domain part at receives in rw receives (within 1 (ap (λ (bs : List BranchPart). length bs) found.1))
        positioned kinds.Choice is' = rw (kind_so ∙ is') (within (length part.branches) refl)
        positioned kinds.Interleave is' = absurd (let out = rw is' at outside in cc)
