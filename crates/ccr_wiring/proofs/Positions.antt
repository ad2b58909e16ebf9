-- Where the branch of a number stands among the arbiters.
use Rattle.std.proofs.Common.{◌≡◌, ℕ, zero, suc, ◌+◌, ◌-◌, ◌≤◌, ◌<◌, inl, inr, List, [], ◌∷◌, ◌++◌, length, Some, refl, ap, sym, ◌∙◌, length-append, arith}
use Rattle.std.specs.Option.{option_map, option_and_then}
use Rattle.std.specs.List.{slice_get}
use Rattle.std.proofs.lemmas.Option.{slice_get-map, slice_get_cases, slice_get_within}
use Rattle.std.proofs.lemmas.List.{length-map}
use Rattle.ccr_wiring.specs.declared.parts.ArbiterPart.{ArbiterPart}
use Rattle.ccr_wiring.specs.declared.parts.BranchPart.{BranchPart}
use Rattle.ccr_wiring.specs.declared.parts.DomainPart.{DomainPart}
use Rattle.ccr_wiring.specs.declared.parts.Parts.{Parts}
use Rattle.ccr_wiring.specs.declared.placements.Position.{Position}
use Rattle.ccr_wiring.specs.Domains.{domain_of}
use Rattle.ccr_wiring.specs.Placements.{positions_in, positions_from, positions, placement_among, placement_at}
use Rattle.ccr_wiring.specs.Wirings.{placement, placements_of, placements_from, in_domain}
use Rattle.ccr_base.proofs.Options.{get-left}

pub get-front : {X : Type 0} (xs ys : List X) (k : ℕ) (x : X) → slice_get xs k ≡ Some x → slice_get (xs ++ ys) k ≡ Some x
get-front xs ys k x is = get-left xs ys k (slice_get_within xs k x is) ∙ is

pub get-back : {X : Type 0} (xs ys : List X) (k : ℕ) → length xs ≤ k → slice_get (xs ++ ys) k ≡ slice_get ys (k - length xs)
get-back [] ys k past = let e : k - 0 ≡ k = omega arith in rw e refl
get-back (x ∷ xs) ys zero past = absurd (omega arith)
get-back (x ∷ xs) ys (suc k) past = let e : suc k - length (x ∷ xs) ≡ k - length xs = omega arith in rw e (get-back xs ys k (omega arith))

-- the branch is one of the first arbiter's
pub placement-here : (number : ℕ) (arbiter : ArbiterPart) (others : List ArbiterPart) (k : ℕ) (branch : BranchPart) → slice_get arbiter.branches k ≡ Some branch → slice_get (placements_from number (arbiter ∷ others)) k ≡ Some (record { domain = number; kind = arbiter.kind; branch = branch })
placement-here number arbiter others k branch is = get-front (placements_of number arbiter) (placements_from (number + 1) others) k _ (rw (slice_get-map _ arbiter.branches k, is) refl)

-- it is one of a later arbiter's
pub placement-later : (number : ℕ) (arbiter : ArbiterPart) (others : List ArbiterPart) (k : ℕ) → length arbiter.branches ≤ k → slice_get (placements_from number (arbiter ∷ others)) k ≡ slice_get (placements_from (number + 1) others) (k - length arbiter.branches)
placement-later number arbiter others k past =
    let long : length (placements_of number arbiter) ≡ length arbiter.branches = length-map arbiter.branches _ in
    get-back (placements_of number arbiter) (placements_from (number + 1) others) k (omega arith) ∙ rw long refl

-- a branch is the one of its number among the arbiters, in the domain of its arbiter
pub placement-domain : (w : Parts) (branch : ℕ) → option_map (in_domain w.domains) (slice_get (placements_from 0 w.arbiters) branch) ≡ placement w branch
placement-domain w branch = sym (slice_get-map (in_domain w.domains) (placements_from 0 w.arbiters) branch)

length-positions_in : (arbiter domain count : ℕ) → length (positions_in arbiter domain count) ≡ count
length-positions_in arbiter domain zero = refl
length-positions_in arbiter domain (suc count) =
    let last : List Position = record { arbiter = arbiter; domain = domain; branch = count } ∷ [] in
    let long = length-append (positions_in arbiter domain count) last in
    let fewer = length-positions_in arbiter domain count in
    omega (arith, long, fewer)

-- the position of each of an arbiter's branches
position_in : (arbiter domain count k : ℕ) → k < count → slice_get (positions_in arbiter domain count) k ≡ Some (record { arbiter = arbiter; domain = domain; branch = k })
position_in arbiter domain zero k below = absurd (omega arith)
position_in arbiter domain (suc count) k below =
    let fewer = length-positions_in arbiter domain count in
    let last : List Position = record { arbiter = arbiter; domain = domain; branch = count } ∷ [] in
    elim (slice_get_cases (positions_in arbiter domain count) k).1 [
      | inl here ↦ get-front (positions_in arbiter domain count) last k _ (position_in arbiter domain count k (omega (arith, fewer, here.1)))
      | inr past ↦
          let e : k ≡ count = omega (arith, fewer, past.0, below) in
          let z : k - length (positions_in arbiter domain count) ≡ 0 = omega (arith, fewer, e) in
          get-back (positions_in arbiter domain count) last k past.0 ∙ (ap (λ n. slice_get last n) z ∙ ap (λ n. Some (record { arbiter = arbiter; domain = domain; branch = n })) (sym e))
    ]

from_positions : (domains : List DomainPart) (number : ℕ) (arbiters all : List ArbiterPart) → ((k : ℕ) → slice_get all (number + k) ≡ slice_get arbiters k)
    → (branch : ℕ) → option_and_then (placement_at all) (slice_get (positions_from domains number arbiters) branch) ≡ option_map (in_domain domains) (slice_get (placements_from number arbiters) branch)
from_positions domains number [] all same branch = refl
from_positions domains number (arbiter ∷ arbiters) all same branch =
    let count = length arbiter.branches in
    let domain = domain_of domains number in
    let position : Position = record { arbiter = number; domain = domain; branch = branch } in
    let others = positions_from domains (number + 1) arbiters in
    let first : slice_get all number ≡ Some arbiter = let e : number ≡ number + 0 = omega arith in ap (λ n. slice_get all n) e ∙ same 0 in
    let later : (k : ℕ) → slice_get all ((number + 1) + k) ≡ slice_get arbiters k = λ k. let e : (number + 1) + k ≡ number + suc k = omega arith in ap (λ n. slice_get all n) e ∙ same (suc k) in
    elim (slice_get_cases arbiter.branches branch).1 [
      | inl here ↦
          ap (option_and_then (placement_at all)) (get-front (positions_in number domain count) others branch position (position_in number domain count branch here.1))
          ∙ (ap (option_and_then (placement_among position)) first
          ∙ (ap (option_map (λ (part : BranchPart). record { domain = domain; kind = arbiter.kind; branch = part })) here.2
          ∙ sym (ap (option_map (in_domain domains)) (placement-here number arbiter arbiters branch here.0 here.2))))
      | inr past ↦
          let long = length-positions_in number domain count in
          let back : slice_get (positions_in number domain count ++ others) branch ≡ slice_get others (branch - count) = get-back (positions_in number domain count) others branch (omega (arith, long, past.0)) ∙ ap (λ n. slice_get others (branch - n)) long in
          ap (option_and_then (placement_at all)) back
          ∙ (from_positions domains (number + 1) arbiters all later (branch - count)
          ∙ sym (ap (option_map (in_domain domains)) (placement-later number arbiter arbiters branch past.0)))
    ]

-- the branch at the position of its number
pub placement_at_position : (parts : Parts) (branch : ℕ) → option_and_then (placement_at parts.arbiters) (slice_get (positions parts) branch) ≡ placement parts branch
placement_at_position parts branch = from_positions parts.domains 0 parts.arbiters parts.arbiters (λ k. let e : 0 + k ≡ k = omega arith in rw e refl) branch ∙ placement-domain parts branch
