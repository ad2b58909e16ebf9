-- The spots of branches.
use Rattle.std.proofs.Common.{◌≡◌, ℕ, zero, suc, ◌+◌, ◌<◌, get_or, drop, List, [], ◌∷◌, ◌++◌, length, sum, map, refl, ap, sym, ◌∙◌, append_assoc, length-append, arith}
use Rattle.std.proofs.lemmas.List.{length-map}
use Rattle.std.proofs.lemmas.List.Concat.{flat_map-cons}
use Rattle.std.proofs.lemmas.List.Sums.{sum_by-cons}
use Rattle.ccr_base.specs.declared.names.Spot.{Spot}
use Rattle.ccr_base.specs.declared.names.Spot.TheVariants.{Branch}
use Rattle.ccr_base.proofs.Lists.{map_twice}
use Rattle.ccr_wiring.specs.declared.parts.ArbiterPart.{ArbiterPart}
use Rattle.ccr_wiring.specs.declared.parts.BranchPart.{BranchPart}
use Rattle.ccr_wiring.specs.declared.parts.Kind.{Kind}
use Rattle.ccr_wiring.specs.declared.parts.Parts.{Parts}
use Rattle.ccr_wiring.specs.declared.parts.DomainPart.{DomainPart}
use Rattle.ccr_wiring.specs.Wirings.{Placement, placements, placements_from, spots, spots_from, sites_from, awaited, actions_of, in_domain}
use Rattle.ccr_wiring.specs.Spots.{branch_spots, all_branches}

abbrev placement_branches : List Placement → List BranchPart
placement_branches placements = map (λ (s : Placement). s.branch) placements

spots_by_branch : (parts : Parts) (number : ℕ) (ss : List Placement) → spots_from parts number ss ≡ branch_spots parts number (placement_branches ss)
spots_by_branch parts number [] = refl
spots_by_branch parts number (s ∷ ss) = ap (λ (rest : List Spot). (Branch number ∷ sites_from number 0 (awaited (actions_of parts s.branch.handler))) ++ rest) (spots_by_branch parts (number + 1) ss)

placements_branches : (arbiter : ℕ) (kind : Kind) (branches : List BranchPart) (rest : List Placement) → placement_branches (map (λ branch. record { domain = arbiter; kind = kind; branch = branch }) branches ++ rest) ≡ branches ++ placement_branches rest
placements_branches arbiter kind [] rest = refl
placements_branches arbiter kind (branch ∷ branches) rest = ap (λ (bs : List BranchPart). branch ∷ bs) (placements_branches arbiter kind branches rest)

all_placement_branches : (number : ℕ) (arbiters : List ArbiterPart) → placement_branches (placements_from number arbiters) ≡ all_branches arbiters
all_placement_branches number [] = refl
all_placement_branches number (arbiter ∷ arbiters) =
    placements_branches number arbiter.kind arbiter.branches (placements_from (number + 1) arbiters)
    ∙ (ap (λ (bs : List BranchPart). arbiter.branches ++ bs) (all_placement_branches (number + 1) arbiters) ∙ sym (flat_map-cons (λ (a : ArbiterPart). a.branches) arbiter arbiters))

domain_branches : (domains : List DomainPart) (ss : List Placement) → placement_branches (map (in_domain domains) ss) ≡ placement_branches ss
domain_branches domains ss = map_twice (λ (s : Placement). s.branch) (in_domain domains) ss

-- the branches of all placements
all_branches_with_placement : (parts : Parts) → placement_branches (placements parts) ≡ all_branches parts.arbiters
all_branches_with_placement parts = domain_branches parts.domains (placements_from 0 parts.arbiters) ∙ all_placement_branches 0 parts.arbiters

-- the spots are those of all branches
pub spots_listed : (parts : Parts) → spots parts ≡ branch_spots parts 0 (all_branches parts.arbiters)
spots_listed parts = spots_by_branch parts 0 (placements parts) ∙ ap (λ (bs : List BranchPart). branch_spots parts 0 bs) (all_branches_with_placement parts)

-- the spots of some branches and those that follow
pub branch_spots-append : (parts : Parts) (number : ℕ) (xs ys : List BranchPart) → branch_spots parts number (xs ++ ys) ≡ branch_spots parts number xs ++ branch_spots parts (number + length xs) ys
branch_spots-append parts number [] ys = let e : number + 0 ≡ number = omega arith in rw e refl
branch_spots-append parts number (x ∷ xs) ys =
    let first = Branch number ∷ sites_from number 0 (awaited (actions_of parts x.handler)) in
    let e : (number + 1) + length xs ≡ number + length (x ∷ xs) = omega arith in
    let rest : branch_spots parts (number + 1) (xs ++ ys) ≡ branch_spots parts (number + 1) xs ++ branch_spots parts (number + length (x ∷ xs)) ys = branch_spots-append parts (number + 1) xs ys ∙ ap (λ n. branch_spots parts (number + 1) xs ++ branch_spots parts n ys) e in
    ap (λ (t : List Spot). first ++ t) rest ∙ sym (append_assoc first (branch_spots parts (number + 1) xs) (branch_spots parts (number + length (x ∷ xs)) ys))

-- the branches of one arbiter and of those that follow
pub all_branches-cons : (arbiter : ArbiterPart) (arbiters : List ArbiterPart) → all_branches (arbiter ∷ arbiters) ≡ arbiter.branches ++ all_branches arbiters
all_branches-cons arbiter arbiters = flat_map-cons (λ (a : ArbiterPart). a.branches) arbiter arbiters

-- the branches from an index on
all_drop_suc : (arbiters : List ArbiterPart) (i : ℕ) (arbiter : ArbiterPart) → i < length arbiters → arbiter ≡ get_or arbiters i arbiter → all_branches (drop i arbiters) ≡ arbiter.branches ++ all_branches (drop (suc i) arbiters)
all_drop_suc [] i arbiter below is = absurd (omega arith)
all_drop_suc (first ∷ arbiters) zero arbiter below is = all_branches-cons first arbiters ∙ ap (λ (a : ArbiterPart). a.branches ++ all_branches arbiters) (sym is)
all_drop_suc (first ∷ arbiters) (suc i) arbiter below is = all_drop_suc arbiters i arbiter (omega arith) is

pub all_drop : (arbiters : List ArbiterPart) (i : ℕ) (arbiter : ArbiterPart) → i < length arbiters → arbiter ≡ get_or arbiters i arbiter → all_branches (drop i arbiters) ≡ arbiter.branches ++ all_branches (drop (i + 1) arbiters)
all_drop arbiters i arbiter below is = let e : i + 1 ≡ suc i = omega arith in rw e (all_drop_suc arbiters i arbiter below is)

-- the spots so far and those of the arbiters that are left are all, and so are the branches by number
abbrev pub SpotsLeft : Parts → List ArbiterPart → List ArbiterPart → ℕ → List Spot → List Spot → Type 0
SpotsLeft parts all left number before now =
    (now ++ branch_spots parts number (all_branches left) ≡ before ++ branch_spots parts 0 (all_branches all))
    × (number + length (all_branches left) ≡ length (all_branches all))

-- one arbiter's spots are listed, and those that follow stay
pub spots_next : (parts : Parts) (number : ℕ) (front whole : List Spot) (branches rest : List BranchPart) → front ++ branch_spots parts number (branches ++ rest) ≡ whole → (front ++ branch_spots parts number branches) ++ branch_spots parts (number + length branches) rest ≡ whole
spots_next parts number front whole branches rest all =
    append_assoc front (branch_spots parts number branches) (branch_spots parts (number + length branches) rest)
    ∙ (ap (λ (t : List Spot). front ++ t) (sym (branch_spots-append parts number branches rest)) ∙ all)

pub length-all_branches : (arbiters : List ArbiterPart) → length (all_branches arbiters) ≡ sum (map (λ (a : ArbiterPart). length a.branches) arbiters)
length-all_branches [] = refl
length-all_branches (arbiter ∷ arbiters) =
    ap length (all_branches-cons arbiter arbiters)
    ∙ (length-append arbiter.branches (all_branches arbiters)
    ∙ (ap (λ n. length arbiter.branches + n) (length-all_branches arbiters)
    ∙ sym (sum_by-cons (λ (n : ℕ). n) (length arbiter.branches) (map (λ (a : ArbiterPart). length a.branches) arbiters))))

-- there are as many placements as branches
pub length-placements : (parts : Parts) → length (placements parts) ≡ length (all_branches parts.arbiters)
length-placements parts = sym (length-map (placements parts) (λ (s : Placement). s.branch)) ∙ ap length (all_branches_with_placement parts)
