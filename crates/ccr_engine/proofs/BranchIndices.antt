-- The indices of the branches, list by list and one by one.
use Rattle.std.proofs.Common.{◌≡◌, ℕ, suc, ◌+◌, ◌<◌, List, [], ◌∷◌, ◌++◌, length, take, Some, refl, ap, arith, length-take-le}
use Rattle.std.specs.List.{slice_get}
use Rattle.std.proofs.Math.ListN.{get_or}
use Rattle.ccr_base.specs.declared.names.Spot.{Spot}
use Rattle.ccr_base.specs.declared.names.Spot.TheVariants.{Branch, Site}
use Rattle.ccr_base.proofs.Options.{some-below}
use Rattle.ccr_base.proofs.Lists.{take_more}
use Rattle.ccr_engine.specs.Indices.{branch_indices}
use Rattle.ccr_engine.proofs.Gaining.{read}

pub indices_append : (xs ys : List Spot) (p : ℕ) → branch_indices p (xs ++ ys) ≡ branch_indices p xs ++ branch_indices (p + length xs) ys
indices_append [] ys p = let e : p ≡ p + 0 = omega arith in ap (λ q. branch_indices q ys) e
indices_append (Branch b ∷ xs) ys p = let e : p + 1 + length xs ≡ p + suc (length xs) = omega arith in rw (← e) (ap (λ ns. p ∷ ns) (indices_append xs ys (p + 1)))
indices_append (Site b k ∷ xs) ys p = let e : p + 1 + length xs ≡ p + suc (length xs) = omega arith in rw (← e) (indices_append xs ys (p + 1))

indices_more : (ss : List Spot) (i : ℕ) (x : Spot) → slice_get ss i ≡ Some x → branch_indices 0 (take (i + 1) ss) ≡ branch_indices 0 (take i ss) ++ branch_indices i (x ∷ [])
indices_more ss i x at =
    let count : 0 + length (take i ss) ≡ i = omega (arith, length-take-le i ss (omega (arith, some-below ss i x at))) in
    rw (take_more ss i x at, indices_append (take i ss) (x ∷ []) 0, count) refl

-- the indices so far, when one more spot is noted
pub indices_next : (ss : List Spot) (i : ℕ) (d : Spot) (branches branches_now : List ℕ) → i < length ss → branches ≡ branch_indices 0 (take i ss) → branches_now ≡ branches ++ branch_indices i (get_or ss i d ∷ []) → branches_now ≡ branch_indices 0 (take (i + 1) ss)
indices_next ss i d branches branches_now low before now = rw (indices_more ss i (get_or ss i d) (read ss ss i d refl low), ← before) now
