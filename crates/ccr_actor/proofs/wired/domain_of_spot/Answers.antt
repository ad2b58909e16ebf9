use Rattle.std.proofs.Common.{◌≡◌, ◌<◌, ◌≤◌, ℕ, List, length, Option, Some, None, refl, arith}
use Rattle.std.specs.Prelude.{IsSomeAnd}
use Rattle.std.specs.List.{slice_get}
use Rattle.std.proofs.lemmas.Grind.{common_steps}
use Rattle.std.proofs.lemmas.Option.{slice_get_within}
use Rattle.ccr_wiring.specs.Placements.{placement_seen}
use Rattle.ccr_wiring.specs.Wirings.{placement, branch_of}
use Rattle.ccr_wiring.proofs.Soundness.{sound}
use Rattle.ccr_actor.proofs.wired.domain_of_spot.Goals as goal

within : {A : Type 0} (xs : List A) (k : ℕ) (P : A → Type 0) (o : Option A) → slice_get xs k ≡ o → IsSomeAnd o P → k < length xs
within xs k P None is some = absurd some
within xs k P (Some x) is some = slice_get_within xs k x is

pub overflow_cast-result : goal.overflow_cast-result
overflow_cast-result c =
    let w = c.args.wiring.now in
    let all = sound w c.parts-valid.ensures.valid in
    let few : length w.arbiters ≤ 256 = all.small.arbiters in
    let s = placement_seen c.in-Some.placement in
    let at : placement w (branch_of c.args.spot) ≡ Some s = grind (arith, common_steps, c.placement.ensures.placement, c.in-Some.is, c.branch_of.ensures) in
    omega (arith, few, within w.arbiters s.domain _ (slice_get w.arbiters s.domain) refl (all.domains (branch_of c.args.spot) s at))
