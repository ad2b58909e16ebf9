use Rattle.std.proofs.Common.{ap, length, arith}
use Rattle.ccr_object.proofs.FewSpotsAndPlaces.{few_members}
use Rattle.ccr_object.proofs.starting.count_of.Goals as goal

pub overflow_cast-result : goal.overflow_cast-result
overflow_cast-result c =
    let few = few_members c.args.wiring.now c.args.domain c.parts-valid.ensures.valid in
    let all = ap length c.requires in
    omega (arith, few, all)
