use Rattle.std.proofs.Common.{arith}
use Rattle.std.proofs.lemmas.Grind.{common_steps}
use Rattle.ccr_wiring.proofs.Soundness.{sound}
use Rattle.ccr_object.proofs.starting.all_places.Goals as goal

pub overflow_cast-as_slice : goal.overflow_cast-as_slice
overflow_cast-as_slice c =
    let few = (sound c.args.wiring.now c.parts-parts.ensures.valid).small.ports in
    grind (arith, common_steps, few, c.parts-parts.ensures.parts, c.as_slice.ensures)

pub overflow_cast-as_slice-2 : goal.overflow_cast-as_slice-2
overflow_cast-as_slice-2 c =
    let few = (sound c.args.wiring.now c.parts-parts.ensures.valid).small.arbiters in
    grind (arith, common_steps, few, c.parts-parts.ensures.parts, c.as_slice-2.ensures)

pub overflow_cast-as_slice-3 : goal.overflow_cast-as_slice-3
overflow_cast-as_slice-3 c =
    let few = (sound c.args.wiring.now c.parts-parts.ensures.valid).small.queues in
    grind (arith, common_steps, few, c.parts-parts.ensures.parts, c.as_slice-3.ensures)
