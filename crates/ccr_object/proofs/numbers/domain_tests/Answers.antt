use Rattle.std.proofs.Common.{arith}
use Rattle.std.proofs.lemmas.Grind.{common_steps}
use Rattle.ccr_wiring.proofs.Soundness.{sound}
use Rattle.ccr_object.proofs.numbers.domain_tests.Goals as goal

pub overflow_cast-count : goal.overflow_cast-count
overflow_cast-count c =
    let few = (sound c.args.wiring.now c.parts.ensures.valid).small.arbiters in
    grind (arith, common_steps, few, c.parts.ensures.parts, c.as_slice.ensures)
