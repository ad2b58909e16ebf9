use Rattle.std.proofs.Common.{◌≡◌, ◌≤◌, List, length, ap, arith}
use Rattle.std.proofs.lemmas.Grind.{common_steps}
use Rattle.ccr_wiring.specs.declared.parts.QueuePart.{QueuePart}
use Rattle.ccr_wiring.proofs.Soundness.{sound}
use Rattle.ccr_actor.proofs.course.Course.round_begun.Goals as goal

pub take_from-requires-clause-queues : goal.take_from-requires-clause-queues
take_from-requires-clause-queues c =
    let w = c.args.self.now.wiring.now in
    let few : length w.queues ≤ 16 = (sound w c.parts.ensures.valid).small.queues in
    let are : c.as_slice-queues.result.now ≡ w.queues = grind (arith, common_steps) in
    let many = ap (λ (queues : List QueuePart). length queues) are in
    omega (arith, few, many)
