use Rattle.std.proofs.Common.{arith}
use Rattle.std.proofs.lemmas.Grind.{common_steps}
use Rattle.ccr_ledger.proofs.Lefts.{left_after}
use Rattle.ccr_ledger.proofs.ports.take_slots.Goals as goal

pub loop-slot-preserved : goal.loop-slot-preserved
loop-slot-preserved c = record {
  ports = grind (arith, common_steps);
  left = left_after c.args.ports.now.items c.loop-slot.ports.items _ c.loop-slot.invariant.left c.in_ok-take_slot.ensures.left;
  taken = grind (arith, common_steps);
}
