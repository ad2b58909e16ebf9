use Rattle.ccr_wiring.proofs.Noted.{slot_next}
use Rattle.ccr_wiring.proofs.takers.note_slots.Goals as goal

pub loop-slot-preserved : goal.loop-slot-preserved
loop-slot-preserved c = slot_next c.args.slots.now c.loop-slot.slot-index _ c.args.spot c.args.lists.now c.loop-slot.lists c.note.new.lists c.requires c.loop-slot-test.true c.loop-slot.invariant c.in_ok-note.ensures
