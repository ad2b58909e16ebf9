use Rattle.ccr_wiring.specs.Takers.{takes_from, is_for}
use Rattle.ccr_wiring.proofs.takers.all_takers.Goals as goal

pub note_spots-requires-clause-empty : goal.note_spots-requires-clause-empty
note_spots-requires-clause-empty c = record {
  by_port = rw (← c.as_slice.ensures) (c.in_ok-empty_lists.ensures (takes_from c.args.parts.now));
  by_queue = rw (← c.as_slice-2.ensures) (c.in_ok-empty_lists-2.ensures (is_for c.args.parts.now));
}
