use Rattle.std.proofs.Common.{take}
use Rattle.ccr_wiring.specs.Takers.{AreTaken}
use Rattle.ccr_wiring.proofs.takers.note_spots.Given as goal

abbrev pub invariant-loop-spot : goal.invariant-loop-spot
invariant-loop-spot l = AreTaken l.parts (take l.spot-index l.spots) l.takers.ports.items l.takers.queues.items
