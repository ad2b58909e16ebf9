use Rattle.std.proofs.Common.{take}
use Rattle.ccr_engine.specs.Numbered.{Gains}
use Rattle.ccr_engine.proofs.TakingSpots.{stands_at}
use Rattle.ccr_engine.proofs.touched.note_takers.Given as goal

abbrev pub invariant-loop-spot : goal.invariant-loop-spot
invariant-loop-spot l = Gains (stands_at l.indices (take l.spot-index l.takers)) l.fn.touched l.touched
