use Rattle.std.proofs.Common.{take}
use Rattle.ccr_engine.specs.Desk.{Stands}
use Rattle.ccr_engine.proofs.resuming.desk_of.Given as goal

abbrev pub invariant-loop-event : goal.invariant-loop-event
invariant-loop-event l = Stands l.indices l.closer (take l.event-index l.events) l.desk
