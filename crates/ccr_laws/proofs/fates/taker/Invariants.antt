use Rattle.std.proofs.Common.{◌≡◌, drop}
use Rattle.ccr_model.specs.Fates.{taker}
use Rattle.ccr_laws.proofs.fates.taker.Given as goal

abbrev pub invariant-loop-event : goal.invariant-loop-event
invariant-loop-event l = taker l.events l.name ≡ taker (drop l.event-index l.events) l.name
