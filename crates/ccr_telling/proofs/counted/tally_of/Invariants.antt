use Rattle.ccr_telling.proofs.NumbersAlongEvents.{IsAlong}
use Rattle.ccr_telling.proofs.counted.tally_of.Given as goal

abbrev pub invariant-loop-event : goal.invariant-loop-event
invariant-loop-event l = IsAlong l.ports l.indices l.queues l.ledger l.events l.event-index l.tally
