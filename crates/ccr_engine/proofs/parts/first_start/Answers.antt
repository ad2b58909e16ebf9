use Rattle.std.proofs.Common.{◌∙◌, sym, arith}
use Rattle.ccr_engine.proofs.PartSteps.{start_stops, start_ends}
use Rattle.ccr_engine.proofs.parts.first_start.Goals as goal

pub returns-in-Some-start_number-clause-event : goal.returns-in-Some-start_number-clause-event
returns-in-Some-start_number-clause-event c = start_stops c.args.wiring.now c.args.closer c.args.ledger.now c.asking.queues c.in-Some.number c.start_number.result c.in-Some-start_number.event c.asking.invariant.0 (c.asking.invariant.1 c.in-Some.number (grind arith)) c.start_number.ensures c.in-Some-start_number.is

pub returns-clause-event : goal.returns-clause-event
returns-clause-event c = start_ends c.args.wiring.now c.args.closer c.args.ledger.now c.asking.queues c.asking.invariant.0 (sym c.first.ensures ∙ c.in_default.is)
