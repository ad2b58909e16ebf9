use Rattle.std.proofs.Common.{◌∙◌, sym, arith}
use Rattle.ccr_engine.proofs.PartSteps.{admit_stops, admit_ends}
use Rattle.ccr_engine.proofs.parts.first_admit.Goals as goal

pub returns-in-Some-admit_number-clause-event : goal.returns-in-Some-admit_number-clause-event
returns-in-Some-admit_number-clause-event c = admit_stops c.args.wiring.now c.args.ledger.now c.asking.domains c.in-Some.number c.admit_number.result c.in-Some-admit_number.event c.asking.invariant.0 (c.asking.invariant.1 c.in-Some.number (grind arith)) c.admit_number.ensures c.in-Some-admit_number.is

pub returns-clause-event : goal.returns-clause-event
returns-clause-event c = admit_ends c.args.wiring.now c.args.ledger.now c.asking.domains c.asking.invariant.0 (sym c.first.ensures ∙ c.in_default.is)
