use Rattle.std.proofs.Common.{length, Option, Some, subst}
use Rattle.ccr_engine.specs.declared.search.Found.{Found}
use Rattle.ccr_engine.specs.Candidates.{IsFirstOpen}
use Rattle.ccr_engine.proofs.Searching.{full_before, asked_all}
use Rattle.ccr_engine.proofs.search.first_fire.Goals as goal

pub returns-in_default-clause-event : goal.returns-in_default-clause-event
returns-in_default-clause-event c = asked_all c.args.wiring.now c.args.task c.args.ledger.now c.first_touched.result c.first_touched.ensures.event c.first_touched.ensures.none

pub first_touched-requires-2-clause-full : goal.first_touched-requires-2-clause-full
first_touched-requires-2-clause-full c = full_before c.args.wiring.now c.args.ledger.now c.args.blocked.now (Some c.in-Some.found) (subst (λ (o : Option Found). IsFirstOpen c.args.wiring.now c.args.ledger.now c.args.blocked.now (length c.args.blocked.now) o) c.in-Some.is c.first_open.ensures)
