use Rattle.ccr_rests.proofs.ClaimsOnce.{claim_ended, claim_once, claim_stands, own_claim}
use Rattle.ccr_rests.proofs.ends.claims_are_ended_by_their_own_attempts.Goals as goal

pub returns-clause-own : goal.returns-clause-own
returns-clause-own c = λ here p t is. own_claim here.wiring here.workers here.lacks here.valid here.few here.past here.entry here.more here.steps p t is

pub returns-clause-stands : goal.returns-clause-stands
returns-clause-stands c = λ here p t is. claim_stands here.wiring here.workers here.lacks here.valid here.few here.past here.entry here.more here.steps p t is

pub returns-clause-ended : goal.returns-clause-ended
returns-clause-ended c = λ here p t is. claim_ended here.wiring here.workers here.lacks here.valid here.few here.past here.entry here.more here.steps p t is

pub returns-clause-once : goal.returns-clause-once
returns-clause-once c = λ here p t is. claim_once here.wiring here.workers here.lacks here.valid here.few here.past here.entry here.more here.steps p t is
