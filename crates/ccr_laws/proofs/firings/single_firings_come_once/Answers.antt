use Rattle.ccr_laws.proofs.SingleFirings.{choice_once, receiver_once, teardown_once}
use Rattle.ccr_laws.proofs.firings.single_firings_come_once.Goals as goal

pub returns-clause-choice : goal.returns-clause-choice
returns-clause-choice c = choice_once

pub returns-clause-once : goal.returns-clause-once
returns-clause-once c = receiver_once

pub returns-clause-teardown : goal.returns-clause-teardown
returns-clause-teardown c = teardown_once
