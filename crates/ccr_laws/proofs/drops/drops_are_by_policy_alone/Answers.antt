use Rattle.ccr_laws.proofs.DroppingPuts.{dropped_unstarted, dropped_once, some_put}
use Rattle.ccr_laws.proofs.FullQueues.{drops_oldest}
use Rattle.ccr_laws.proofs.drops.drops_are_by_policy_alone.Goals as goal

pub returns-clause-never_started : goal.returns-clause-never_started
returns-clause-never_started c = dropped_unstarted

pub returns-clause-some_put : goal.returns-clause-some_put
returns-clause-some_put c = some_put

pub returns-clause-once : goal.returns-clause-once
returns-clause-once c = dropped_once

pub returns-clause-policy : goal.returns-clause-policy
returns-clause-policy c = drops_oldest
