use Rattle.ccr_ledger.proofs.Taking.{without-any}
use Rattle.ccr_ledger.proofs.held.HeldMessages.take_oldest.Goals as goal
use Rattle.ccr_model.proofs.MessageNames.{any_fits}

pub returns-clause-rest : goal.returns-clause-rest
returns-clause-rest c = rw (without-any c.args.count c.args.self.now) at c.take_some.ensures.rest

pub returns-clause-taken : goal.returns-clause-taken
returns-clause-taken c = rw (any_fits c.args.self.now) at c.take_some.ensures.taken
