use Rattle.ccr_ledger.proofs.held.HeldMessages.oldest_names.Goals as goal
use Rattle.ccr_model.proofs.MessageNames.{any_fits}

pub returns-clause-names : goal.returns-clause-names
returns-clause-names c = rw (any_fits c.args.self.now) at c.names.ensures.names
