use Rattle.std.proofs.Common.{◌∙◌}
use Rattle.ccr_ledger.proofs.Taking.{shared-told}
use Rattle.ccr_ledger.proofs.held.HeldMessages.shared.Goals as goal

pub returns-clause-shared : goal.returns-clause-shared
returns-clause-shared c = c.count_shared.ensures.count ∙ shared-told c.args.self.now c.args.names.now _ (c.deref.ensures.value ∙ c.in_ok-oldest.ensures.names)
