use Rattle.std.proofs.Common.{ap}
use Rattle.ccr_model.specs.Views.{placement_seen}
use Rattle.ccr_ledger.specs.Firing.{after_new}
use Rattle.ccr_ledger.proofs.ledger.Ledger.enter.Goals as goal

pub returns-clause-ok : goal.returns-clause-ok
returns-clause-ok c =
    rw (c.in-Ok.ensures.entries, c.in_ok-reserve.ensures.entries, c.in_default.ensures.ok, c.in_ok-add_one.ensures.ok)
    (ap (after_new c.args.task c.args.card (placement_seen c.args.placement)) c.self.view_is)
