use Rattle.std.proofs.Common.{◌∙◌, ap}
use Rattle.std.specs.Prelude.{nat_le}
use Rattle.ccr_ledger.proofs.Lanes.{count-told}
use Rattle.ccr_ledger.proofs.held.HeldMessages.has.Goals as goal

pub returns-clause-enough : goal.returns-clause-enough
returns-clause-enough c =
    let count = count-told c.self.inside.items.items _ c.lane_for.new.lanes.items c.in_ok-number.number c.index.result.now c.args.pred
    c.deref.ensures.value c.in_ok-number.ensures.lanes c.in_ok-number.ensures.found c.index.ensures in
    rw (← c.self.view_is) (ap (nat_le c.args.least) (c.count.ensures ∙ count))
