use Rattle.ccr_ledger.proofs.Lanes.{front-told, names-of}
use Rattle.ccr_ledger.proofs.held.HeldMessages.add_names.Goals as goal

pub returns-clause-names : goal.returns-clause-names
returns-clause-names c =
    let told = front-told c.tidy_lane.new.lanes.items c.in_ok-number.number c.args.most c.index.result.now _ c.in_ok-number.ensures.found c.index.ensures in
    let items = c.self.inside.items.items in
    rw (← c.self.view_is, ← names-of items c.args.pred c.args.most) (rw (told, c.deref.ensures.value, c.deref-2.ensures.value) at c.add_first_names.ensures)
