use Rattle.std.proofs.Common.{◌∙◌, ap, refl}
use Rattle.std.specs.Map.{keys_of}
use Rattle.std.proofs.lemmas.List.{map-append}
use Rattle.ccr_interleave.specs.Replies.{waiting_of}
use Rattle.ccr_interleave.proofs.TableSteps.{absent, keys-new, fired, sets_fired}
use Rattle.ccr_interleave.proofs.interleave.InterleaveObject.wait.Goals as goal

pub invariant_of-self-2 : goal.invariant_of-self-2
invariant_of-self-2 c =
    let none = absent c.self.inside.fired.entries c.args.task.id _ (rw (← c.self.view_is) at c.requires.new) in
    rw (c.push_back_reserved.ensures.items, map-append waiting_of c.reserve.new.self.items, c.in_ok-reserve.ensures.items)
    (fired _ _ _ _ _ c.self.invariant c.args.task.id none c.in_ok-insert.ensures.unique c.in_ok-insert.ensures.updates.0 c.args.task.spot)

pub returns-clause-state : goal.returns-clause-state
returns-clause-state c =
    let none = absent c.self.inside.fired.entries c.args.task.id _ (rw (← c.self.view_is) at c.requires.new) in
    let sets = sets_fired _ _ _ _ _ c.self.invariant c.args.task.id none c.in_ok-insert.ensures.unique c.in_ok-insert.ensures.updates.0 in
    let names = ap keys_of c.in_ok-insert.ensures.entries ∙ keys-new c.self.inside.fired.entries c.args.task.id _ none in
    rw (c.requires.group, ← c.self.view_is, c.push_back_reserved.ensures.items, map-append waiting_of c.reserve.new.self.items, c.in_ok-reserve.ensures.items, names, sets.0, sets.1) refl
