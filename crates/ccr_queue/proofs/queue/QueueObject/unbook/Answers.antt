use Rattle.std.proofs.Common.{◌≡◌, ◌+◌, refl, length}
use Rattle.ccr_queue.proofs.TableSteps.{booked-stage, fresh-counted, unbooked, sets_unbooked}
use Rattle.ccr_queue.proofs.queue.QueueObject.unbook.Goals as goal

pub overflow_sub-self : goal.overflow_sub-self
overflow_sub-self c = rw (c.fresh_count.ensures, c.remove-stage.ensures.value) (fresh-counted _ _ _ _ c.self.invariant c.args.t)

pub invariant_of-self : goal.invariant_of-self
invariant_of-self c =
    let booking = booked-stage _ _ _ _ c.self.invariant c.args.t (rw (← c.self.view_is) at c.requires) in
    let len : length c.remove-stage.new.self.entries + 1 ≡ length c.self.inside.stages.entries = rw (c.remove-stage.ensures.value, booking.there) at c.remove-stage.ensures.len in
    rw (c.fresh_count.ensures, c.remove-stage.ensures.value)
    (unbooked _ _ _ _ _ c.self.invariant c.args.t booking c.remove-stage.ensures.unique c.remove-stage.ensures.updates.0 len)

pub returns-clause-state : goal.returns-clause-state
returns-clause-state c =
    let booking = booked-stage _ _ _ _ c.self.invariant c.args.t (rw (← c.self.view_is) at c.requires) in
    let sets = sets_unbooked _ _ _ _ _ c.self.invariant c.args.t booking c.remove-stage.ensures.unique c.remove-stage.ensures.updates.0 in
    rw (← c.self.view_is, sets.0, sets.1) refl

pub returns-clause-step : goal.returns-clause-step
returns-clause-step c =
    let booking = booked-stage _ _ _ _ c.self.invariant c.args.t (rw (← c.self.view_is) at c.requires) in
    let sets = sets_unbooked _ _ _ _ _ c.self.invariant c.args.t booking c.remove-stage.ensures.unique c.remove-stage.ensures.updates.0 in
    rw (← c.self.view_is, sets.0, sets.1) refl
