use Rattle.std.proofs.Common.{◌≡◌, ◌∙◌, false, sym, ap, is_some, true≢false, arith, length}
use Rattle.std.proofs.lemmas.List.{map-append, length-map}
use Rattle.std.specs.Option.{option_map_or}
use Rattle.ccr_places.specs.TaskTables.{contains-tasks_where}
use Rattle.ccr_queue.specs.QueueTies.{queued_of, is_resuming}
use Rattle.ccr_queue.proofs.TableSteps.{booked-stage, place-left, put_last, sets_put}
use Rattle.ccr_queue.proofs.queue.QueueObject.push.Goals as goal

pub unreachable-requires : goal.unreachable-requires
unreachable-requires c =
    let booking = booked-stage _ _ _ _ c.self.invariant c.args.task.id (rw (← c.self.view_is) at c.requires) in
    true≢false (sym booking.there ∙ ap is_some c.in_default.ensures.absent)

pub push_back_reserved-requires : goal.push_back_reserved-requires
push_back_reserved-requires c =
    let left = place-left _ _ _ _ c.self.invariant c.args.task.id (rw (← c.self.view_is) at c.requires) in
    omega (arith, length-map c.self.inside.queued.items queued_of)

pub invariant_of-self : goal.invariant_of-self
invariant_of-self c =
    let booking = booked-stage _ _ _ _ c.self.invariant c.args.task.id (rw (← c.self.view_is) at c.requires) in
    let len = rw (c.in-Ok.ensures.old, booking.there) at c.in-Ok.ensures.len in
    let same_len : length c.insert.new.self.entries ≡ length c.self.inside.stages.entries = omega (arith, len) in
    let same = c.is_resuming-resumes.ensures ∙ ap (λ k. option_map_or is_resuming k false) c.in-Ok.ensures.old in
    rw (c.push_back_reserved.ensures.items, map-append queued_of c.self.inside.queued.items, c.push_back_reserved.ensures.capacity)
    (put_last _ _ _ _ _ c.self.invariant c.args.task.id booking c.in-Ok.ensures.unique c.in-Ok.ensures.updates.0 _ same same_len)

pub returns : goal.returns
returns c =
    let booking = booked-stage _ _ _ _ c.self.invariant c.args.task.id (rw (← c.self.view_is) at c.requires) in
    let same = c.is_resuming-resumes.ensures ∙ ap (λ k. option_map_or is_resuming k false) c.in-Ok.ensures.old ∙ sym (contains-tasks_where is_resuming c.self.inside.stages.entries c.self.invariant.distinct c.args.task.id) in
    let sets = sets_put _ _ _ _ _ c.self.invariant c.args.task.id booking c.in-Ok.ensures.unique c.in-Ok.ensures.updates.0 in
    rw (← c.self.view_is, c.push_back_reserved.ensures.items, map-append queued_of c.self.inside.queued.items, sets.0, sets.1, same) (simp map-append)
