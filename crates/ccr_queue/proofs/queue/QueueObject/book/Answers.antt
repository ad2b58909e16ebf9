use Rattle.std.proofs.Common.{◌≡◌, ◌+◌, None, refl, ◌∙◌, arith, length}
use Rattle.ccr_places.specs.TaskTables.{kept_of}
use Rattle.ccr_queue.specs.declared.stage.QueueStage.TheVariants.{Fresh, Resuming}
use Rattle.ccr_queue.proofs.TableSteps.{absent, booked, fresh_booked, resuming_booked}
use Rattle.ccr_queue.proofs.queue.QueueObject.book.Goals as goal

pub invariant_of-self-in_ok-insert : goal.invariant_of-self-in_ok-insert
invariant_of-self-in_ok-insert c =
    let none : kept_of c.self-2.inside.stages.entries c.args.t ≡ None = absent _ _ _ _ c.self-2.invariant c.args.t (rw (← c.self-2.view_is) at c.requires) in
    let len : length c.insert.new.self.entries ≡ length c.self-2.inside.stages.entries + 1 = rw (c.in_ok-insert.ensures.old ∙ none) at c.in_ok-insert.ensures.len in
    rw (c.in_ok-reserve.ensures.items)
    (booked _ _ _ _ _ _ c.self-2.invariant c.args.t none c.in_ok-insert.ensures.unique Resuming c.in_ok-insert.ensures.updates.0 refl len (omega (arith, c.in_ok-reserve.ensures.ok, c.len.ensures.len, c.len-2.ensures)) _ (omega arith))

pub invariant_of-self-else-resumes : goal.invariant_of-self-else-resumes
invariant_of-self-else-resumes c =
    let none : kept_of c.self-2.inside.stages.entries c.args.t ≡ None = absent _ _ _ _ c.self-2.invariant c.args.t (rw (← c.self-2.view_is) at c.requires) in
    let len : length c.insert-else-resumes.new.self.entries ≡ length c.self-2.inside.stages.entries + 1 = rw (c.in_ok-insert-2.ensures.old ∙ none) at c.in_ok-insert-2.ensures.len in
    rw (c.in_ok-reserve.ensures.items)
    (booked _ _ _ _ _ _ c.self-2.invariant c.args.t none c.in_ok-insert-2.ensures.unique Fresh c.in_ok-insert-2.ensures.updates.0 refl len (omega (arith, c.in_ok-reserve.ensures.ok, c.len.ensures.len, c.len-2.ensures)) _ refl)

pub returns-in_ok-insert-clause-state : goal.returns-in_ok-insert-clause-state
returns-in_ok-insert-clause-state c =
    let none : kept_of c.self-2.inside.stages.entries c.args.t ≡ None = absent _ _ _ _ c.self-2.invariant c.args.t (rw (← c.self-2.view_is) at c.requires) in
    let sets = resuming_booked _ _ _ _ _ 0 c.self-2.invariant c.args.t none c.in_ok-insert.ensures.unique c.in_ok-insert.ensures.updates.0 in
    rw (c.if-resumes.true, ← c.self-2.view_is, c.in_ok-reserve.ensures.items, sets.0, sets.1) refl

pub returns-in_ok-insert-clause-step : goal.returns-in_ok-insert-clause-step
returns-in_ok-insert-clause-step c =
    let none : kept_of c.self-2.inside.stages.entries c.args.t ≡ None = absent _ _ _ _ c.self-2.invariant c.args.t (rw (← c.self-2.view_is) at c.requires) in
    let sets = resuming_booked _ _ _ _ _ 0 c.self-2.invariant c.args.t none c.in_ok-insert.ensures.unique c.in_ok-insert.ensures.updates.0 in
    rw (c.if-resumes.true, ← c.self-2.view_is, c.in_ok-reserve.ensures.items, sets.0, sets.1) refl

pub returns-in_ok-insert-2-clause-state : goal.returns-in_ok-insert-2-clause-state
returns-in_ok-insert-2-clause-state c =
    let none : kept_of c.self-2.inside.stages.entries c.args.t ≡ None = absent _ _ _ _ c.self-2.invariant c.args.t (rw (← c.self-2.view_is) at c.requires) in
    let sets = fresh_booked _ _ _ _ _ 0 c.self-2.invariant c.args.t none c.in_ok-insert-2.ensures.unique c.in_ok-insert-2.ensures.updates.0 in
    rw (c.if-resumes.false, ← c.self-2.view_is, c.in_ok-reserve.ensures.items, sets.0, sets.1) refl

pub returns-in_ok-insert-2-clause-step : goal.returns-in_ok-insert-2-clause-step
returns-in_ok-insert-2-clause-step c =
    let none : kept_of c.self-2.inside.stages.entries c.args.t ≡ None = absent _ _ _ _ c.self-2.invariant c.args.t (rw (← c.self-2.view_is) at c.requires) in
    let sets = fresh_booked _ _ _ _ _ 0 c.self-2.invariant c.args.t none c.in_ok-insert-2.ensures.unique c.in_ok-insert-2.ensures.updates.0 in
    rw (c.if-resumes.false, ← c.self-2.view_is, c.in_ok-reserve.ensures.items, sets.0, sets.1) refl
