use Rattle.std.proofs.Common.{◌≡◌, ◌+◌, ◌∙◌, Bool, true, false, not, cond, is_some, List, refl, ap, subst, length, map, deque_capacity}
use Rattle.std.specs.Int.{from_bool}
use Rattle.ccr_queue.specs.declared.stage.QueuedTask.{QueuedTask}
use Rattle.ccr_queue.specs.QueueTies.{Tied, queued_of}
use Rattle.ccr_queue.proofs.TableSteps.{oldest-there, taken, sets_taken}
use Rattle.ccr_queue.proofs.queue.QueueObject.take.Goals as goal

as_cond : (b : Bool) → from_bool b ≡ cond b 1 0
as_cond true = refl
as_cond false = refl

pub invariant_of-self-2 : goal.invariant_of-self-2
invariant_of-self-2 c =
    let tied = subst (λ (items : List QueuedTask). Tied c.self.inside.stages.entries (map queued_of items) c.self.inside.fresh (deque_capacity c.self.inside.queued)) c.in_ok-task.ensures.items c.self.invariant in
    let there : is_some c.remove.result ≡ true = ap is_some c.remove.ensures.value ∙ oldest-there _ _ _ _ _ _ tied c.remove.ensures.unique c.remove.ensures.updates.0 in
    let len : length c.remove.new.self.entries + 1 ≡ length c.self.inside.stages.entries = rw there at c.remove.ensures.len in
    rw (c.pop_front.ensures.capacity, c.from.ensures ∙ as_cond (not c.in_ok-task.field-0.resumes)) (taken _ _ _ _ _ _ tied c.remove.ensures.unique c.remove.ensures.updates.0 len)

pub returns-clause-state : goal.returns-clause-state
returns-clause-state c =
    let tied = subst (λ (items : List QueuedTask). Tied c.self.inside.stages.entries (map queued_of items) c.self.inside.fresh (deque_capacity c.self.inside.queued)) c.in_ok-task.ensures.items c.self.invariant in
    let sets = sets_taken _ _ _ _ _ _ tied c.remove.ensures.unique c.remove.ensures.updates.0 in
    rw (← c.self.view_is, sets.0, sets.1, c.in_ok-task.ensures.items) refl

pub returns-clause-step : goal.returns-clause-step
returns-clause-step c =
    let tied = subst (λ (items : List QueuedTask). Tied c.self.inside.stages.entries (map queued_of items) c.self.inside.fresh (deque_capacity c.self.inside.queued)) c.in_ok-task.ensures.items c.self.invariant in
    let sets = sets_taken _ _ _ _ _ _ tied c.remove.ensures.unique c.remove.ensures.updates.0 in
    rw (← c.self.view_is, sets.0, sets.1, c.in_ok-task.ensures.items) refl
