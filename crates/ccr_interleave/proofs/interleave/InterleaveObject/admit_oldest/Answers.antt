use Rattle.std.proofs.Common.{◌∙◌, List, ap, refl, subst, map, arith}
use Rattle.ccr_base.specs.declared.tasks.Task.{Task}
use Rattle.ccr_places.specs.Interleaves.{is_concurrent}
use Rattle.ccr_interleave.specs.Replies.{waiting_of}
use Rattle.ccr_interleave.specs.Admissions.{Tied}
use Rattle.ccr_interleave.proofs.TableSteps.{shared-fired, alone-fired, admitted, sets_admitted}
use Rattle.ccr_interleave.proofs.interleave.InterleaveObject.admit_oldest.Goals as goal

pub prove-unreachable-requires : goal.prove-unreachable-requires
prove-unreachable-requires c = let le = shared-fired _ _ _ _ c.self.invariant in omega (arith, c.len-fired.ensures.len)

pub prove-unreachable-requires-2 : goal.prove-unreachable-requires-2
prove-unreachable-requires-2 c = let le = alone-fired _ _ _ _ c.self.invariant in omega (arith, c.len-fired.ensures.len)

pub invariant_of-self-2 : goal.invariant_of-self-2
invariant_of-self-2 c =
    let tied = subst (λ (items : List Task). Tied c.self.inside.fired.entries (map waiting_of items) c.self.inside.shared c.self.inside.alone) c.in_ok-task.ensures.items c.self.invariant in
    rw (c.shared_count.ensures, c.alone_count.ensures, c.admitted_as-admission.ensures)
    (admitted _ _ _ _ _ _ tied c.set_admission.ensures.unique c.is_concurrent-concurrent.result (rw (c.admitted_as-admission.ensures) at c.set_admission.ensures.updates.0))

pub returns-clause-state : goal.returns-clause-state
returns-clause-state c =
    let tied = subst (λ (items : List Task). Tied c.self.inside.fired.entries (map waiting_of items) c.self.inside.shared c.self.inside.alone) c.in_ok-task.ensures.items c.self.invariant in
    let sets = sets_admitted _ _ _ _ _ _ tied c.set_admission.ensures.unique c.is_concurrent-concurrent.result (rw (c.admitted_as-admission.ensures) at c.set_admission.ensures.updates.0) in
    let concurrent = c.is_concurrent-concurrent.ensures ∙ ap is_concurrent c.group_at.ensures in
    rw (← c.self.view_is, c.set_admission.ensures.keys, sets.0, sets.1, concurrent, c.in_ok-task.ensures.items) refl
