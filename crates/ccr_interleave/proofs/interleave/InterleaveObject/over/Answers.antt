use Rattle.std.proofs.Common.{refl}
use Rattle.ccr_interleave.proofs.TableSteps.{admitted-there, shared-counted, alone-counted, over, sets_over}
use Rattle.ccr_interleave.proofs.interleave.InterleaveObject.over.Goals as goal

pub set_admission-admission-requires : goal.set_admission-admission-requires
set_admission-admission-requires c = admitted-there _ _ _ _ c.self.invariant c.args.root (rw (← c.self.view_is) at c.requires)

pub overflow_sub-self : goal.overflow_sub-self
overflow_sub-self c = rw (c.shared_count.ensures, c.set_admission-admission.ensures.before) (shared-counted _ _ _ _ c.self.invariant c.args.root)

pub overflow_sub-self-2 : goal.overflow_sub-self-2
overflow_sub-self-2 c = rw (c.alone_count.ensures, c.set_admission-admission.ensures.before) (alone-counted _ _ _ _ c.self.invariant c.args.root)

pub invariant_of-self : goal.invariant_of-self
invariant_of-self c =
    rw (c.shared_count.ensures, c.alone_count.ensures, c.set_admission-admission.ensures.before)
    (over _ _ _ _ _ c.self.invariant c.args.root c.set_admission-admission.ensures.unique c.set_admission-admission.ensures.updates.0)

pub returns-clause-state : goal.returns-clause-state
returns-clause-state c =
    let sets = sets_over _ _ _ _ _ c.self.invariant c.args.root c.set_admission-admission.ensures.unique c.set_admission-admission.ensures.updates.0 in
    rw (← c.self.view_is, c.set_admission-admission.ensures.keys, sets.0, sets.1) refl

pub returns-clause-step : goal.returns-clause-step
returns-clause-step c =
    let sets = sets_over _ _ _ _ _ c.self.invariant c.args.root c.set_admission-admission.ensures.unique c.set_admission-admission.ensures.updates.0 in
    rw (← c.self.view_is, c.set_admission-admission.ensures.keys, sets.0, sets.1) refl
