use Rattle.ccr_rests.proofs.RootsOnce.{root_before, root_domain, root_later, root_once}
use Rattle.ccr_rests.proofs.ends.roots_are_noted_over_once.Goals as goal

pub returns-clause-domain : goal.returns-clause-domain
returns-clause-domain c = λ here r is. root_domain here.wiring here.workers here.lacks here.valid here.few here.past here.entry here.more here.steps r is

pub returns-clause-once : goal.returns-clause-once
returns-clause-once c = λ here i r is. root_once here.wiring here.workers here.lacks here.valid here.few here.past here.entry here.more here.steps i r is

pub returns-clause-before : goal.returns-clause-before
returns-clause-before c = λ here r has. root_before here.wiring here.workers here.lacks here.valid here.few here.past here.entry here.more here.steps r has

pub returns-clause-later : goal.returns-clause-later
returns-clause-later c = λ here r has. root_later here.wiring here.workers here.lacks here.valid here.few here.past here.entry here.more here.steps r has
