use Rattle.ccr_actor.proofs.AnswersNeedMemory.{worker_begins}
use Rattle.ccr_actor.proofs.actor.Actor.worker.Goals as goal

pub returns-clause-ok : goal.returns-clause-ok
returns-clause-ok c = worker_begins c.begin.result c.args.wiring.now c.args.number c.requires c.begin.ensures.needs
