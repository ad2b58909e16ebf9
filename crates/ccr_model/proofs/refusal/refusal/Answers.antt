use Rattle.ccr_model.proofs.refusal.refusal.Goals as goal

pub returns-in-Start : goal.returns-in-Start
returns-in-Start c = rw c.in-Start.is c.refusal_of_start.ensures
