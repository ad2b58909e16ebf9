use Rattle.ccr_laws.proofs.firings.tasks_fire_once.Goals as goal
use Rattle.ccr_model.proofs.TasksOnce.{fired_once}

pub returns : goal.returns
returns c = fired_once
