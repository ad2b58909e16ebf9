use Rattle.ccr_commands.proofs.ToldAsTurns.{told_as_turns}
use Rattle.ccr_commands.proofs.laws.threaded_runs_are_scheduled.Goals as goal

pub returns : goal.returns
returns c = λ json wiring workers shed text some run. told_as_turns c.schedules_give_runs_again.ensures.again c.schedules_give_runs_again.ensures.actors json wiring workers shed text some run
