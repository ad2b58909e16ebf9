use Rattle.ccr_commands.proofs.ReadAgain.{read_again}
use Rattle.ccr_commands.proofs.laws.records_are_read_as_recorded.Goals as goal

pub returns : goal.returns
returns c = λ wiring workers bytes text reads short few gives. read_again c.records_are_read_again.ensures c.schedules_give_runs_again.ensures.actors wiring workers bytes text reads short few gives
