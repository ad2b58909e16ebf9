use Rattle.ccr_replay.proofs.SchedulesGiveRuns.{actors, again, of_next, of_turns, only}
use Rattle.ccr_replay.proofs.laws.schedules_give_runs_again.Goals as goal

pub returns : goal.returns
returns c = record { next = of_next; actors = actors; again = again; only = only; turns = of_turns }
