use Rattle.ccr_runs.proofs.Telling.{story_is}
use Rattle.ccr_runs.proofs.laws.logs_are_stories.Goals as goal

pub returns : goal.returns
returns g c = record { story = λ protocol seats scene acts seat logged merged its. story_is protocol.after seat scene acts logged merged.sorted its.rising its.same }
