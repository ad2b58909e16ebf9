use Rattle.ccr_net.proofs.Played.EachPlaceAnswers.{step_facts}
use Rattle.ccr_net.proofs.Played.RunsFollowTheirSteps.{played_too}
use Rattle.ccr_net.proofs.laws.played_runs_follow_their_steps.Goals as goal

pub returns : goal.returns
returns c = λ w workers lacks acts valid closed few run others next. played_too w workers lacks others (step_facts w workers lacks valid closed few) acts run next
