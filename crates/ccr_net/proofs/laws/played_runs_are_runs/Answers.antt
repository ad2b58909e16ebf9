use Rattle.ccr_net.proofs.Played.EachPlaceAnswers.{step_facts}
use Rattle.ccr_net.proofs.Played.PlayedRunsAreRuns.{played}
use Rattle.ccr_net.proofs.laws.played_runs_are_runs.Goals as goal

pub returns-clause-run : goal.returns-clause-run
returns-clause-run c w workers lacks acts valid closed few run = (played w workers lacks (step_facts w workers lacks valid closed few) acts run).run

pub returns-clause-met : goal.returns-clause-met
returns-clause-met c w workers lacks acts valid closed few run = (played w workers lacks (step_facts w workers lacks valid closed few) acts run).met

pub returns-clause-replies : goal.returns-clause-replies
returns-clause-replies c w workers lacks acts valid closed few run actor = (played w workers lacks (step_facts w workers lacks valid closed few) acts run).replies actor
