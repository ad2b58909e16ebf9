use Rattle.ccr_net.proofs.Kept.RunsAreLegal.{visible_legal, visible_covered}
use Rattle.ccr_net.proofs.laws.visible_runs_are_legal_and_covered.Goals as goal

pub returns-clause-legal : goal.returns-clause-legal
returns-clause-legal c = visible_legal

pub returns-clause-covered : goal.returns-clause-covered
returns-clause-covered c = visible_covered
