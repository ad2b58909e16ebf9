use Rattle.ccr_replay.proofs.FirstLine.{behind_none, behind_some}
use Rattle.ccr_replay.proofs.reading.first_line.Goals as goal

pub returns-in-Some-clause-after : goal.returns-in-Some-clause-after
returns-in-Some-clause-after c = behind_some c.args.text.now c.split_line.result.0.now c.split_line.result.1 c.in-Some.rest c.in-Some.is c.split_line.ensures.parts c.split_line.ensures.feed

pub returns-in-None-clause-after : goal.returns-in-None-clause-after
returns-in-None-clause-after c = behind_none c.args.text.now c.split_line.result.0.now c.split_line.result.1 c.in-None.is c.split_line.ensures.whole c.split_line.ensures.feed
