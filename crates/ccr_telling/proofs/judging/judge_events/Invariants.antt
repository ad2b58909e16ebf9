use Rattle.std.proofs.Common.{length}
use Rattle.ccr_telling.specs.Judging.{IsJudgedSoFar}
use Rattle.ccr_telling.proofs.judging.judge_events.Given as goal

abbrev pub invariant-events : goal.invariant-events
invariant-events l = IsJudgedSoFar l.fn.reader l.reader l.checker l.tally l.refusal

abbrev pub decreases-events : goal.decreases-events
decreases-events l = length l.reader.left
