use Rattle.std.proofs.Common.{◌∙◌}
use Rattle.ccr_check.proofs.JudgesStayJudges.{IsJudge-none}
use Rattle.ccr_check.proofs.judge.Judge.new.Goals as goal

pub invariant_of-result : goal.invariant_of-result
invariant_of-result c = IsJudge-none _ c.in_ok-checker.checker c.parts-valid.ensures.valid c.requires c.new-3.ensures (rw c.new-3.ensures (c.in_ok-checker.ensures.ok ∙ c.in_ok-made.ensures))
