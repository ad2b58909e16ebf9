use Rattle.std.proofs.Common.{◌∙◌}
use Rattle.ccr_space.proofs.LogsGrow.{step_more}
use Rattle.ccr_space.proofs.space.step.Space.run.Goals as goal

pub loop-preserved : goal.loop-preserved
loop-preserved g c = (tt, tt, c.advance.ensures.pass, c.advance.ensures.number ∙ c.loop.invariant.3, step_more c.args.pass.now c.loop.pass c.advance.new.pass c.loop.steps c.saturating_add-steps.result c.advance.result c.loop.invariant.4 c.in-Made.is c.advance.ensures.made c.advance.ensures.unmet c.saturating_add-steps.ensures)
