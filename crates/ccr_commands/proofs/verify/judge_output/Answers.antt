use Rattle.ccr_commands.proofs.FoundOnce.{finding_is_due}
use Rattle.ccr_commands.proofs.verify.judge_output.Goals as goal

pub returns : goal.returns
returns c = finding_is_due c.args.wiring.now c.args.before c.args.output.now c.in_ok-finding.finding c.status_of.result c.in_ok-finding_text.field-0 c.in_ok-finding.ensures c.status_of.ensures c.in_ok-finding_text.ensures
