use Rattle.std.proofs.lemmas.Result.{IfOk-weaker}
use Rattle.ccr_commands.proofs.GivenIsDue.{found_is_given}
use Rattle.ccr_commands.proofs.verify.judge_parts.Goals as goal

pub returns-in-Ok : goal.returns-in-Ok
returns-in-Ok g = IfOk-weaker g.judge_output.result _ _ (λ due gives. found_is_given g.args.part.now g.args.before g.args.output.now g.in-Ok.wiring due.status due.text g.in-Ok.ensures.reading gives) g.judge_output.ensures
