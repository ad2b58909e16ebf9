use Rattle.std.proofs.lemmas.Result.{IfOk-weaker}
use Rattle.ccr_commands.proofs.GivenIsDue.{expand_is_due}
use Rattle.ccr_commands.proofs.serving.answer_expand.Goals as goal

pub returns-in-Ok : goal.returns-in-Ok
returns-in-Ok c = λ json. IfOk-weaker c.expanded.result _ _ (λ due gives. expand_is_due json c.args.text.now c.in-Ok.service due.status due.text c.in-Ok.ensures.reading gives) c.expanded.ensures
