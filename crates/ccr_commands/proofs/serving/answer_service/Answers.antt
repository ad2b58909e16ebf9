use Rattle.std.proofs.lemmas.Result.{IfOk-weaker}
use Rattle.ccr_commands.proofs.GivenIsDue.{service_is_due}
use Rattle.ccr_commands.proofs.serving.answer_service.Goals as goal

pub returns-in-Ok : goal.returns-in-Ok
returns-in-Ok g c = λ json. IfOk-weaker c.serve.result _ _ (λ due gives. service_is_due json c.args.text.now c.args.workers c.in-Ok.service due.status due.text c.in-Ok.ensures.reading gives) c.serve.ensures
