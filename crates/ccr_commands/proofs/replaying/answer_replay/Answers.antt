use Rattle.std.proofs.lemmas.Result.{IfOk-weaker}
use Rattle.ccr_commands.proofs.GivenIsDue.{replay_is_due}
use Rattle.ccr_commands.proofs.replaying.answer_replay.Goals as goal

pub returns-in-Ok : goal.returns-in-Ok
returns-in-Ok g c = λ json. IfOk-weaker c.replay.result _ _ (λ due gives. replay_is_due json c.args.text.now c.in-Ok.said due.status due.text c.in-Ok.ensures.reading gives) c.replay.ensures
