use Rattle.std.proofs.Common.{sym, subst}
use Rattle.std.specs.Prelude.{IfOk}
use Rattle.ccr_words.specs.declared.requests.Command.{Command}
use Rattle.ccr_commands.specs.Answers.{AnswersText}
use Rattle.ccr_commands.proofs.answering.answer_text.Goals as goal

pub returns-in-Replay : goal.returns-in-Replay
returns-in-Replay g c = subst (λ (command : Command). IfOk c.answer_replay.result (λ due. AnswersText command c.args.json c.args.text.now due.status due.text)) (sym c.in-Replay.is) (c.answer_replay.ensures c.args.json)

pub returns-in-Steps : goal.returns-in-Steps
returns-in-Steps g c = subst (λ (command : Command). IfOk c.answer_steps.result (λ due. AnswersText command c.args.json c.args.text.now due.status due.text)) (sym c.in-Steps.is) (c.answer_steps.ensures c.args.json)
