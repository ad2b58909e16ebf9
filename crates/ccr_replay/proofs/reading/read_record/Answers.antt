use Rattle.ccr_replay.proofs.AnswersTellTexts.{says, says_nothing}
use Rattle.ccr_replay.proofs.reading.read_record.Goals as goal

pub returns-clause-grammar : goal.returns-clause-grammar
returns-clause-grammar c = says c.args.text.now c.read_text.result c.read_text.ensures.reading

pub returns-clause-refused : goal.returns-clause-refused
returns-clause-refused c = says_nothing c.args.text.now c.read_text.result c.read_text.ensures.reading
