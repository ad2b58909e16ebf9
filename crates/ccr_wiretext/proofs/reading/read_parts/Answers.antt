use Rattle.ccr_wiretext.proofs.AnswersTellTexts.{says, is_valid, is_shut, says_nothing}
use Rattle.ccr_wiretext.proofs.reading.read_parts.Goals as goal

pub returns-clause-grammar : goal.returns-clause-grammar
returns-clause-grammar c = says c.args.text.now c.read_text.result c.read_text.ensures

pub returns-clause-valid : goal.returns-clause-valid
returns-clause-valid c = is_valid c.args.text.now c.read_text.result c.read_text.ensures

pub returns-clause-closed : goal.returns-clause-closed
returns-clause-closed c = is_shut c.args.text.now c.read_text.result c.read_text.ensures

pub returns-clause-refused : goal.returns-clause-refused
returns-clause-refused c = says_nothing c.args.text.now c.read_text.result c.read_text.ensures
