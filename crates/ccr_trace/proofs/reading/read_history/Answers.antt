use Rattle.ccr_trace.proofs.Outcomes.{rest_of, lines_of, known_of, messages_of}
use Rattle.ccr_trace.proofs.reading.read_history.Goals as goal

pub returns-clause-rest : goal.returns-clause-rest
returns-clause-rest c = rest_of c.args.wiring.now c.args.text.now c.read_text.result c.read_text.ensures

pub returns-clause-known : goal.returns-clause-known
returns-clause-known c = known_of c.args.wiring.now c.args.text.now c.read_text.result c.read_text.ensures

pub returns-clause-messages : goal.returns-clause-messages
returns-clause-messages c = messages_of c.args.wiring.now c.args.text.now c.read_text.result c.read_text.ensures

pub returns-clause-lines : goal.returns-clause-lines
returns-clause-lines c = lines_of c.args.wiring.now c.args.text.now c.read_text.result c.read_text.ensures
