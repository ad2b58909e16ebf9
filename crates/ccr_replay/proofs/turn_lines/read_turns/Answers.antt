use Rattle.ccr_replay.proofs.TurnsAnswered.{below, says, says_nothing}
use Rattle.ccr_replay.proofs.turn_lines.read_turns.Goals as goal

pub returns-clause-grammar : goal.returns-clause-grammar
returns-clause-grammar c = says c.args.actors c.args.lines_before c.args.text.now c.read_lines.result c.read_lines.ensures

pub returns-clause-refused : goal.returns-clause-refused
returns-clause-refused c = says_nothing c.args.actors c.args.lines_before c.args.text.now c.read_lines.result c.read_lines.ensures

pub returns-clause-below : goal.returns-clause-below
returns-clause-below c = below c.args.actors c.args.lines_before c.args.text.now c.read_lines.result c.read_lines.ensures
