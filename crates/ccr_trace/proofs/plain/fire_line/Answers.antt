use Rattle.std.proofs.Common.{map, codes, ◌∷◌, arith}
use Rattle.std.proofs.lemmas.Grind.{common_steps}
use Rattle.ccr_trace.specs.Words.{task_word, message_word}
use Rattle.ccr_trace.proofs.Lines.{joined_behind}
use Rattle.ccr_trace.proofs.plain.fire_line.Goals as goal

pub returns-clause-text : goal.returns-clause-text
returns-clause-text c =
    let line = joined_behind (codes "fire") (task_word c.args.task ∷ c.args.branch.now ∷ map message_word c.args.messages.now) in
    grind (arith, common_steps, line)
