use Rattle.std.proofs.Common.{arith}
use Rattle.std.proofs.lemmas.Grind.{common_steps}
use Rattle.ccr_text.proofs.Parts.{part_at, part_whole}
use Rattle.ccr_wiretext.proofs.values.split_piece.Goals as goal

pub returns-then-byte-eq44-clause-parts : goal.returns-then-byte-eq44-clause-parts
returns-then-byte-eq44-clause-parts c = grind (arith, common_steps, part_at 44 c.args.word.now c.loop-index.index c.loop-index.invariant)

pub returns-clause-whole : goal.returns-clause-whole
returns-clause-whole c = part_whole 44 c.args.word.now (λ k h. c.loop-index.invariant k (omega arith))
