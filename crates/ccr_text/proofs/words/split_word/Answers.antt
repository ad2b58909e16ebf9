use Rattle.std.proofs.Common.{arith}
use Rattle.std.proofs.lemmas.Grind.{common_steps}
use Rattle.ccr_text.proofs.Splitting.{pieces_at, pieces_whole}
use Rattle.ccr_text.proofs.words.split_word.Goals as goal

pub returns-then-not-is_graphic_byte-clause-parts : goal.returns-then-not-is_graphic_byte-clause-parts
returns-then-not-is_graphic_byte-clause-parts c = grind (arith, common_steps, pieces_at c.args.line.now c.loop-index.index c.loop-index.invariant c.loop-index-test.true (grind (arith, common_steps)))

pub returns-clause-whole : goal.returns-clause-whole
returns-clause-whole c = pieces_whole c.args.line.now (λ k h. c.loop-index.invariant k (omega arith))
