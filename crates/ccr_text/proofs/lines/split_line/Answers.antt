use Rattle.std.proofs.Common.{arith}
use Rattle.std.proofs.lemmas.Grind.{common_steps}
use Rattle.ccr_text.proofs.Splitting.{split_at, split_whole, no_feed, no_feeds, parts_at}
use Rattle.ccr_text.proofs.lines.split_line.Goals as goal

pub returns-then-byte-eq10-clause-feed : goal.returns-then-byte-eq10-clause-feed
returns-then-byte-eq10-clause-feed c = grind (arith, common_steps, no_feed c.args.text.now c.loop-index.index c.loop-index.invariant (omega arith))

pub returns-then-byte-eq10-clause-parts : goal.returns-then-byte-eq10-clause-parts
returns-then-byte-eq10-clause-parts c = grind (arith, common_steps, parts_at c.args.text.now c.loop-index.index c.loop-index-test.true c.if-byte-eq10.true)

pub returns-then-byte-eq10-clause-lines : goal.returns-then-byte-eq10-clause-lines
returns-then-byte-eq10-clause-lines c = grind (arith, common_steps, split_at c.args.text.now c.loop-index.index c.loop-index.invariant c.loop-index-test.true c.if-byte-eq10.true)

pub returns-clause-feed : goal.returns-clause-feed
returns-clause-feed c = no_feeds c.args.text.now (λ k h. c.loop-index.invariant k (omega arith))

pub returns-clause-lines : goal.returns-clause-lines
returns-clause-lines c = split_whole c.args.text.now c.requires (λ k h. c.loop-index.invariant k (omega arith))
