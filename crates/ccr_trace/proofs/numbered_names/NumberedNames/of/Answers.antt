use Rattle.ccr_trace.proofs.Numbered.{fresh_at}
use Rattle.ccr_trace.proofs.numbered_names.NumberedNames.of.Goals as goal

pub add-requires-clause-fresh : goal.add-requires-clause-fresh
add-requires-clause-fresh c = rw c.loop-name.invariant (fresh_at c.args.names.now c.loop-name.name-index _ c.loop-name-test.true c.requires.apart)
