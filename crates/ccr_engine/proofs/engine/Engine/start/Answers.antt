use Rattle.ccr_engine.proofs.Reading.{IsRead-start}
use Rattle.ccr_engine.proofs.engine.Engine.start.Goals as goal

pub invariant_of-result : goal.invariant_of-result
invariant_of-result c = IsRead-start c.args.wiring.now c.in_ok-indices.indices c.args.closer _ c.in_ok-indices.desk c.parts.ensures.valid c.requires.closed c.requires.no_poster c.requires.low c.in_ok-indices.ensures.indices c.new.ensures c.in_ok-indices.ensures.desk
