use Rattle.std.proofs.Common.{arith}
use Rattle.ccr_io.proofs.Bytes.{IsAdded-more}
use Rattle.ccr_io.proofs.sink.write_all.Goals as goal

pub writes-preserved : goal.writes-preserved
writes-preserved g c = record {
  added = IsAdded-more c.args.text.now c.writes.at c.in_ok-at.field-0 (g.K.Sink.written c.args.sink.now) (g.K.Sink.written c.writes.sink) (g.K.Sink.written c.write.new.self)
      c.writes.invariant.added c.in_ok-at.ensures.added;
  within = grind arith;
  count = omega (arith, c.in_ok-at.ensures.count);
}
