use Rattle.std.proofs.Common.{◌≤◌, ◌-◌, length}
use Rattle.ccr_io.specs.Bytes.{IsTakenOff}
use Rattle.ccr_io.proofs.source.read_all.Given as goal

abbrev pub invariant-reads : goal.invariant-reads
invariant-reads g l = record {
  read : IsTakenOff l.bytes.items (g.S.Source.rest l.fn.source) (g.S.Source.rest l.source);
  within : length l.bytes.items ≤ l.limit;
  count : g.S.Source.faults l.fn.source ≤ g.S.Source.faults l.source;
}

abbrev pub decreases-reads : goal.decreases-reads
decreases-reads g l = l.limit - length l.bytes.items
