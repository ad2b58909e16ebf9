use Rattle.std.proofs.Common.{◌≤◌, ◌-◌, length, take}
use Rattle.ccr_io.specs.Bytes.{IsAdded}
use Rattle.ccr_io.proofs.sink.write_all.Given as goal

abbrev pub invariant-writes : goal.invariant-writes
invariant-writes g l = record {
  added : IsAdded (take l.at l.text) (g.K.Sink.written l.fn.sink) (g.K.Sink.written l.sink);
  within : l.at ≤ length l.text;
  count : g.K.Sink.faults l.fn.sink ≤ g.K.Sink.faults l.sink;
}

abbrev pub decreases-writes : goal.decreases-writes
decreases-writes g l = length l.text - l.at
