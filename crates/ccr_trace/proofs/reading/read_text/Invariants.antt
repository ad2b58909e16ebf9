use Rattle.std.proofs.Common.{◌≡◌, length}
use Rattle.ccr_trace.specs.EventReaders.{reading_of}
use Rattle.ccr_trace.specs.Reading.{reading}
use Rattle.ccr_trace.proofs.reading.read_text.Given as goal

-- what is kept is what was read, and what is read in the end stays the same
abbrev pub invariant-events : goal.invariant-events
invariant-events l = record {
  wiring : l.reader.wiring ≡ l.fn.wiring;
  kept : l.history ≡ l.reader.so_far.history;
  reads : reading_of l.reader ≡ reading l.fn.wiring l.fn.text;
}

abbrev pub decreases-events : goal.decreases-events
decreases-events l = length l.reader.left
