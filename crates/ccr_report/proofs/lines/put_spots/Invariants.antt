use Rattle.std.proofs.Common.{◌≡◌, ◌++◌, drop}
use Rattle.ccr_text.specs.Spelling.{text_of}
use Rattle.ccr_report.specs.Rows.{spot_rows}
use Rattle.ccr_report.proofs.lines.put_spots.Given as goal

abbrev pub invariant-loop-index : goal.invariant-loop-index
invariant-loop-index l = l.out ++ text_of (spot_rows l.branches l.counts l.index (drop l.index l.spots)) ≡ l.fn.out ++ text_of (spot_rows l.branches l.counts 0 l.spots)
