use Rattle.ccr_report.proofs.HasRows.{rows_of}
use Rattle.ccr_report.proofs.lines.report_text.Goals as goal

pub counted_text-requires : goal.counted_text-requires
counted_text-requires c = rows_of c.args.wiring.now c.args.history.now c.in_ok-counts.counts c.in_ok-counts.ensures
