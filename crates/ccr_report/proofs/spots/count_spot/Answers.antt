use Rattle.ccr_report.proofs.SpotCounts.{spot_counted}
use Rattle.ccr_report.proofs.spots.count_spot.Goals as goal

pub returns : goal.returns
returns c = λ other. spot_counted _ _ c.args.spot other c.count_at-count.result c.count_at-count.ensures (c.in_ok-insert.ensures.updates.0 other)
