-- The counts of a history have their rows.
use Rattle.std.proofs.Common.{◌∙◌, List, length, ap}
use Rattle.std.proofs.lemmas.List.{length-map}
use Rattle.ccr_base.specs.declared.names.Spot.{Spot}
use Rattle.ccr_wiring.specs.declared.parts.Parts.{Parts}
use Rattle.ccr_wiring.specs.Wirings.{spots}
use Rattle.ccr_model.specs.declared.history.Event.{Event}
use Rattle.ccr_model.specs.Firings.{fired_at}
use Rattle.ccr_report.specs.declared.counted.Counts.{Counts}
use Rattle.ccr_report.specs.Counted.{HasRows, IsCounted}

pub rows_of : (w : Parts) (h : List Event) (counts : Counts) → IsCounted w h counts → HasRows w counts
rows_of w h counts is = record {
  posted = is.posted_len;
  held = is.held_len;
  fired = ap length is.fired ∙ length-map (spots w) (λ (spot : Spot). length (fired_at h spot));
  put = is.put_len;
  dropped = is.dropped_len;
}
