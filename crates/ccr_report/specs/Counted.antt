-- When counts are those of a history.
use Rattle.std.specs.Prelude.{◌≡◌, ◌<◌, ℕ, List, length, map, slice_index}
use Rattle.ccr_wiring.specs.declared.parts.Parts.{Parts}
use Rattle.ccr_wiring.specs.Wirings.{spots}
use Rattle.ccr_model.specs.declared.history.Event.{Event}
use Rattle.ccr_model.specs.Posts.{posted, held}
use Rattle.ccr_model.specs.Firings.{fired_at}
use Rattle.ccr_model.specs.Counts.{totals}
use Rattle.ccr_report.specs.Counting.{dropped_at}
use Rattle.ccr_model.specs.Tasks.{put_into}
use Rattle.ccr_report.specs.declared.counted.Counts.{Counts}

-- the counts have a row for each port, spot and queue of the wiring, and each says how often the thing stands in the history
pub record IsCounted (wiring : Parts) (history : List Event) (counts : Counts) : Type 0 where
  pub posted_len : length counts.posted.items ≡ length wiring.ports
  pub held_len : length counts.held.items ≡ length wiring.ports
  pub put_len : length counts.put.items ≡ length wiring.queues
  pub dropped_len : length counts.dropped.items ≡ length wiring.queues
  pub posted : (k : ℕ) → k < length wiring.ports → slice_index counts.posted.items k ≡ length (posted history k)
  pub held : (k : ℕ) → k < length wiring.ports → slice_index counts.held.items k ≡ length (held history k)
  pub fired : counts.fired.items ≡ map (λ spot. length (fired_at history spot)) (spots wiring)
  pub put : (k : ℕ) → k < length wiring.queues → slice_index counts.put.items k ≡ length (put_into wiring history k)
  pub dropped : (k : ℕ) → k < length wiring.queues → slice_index counts.dropped.items k ≡ length (dropped_at wiring history k)
  pub totals : counts.totals ≡ totals history

-- the counts have a row for each port, spot and queue of the wiring
pub record HasRows (wiring : Parts) (counts : Counts) : Type 0 where
  pub posted : length counts.posted.items ≡ length wiring.ports
  pub held : length counts.held.items ≡ length wiring.ports
  pub fired : length counts.fired.items ≡ length (spots wiring)
  pub put : length counts.put.items ≡ length wiring.queues
  pub dropped : length counts.dropped.items ≡ length wiring.queues
