-- The rows of a history's counts are those of its report.
use Rattle.std.proofs.Common.{◌≡◌, ◌+◌, ◌<◌, ℕ, suc, List, [], ◌∷◌, length, map, refl, ap, ◌∙◌, arith}
use Rattle.std.specs.Prelude.{slice_index}
use Rattle.ccr_base.specs.declared.names.Spot.{Spot}
use Rattle.ccr_wiring.specs.declared.parts.Parts.{Parts}
use Rattle.ccr_wiring.specs.declared.parts.QueuePart.{QueuePart}
use Rattle.ccr_wiring.specs.Wirings.{spots}
use Rattle.ccr_model.specs.declared.history.Event.{Event}
use Rattle.ccr_model.specs.Posts.{posted, held}
use Rattle.ccr_model.specs.Firings.{fired_at}
use Rattle.ccr_wiring.specs.SpotWords.{branch_names}
use Rattle.ccr_report.specs.declared.counted.Counts.{Counts}
use Rattle.ccr_report.specs.Counting.{dropped_at}
use Rattle.ccr_model.specs.Tasks.{put_into}
use Rattle.ccr_report.specs.Counted.{IsCounted}
use Rattle.ccr_report.proofs.Tallies.{taken_left}
use Rattle.ccr_json.specs.Report.{branch_value, port_value, port_values, queue_value, queue_values, report_value}
use Rattle.ccr_json.specs.Rows.{branch_rows, port_row, port_rows, queue_row, queue_rows, counted_value}

branches_told : (branches : List (List ℕ)) (h : List Event) (fired : List ℕ) (index : ℕ) (ss : List Spot) → ((k : ℕ) → slice_index fired (index + k) ≡ slice_index (map (λ spot. length (fired_at h spot)) ss) k) → branch_rows branches fired index ss ≡ map (branch_value branches h) ss
branches_told branches h fired index [] counted = refl
branches_told branches h fired index (spot ∷ ss) counted =
    let at_place : index ≡ index + 0 = omega arith in
    let here : slice_index fired index ≡ length (fired_at h spot) = ap (λ (k : ℕ). slice_index fired k) at_place ∙ counted 0 in
    rw (here, branches_told branches h fired (index + 1) ss (λ k. let next : index + 1 + k ≡ index + suc k = omega arith in ap (λ (j : ℕ). slice_index fired j) next ∙ counted (suc k))) refl

port_told : (h : List Event) (posts holds : List ℕ) (port : ℕ) (name : List ℕ) → slice_index posts port ≡ length (posted h port) → slice_index holds port ≡ length (held h port) → port_row posts holds port name ≡ port_value h port name
port_told h posts holds port name is_posted is_held = rw (is_posted, is_held, taken_left h port) refl

ports_told : (h : List Event) (posts holds : List ℕ) (port : ℕ) (names : List (List ℕ)) → ((k : ℕ) → k < port + length names → slice_index posts k ≡ length (posted h k)) → ((k : ℕ) → k < port + length names → slice_index holds k ≡ length (held h k)) → port_rows posts holds port names ≡ port_values h port names
ports_told h posts holds port [] is_posted is_held = refl
ports_told h posts holds port (name ∷ names) is_posted is_held =
    ap (λ row. row ∷ port_rows posts holds (port + 1) names) (port_told h posts holds port name (is_posted port (omega arith)) (is_held port (omega arith)))
    ∙ ap (λ rows. port_value h port name ∷ rows) (ports_told h posts holds (port + 1) names (λ k l. is_posted k (omega arith)) (λ k l. is_held k (omega arith)))

queue_told : (w : Parts) (h : List Event) (puts drops : List ℕ) (queue : ℕ) (part : QueuePart) → slice_index puts queue ≡ length (put_into w h queue) → slice_index drops queue ≡ length (dropped_at w h queue) → queue_row puts drops queue part ≡ queue_value w h queue part
queue_told w h puts drops queue part is_put is_dropped = rw (is_put, is_dropped) refl

queues_told : (w : Parts) (h : List Event) (puts drops : List ℕ) (queue : ℕ) (parts : List QueuePart) → ((k : ℕ) → k < queue + length parts → slice_index puts k ≡ length (put_into w h k)) → ((k : ℕ) → k < queue + length parts → slice_index drops k ≡ length (dropped_at w h k)) → queue_rows puts drops queue parts ≡ queue_values w h queue parts
queues_told w h puts drops queue [] is_put is_dropped = refl
queues_told w h puts drops queue (part ∷ parts) is_put is_dropped =
    ap (λ row. row ∷ queue_rows puts drops (queue + 1) parts) (queue_told w h puts drops queue part (is_put queue (omega arith)) (is_dropped queue (omega arith)))
    ∙ ap (λ rows. queue_value w h queue part ∷ rows) (queues_told w h puts drops (queue + 1) parts (λ k l. is_put k (omega arith)) (λ k l. is_dropped k (omega arith)))

pub rows_told : (w : Parts) (h : List Event) (counts : Counts) → IsCounted w h counts → counted_value w counts ≡ report_value w h
rows_told w h counts is =
    rw (
      branches_told (branch_names w) h counts.fired.items 0 (spots w) (λ k. let same : 0 + k ≡ k = omega arith in ap (λ (j : ℕ). slice_index counts.fired.items j) same ∙ ap (λ (fired : List ℕ). slice_index fired k) is.fired),
      ports_told h counts.posted.items counts.held.items 0 w.ports (λ k l. is.posted k (omega arith)) (λ k l. is.held k (omega arith)),
      queues_told w h counts.put.items counts.dropped.items 0 w.queues (λ k l. is.put k (omega arith)) (λ k l. is.dropped k (omega arith)),
      is.totals,
    ) refl
