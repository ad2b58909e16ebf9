-- The lines by the counts of a history are the lines of its report.
use Rattle.std.proofs.Common.{◌≡◌, ◌∙◌, ◌+◌, ◌<◌, ◌≤◌, ℕ, List, [], ◌∷◌, ◌++◌, length, map, drop, slice_index, codes, decimal, refl, sym, ap, arith, suc}
use Rattle.std.proofs.lemmas.Option.{get_or_from_slice_get}
use Rattle.ccr_base.specs.declared.names.Spot.{Spot}
use Rattle.ccr_base.proofs.Options.{drop-next}
use Rattle.ccr_wiring.specs.declared.parts.Parts.{Parts}
use Rattle.ccr_wiring.specs.declared.parts.QueuePart.{QueuePart}
use Rattle.ccr_wiring.specs.Wirings.{spots}
use Rattle.ccr_model.specs.declared.history.Event.{Event}
use Rattle.ccr_model.specs.declared.history.Totals.{Totals}
use Rattle.ccr_model.specs.Posts.{posted, held}
use Rattle.ccr_model.specs.Firings.{fired_at}
use Rattle.ccr_text.specs.Spelling.{text_of}
use Rattle.ccr_wiring.specs.SpotWords.{branch_names}
use Rattle.ccr_report.specs.Counting.{dropped_at}
use Rattle.ccr_model.specs.Tasks.{put_into}
use Rattle.ccr_report.specs.Counted.{IsCounted}
use Rattle.ccr_report.specs.Report.{port_words, port_lines, spot_words, queue_words, queue_lines, total_words, report_text}
use Rattle.ccr_report.specs.Rows.{port_row, port_rows, spot_row, spot_rows, queue_row, queue_rows, counted_text}
use Rattle.ccr_report.specs.declared.counted.Counts.{Counts}
use Rattle.ccr_report.proofs.Tallies.{taken_left}

-- the line of a port
pub port_told : (history : List Event) (port : ℕ) (name : List ℕ) (p h : ℕ) → p ≡ length (posted history port) → h ≡ length (held history port) → port_row name p h ≡ port_words history port name
port_told history port name p h is_p is_h =
    ap (λ (n : ℕ). port_row name n h) is_p
    ∙ ap (λ (n : ℕ). port_row name (length (posted history port)) n) is_h
    ∙ ap (λ (n : ℕ). codes "port" ∷ name ∷ codes "posted" ∷ decimal (length (posted history port)) ∷ codes "taken" ∷ decimal n ∷ codes "held" ∷ decimal (length (held history port)) ∷ []) (sym (taken_left history port))

-- the lines of the ports from this one on
pub ports_told : (history : List Event) (ps hs : List ℕ) (count : ℕ) → ((k : ℕ) → k < count → slice_index ps k ≡ length (posted history k)) → ((k : ℕ) → k < count → slice_index hs k ≡ length (held history k)) → (port : ℕ) (names : List (List ℕ)) → port + length names ≤ count → port_rows ps hs port names ≡ port_lines history port names
ports_told history ps hs count are_ps are_hs port [] within = refl
ports_told history ps hs count are_ps are_hs port (name ∷ names) within =
    ap (λ (row : List (List ℕ)). row ∷ port_rows ps hs (port + 1) names) (port_told history port name (slice_index ps port) (slice_index hs port) (are_ps port (omega arith)) (are_hs port (omega arith)))
    ∙ ap (λ (rows : List (List (List ℕ))). port_words history port name ∷ rows) (ports_told history ps hs count are_ps are_hs (port + 1) names (omega arith))

-- the line of a queue
pub queue_told : (w : Parts) (history : List Event) (queue : ℕ) (part : QueuePart) (p d : ℕ) → p ≡ length (put_into w history queue) → d ≡ length (dropped_at w history queue) → queue_row part p d ≡ queue_words w history queue part
queue_told w history queue part p d is_p is_d =
    ap (λ (n : ℕ). queue_row part n d) is_p ∙ ap (λ (n : ℕ). queue_row part (length (put_into w history queue)) n) is_d

-- the lines of the queues from this one on
pub queues_told : (w : Parts) (history : List Event) (ps ds : List ℕ) (count : ℕ) → ((k : ℕ) → k < count → slice_index ps k ≡ length (put_into w history k)) → ((k : ℕ) → k < count → slice_index ds k ≡ length (dropped_at w history k)) → (queue : ℕ) (parts : List QueuePart) → queue + length parts ≤ count → queue_rows ps ds queue parts ≡ queue_lines w history queue parts
queues_told w history ps ds count are_ps are_ds queue [] within = refl
queues_told w history ps ds count are_ps are_ds queue (part ∷ parts) within =
    ap (λ (row : List (List ℕ)). row ∷ queue_rows ps ds (queue + 1) parts) (queue_told w history queue part (slice_index ps queue) (slice_index ds queue) (are_ps queue (omega arith)) (are_ds queue (omega arith)))
    ∙ ap (λ (rows : List (List (List ℕ))). queue_words w history queue part ∷ rows) (queues_told w history ps ds count are_ps are_ds (queue + 1) parts (omega arith))

-- the number that a rest begins with
first_of_rest : (ns : List ℕ) (k n : ℕ) (rest : List ℕ) → drop k ns ≡ n ∷ rest → (slice_index ns k ≡ n) × (drop (k + 1) ns ≡ rest)
first_of_rest ns k n rest e =
    let next = drop-next k ns n rest (sym e) in
    let on : k + 1 ≡ suc k = omega arith in
    (get_or_from_slice_get ns k n 0 next.0, ap (λ j. drop j ns) on ∙ sym next.1)

-- the lines of the spots from this one on
pub spots_told : (branches : List (List ℕ)) (history : List Event) (ns : List ℕ) (index : ℕ) (spots : List Spot) → drop index ns ≡ map (λ (spot : Spot). length (fired_at history spot)) spots → spot_rows branches ns index spots ≡ map (spot_words branches history) spots
spots_told branches history ns index [] are = refl
spots_told branches history ns index (spot ∷ spots) are =
    let first : (slice_index ns index ≡ length (fired_at history spot)) × (drop (index + 1) ns ≡ map (λ (spot : Spot). length (fired_at history spot)) spots) = first_of_rest ns index (length (fired_at history spot)) (map (λ (spot : Spot). length (fired_at history spot)) spots) are in
    ap (λ (n : ℕ). spot_row branches spot n ∷ spot_rows branches ns (index + 1) spots) first.0
    ∙ ap (λ (rows : List (List (List ℕ))). spot_words branches history spot ∷ rows) (spots_told branches history ns (index + 1) spots first.1)

-- the whole text
pub text_told : (w : Parts) (counts : Counts) (history : List Event) → IsCounted w history counts → counted_text w counts ≡ report_text w history
text_told w counts history is =
    joined _ _ _ _ _ _ _ _
    (ports_told history counts.posted.items counts.held.items (length w.ports) is.posted is.held 0 w.ports (omega arith))
    (spots_told (branch_names w) history counts.fired.items 0 (spots w) is.fired)
    (queues_told w history counts.put.items counts.dropped.items (length w.queues) is.put is.dropped 0 w.queues (omega arith))
    is.totals
  where
    joined : (ps ps' ss ss' qs qs' : List (List (List ℕ))) (t t' : Totals) → ps ≡ ps' → ss ≡ ss' → qs ≡ qs' → t ≡ t' → text_of ((codes "report" ∷ codes "1" ∷ []) ∷ (ps ++ ss ++ qs ++ total_words t ∷ [])) ≡ text_of ((codes "report" ∷ codes "1" ∷ []) ∷ (ps' ++ ss' ++ qs' ++ total_words t' ∷ []))
    joined ps ps' ss ss' qs qs' t t' p s q e = rw (p, s, q, e) refl
