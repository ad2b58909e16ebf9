-- The lines of a report by counts alone.
use Rattle.std.specs.Prelude.{ℕ, ◌+◌, ◌-◌, List, [], ◌∷◌, ◌++◌, slice_index, codes, decimal}
use Rattle.ccr_base.specs.declared.names.Spot.{Spot}
use Rattle.ccr_wiring.specs.declared.parts.Parts.{Parts}
use Rattle.ccr_wiring.specs.declared.parts.QueuePart.{QueuePart}
use Rattle.ccr_wiring.specs.Wirings.{spots}
use Rattle.ccr_text.specs.Spelling.{text_of}
use Rattle.ccr_wiring.specs.SpotWords.{branch_names, spot_word}
use Rattle.ccr_report.specs.Report.{total_words}
use Rattle.ccr_report.specs.declared.counted.Counts.{Counts}

-- the line of a port
abbrev pub port_fields : List ℕ → ℕ → ℕ → ℕ → List (List ℕ)
port_fields name posted taken held = codes "port" ∷ name ∷ codes "posted" ∷ decimal posted ∷ codes "taken" ∷ decimal taken ∷ codes "held" ∷ decimal held ∷ []

-- by its counts: what isn't held was taken
abbrev pub port_row : List ℕ → ℕ → ℕ → List (List ℕ)
port_row name posted held = port_fields name posted (posted - held) held

-- the lines of the ports, of which the first has this number
abbrev pub port_rows : List ℕ → List ℕ → ℕ → List (List ℕ) → List (List (List ℕ))
port_rows posted held port [] = []
port_rows posted held port (name ∷ names) = port_row name (slice_index posted port) (slice_index held port) ∷ port_rows posted held (port + 1) names

-- the line of a branch or an await site
abbrev pub spot_row : List (List ℕ) → Spot → ℕ → List (List ℕ)
spot_row branches spot fired = codes "branch" ∷ spot_word branches spot ∷ codes "fired" ∷ decimal fired ∷ []

-- the lines of the spots, of which the first has this number
abbrev pub spot_rows : List (List ℕ) → List ℕ → ℕ → List Spot → List (List (List ℕ))
spot_rows branches fired index [] = []
spot_rows branches fired index (spot ∷ spots) = spot_row branches spot (slice_index fired index) ∷ spot_rows branches fired (index + 1) spots

-- the line of a queue
abbrev pub queue_row : QueuePart → ℕ → ℕ → List (List ℕ)
queue_row part put dropped = codes "queue" ∷ part.name ∷ codes "put" ∷ decimal put ∷ codes "dropped" ∷ decimal dropped ∷ []

-- the lines of the queues, of which the first has this number
abbrev pub queue_rows : List ℕ → List ℕ → ℕ → List QueuePart → List (List (List ℕ))
queue_rows put dropped queue [] = []
queue_rows put dropped queue (part ∷ parts) = queue_row part (slice_index put queue) (slice_index dropped queue) ∷ queue_rows put dropped (queue + 1) parts

-- a line for each port, spot and queue, and the totals
abbrev pub counted_lines : Parts → Counts → List (List (List ℕ))
counted_lines wiring counts =
    (codes "report" ∷ codes "1" ∷ [])
    ∷ (port_rows counts.posted.items counts.held.items 0 wiring.ports
    ++ spot_rows (branch_names wiring) counts.fired.items 0 (spots wiring)
    ++ queue_rows counts.put.items counts.dropped.items 0 wiring.queues
    ++ total_words counts.totals ∷ [])

-- the report from the counts
abbrev pub counted_text : Parts → Counts → List ℕ
counted_text wiring counts = text_of (counted_lines wiring counts)
