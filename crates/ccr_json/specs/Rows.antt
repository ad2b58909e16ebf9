-- A report as JSON, by counts alone.
use Rattle.std.specs.Prelude.{ℕ, ◌+◌, ◌-◌, List, [], ◌∷◌, slice_index}
use Rattle.ccr_base.specs.declared.names.Spot.{Spot}
use Rattle.ccr_wiring.specs.declared.parts.Parts.{Parts}
use Rattle.ccr_wiring.specs.declared.parts.QueuePart.{QueuePart}
use Rattle.ccr_wiring.specs.Wirings.{spots}
use Rattle.ccr_wiring.specs.SpotWords.{branch_names, spot_word}
use Rattle.ccr_report.specs.declared.counted.Counts.{Counts}
use Rattle.serde_json.specs.Data.{Data, string}
use Rattle.ccr_json.specs.Objects.{spot_object, port_object, queue_object, report_object}
use Rattle.ccr_json.specs.Totals.{totals_value}

-- a spot's count and name
abbrev pub branch_row : List (List ℕ) → List ℕ → ℕ → Spot → Data
branch_row branches fired index spot = spot_object (slice_index fired index) (string (spot_word branches spot))

-- the spots, of which the first has this index
abbrev pub branch_rows : List (List ℕ) → List ℕ → ℕ → List Spot → List Data
branch_rows branches fired index [] = []
branch_rows branches fired index (spot ∷ others) = branch_row branches fired index spot ∷ branch_rows branches fired (index + 1) others

-- a port's counts and name: what it doesn't hold any more was taken
abbrev pub port_row : List ℕ → List ℕ → ℕ → List ℕ → Data
port_row posted held port name = port_object (slice_index held port) (string name) (slice_index posted port) (slice_index posted port - slice_index held port)

-- the ports, of which the first has this number
abbrev pub port_rows : List ℕ → List ℕ → ℕ → List (List ℕ) → List Data
port_rows posted held port [] = []
port_rows posted held port (name ∷ names) = port_row posted held port name ∷ port_rows posted held (port + 1) names

-- a queue's counts and name
abbrev pub queue_row : List ℕ → List ℕ → ℕ → QueuePart → Data
queue_row put dropped queue part = queue_object (slice_index dropped queue) (string part.name) (slice_index put queue)

-- the queues, of which the first has this number
abbrev pub queue_rows : List ℕ → List ℕ → ℕ → List QueuePart → List Data
queue_rows put dropped queue [] = []
queue_rows put dropped queue (part ∷ parts) = queue_row put dropped queue part ∷ queue_rows put dropped (queue + 1) parts

-- the object of a report
abbrev pub counted_value : Parts → Counts → Data
counted_value wiring counts =
    report_object (branch_rows (branch_names wiring) counts.fired.items 0 (spots wiring))
    (port_rows counts.posted.items counts.held.items 0 wiring.ports)
    (queue_rows counts.put.items counts.dropped.items 0 wiring.queues)
    (totals_value counts.totals)
