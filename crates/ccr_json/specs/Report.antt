-- A report as JSON.
use Rattle.std.specs.Prelude.{ℕ, ◌+◌, List, [], ◌∷◌, map, length}
use Rattle.ccr_base.specs.declared.names.Spot.{Spot}
use Rattle.ccr_wiring.specs.declared.parts.Parts.{Parts}
use Rattle.ccr_wiring.specs.declared.parts.QueuePart.{QueuePart}
use Rattle.ccr_wiring.specs.Wirings.{spots}
use Rattle.ccr_model.specs.declared.history.Event.{Event}
use Rattle.ccr_model.specs.Posts.{posted, held}
use Rattle.ccr_model.specs.Firings.{fired_at}
use Rattle.ccr_model.specs.Counts.{totals}
use Rattle.ccr_wiring.specs.SpotWords.{branch_names, spot_word}
use Rattle.ccr_report.specs.Counting.{taken_at, dropped_at}
use Rattle.ccr_model.specs.Tasks.{put_into}
use Rattle.serde_json.specs.Data.{Data, string}
use Rattle.ccr_json.specs.Lines.{json_line}
use Rattle.ccr_json.specs.Objects.{spot_object, port_object, queue_object, report_object}
use Rattle.ccr_json.specs.Totals.{totals_value}

-- how often a spot fired
abbrev pub branch_value : List (List ℕ) → List Event → Spot → Data
branch_value branches history spot = spot_object (length (fired_at history spot)) (string (spot_word branches spot))

-- a port's counts and name
abbrev pub port_value : List Event → ℕ → List ℕ → Data
port_value history port name = port_object (length (held history port)) (string name) (length (posted history port)) (length (taken_at history port))

-- the ports, of which the first has this number
abbrev pub port_values : List Event → ℕ → List (List ℕ) → List Data
port_values history port [] = []
port_values history port (name ∷ names) = port_value history port name ∷ port_values history (port + 1) names

-- a queue's counts and name
abbrev pub queue_value : Parts → List Event → ℕ → QueuePart → Data
queue_value wiring history queue part = queue_object (length (dropped_at wiring history queue)) (string part.name) (length (put_into wiring history queue))

-- the queues, of which the first has this number
abbrev pub queue_values : Parts → List Event → ℕ → List QueuePart → List Data
queue_values wiring history queue [] = []
queue_values wiring history queue (part ∷ parts) = queue_value wiring history queue part ∷ queue_values wiring history (queue + 1) parts

-- the object of a report
abbrev pub report_value : Parts → List Event → Data
report_value wiring history =
    report_object (map (branch_value (branch_names wiring) history) (spots wiring))
    (port_values history 0 wiring.ports)
    (queue_values wiring history 0 wiring.queues)
    (totals_value (totals history))

-- the line of a report
abbrev pub report_json : Parts → List Event → List ℕ
report_json wiring history = json_line (report_value wiring history)
