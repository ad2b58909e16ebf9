-- The lines of a report.
use Rattle.std.specs.Prelude.{ℕ, ◌+◌, List, [], ◌∷◌, ◌++◌, map, length, codes, decimal}
use Rattle.ccr_base.specs.declared.names.Spot.{Spot}
use Rattle.ccr_wiring.specs.declared.parts.Parts.{Parts}
use Rattle.ccr_wiring.specs.declared.parts.QueuePart.{QueuePart}
use Rattle.ccr_wiring.specs.Wirings.{spots}
use Rattle.ccr_model.specs.declared.history.Event.{Event}
use Rattle.ccr_model.specs.declared.history.Totals.{Totals}
use Rattle.ccr_model.specs.Posts.{posted, held}
use Rattle.ccr_model.specs.Firings.{fired_at}
use Rattle.ccr_model.specs.Counts.{totals}
use Rattle.ccr_text.specs.Spelling.{text_of}
use Rattle.ccr_wiring.specs.SpotWords.{branch_names, spot_word}
use Rattle.ccr_report.specs.Counting.{taken_at, dropped_at}
use Rattle.ccr_model.specs.Tasks.{put_into}

-- the line of a port
abbrev pub port_words : List Event → ℕ → List ℕ → List (List ℕ)
port_words history port name =
    codes "port" ∷ name
    ∷ codes "posted" ∷ decimal (length (posted history port))
    ∷ codes "taken" ∷ decimal (length (taken_at history port))
    ∷ codes "held" ∷ decimal (length (held history port)) ∷ []

-- the lines of the ports, of which the first has this number
abbrev pub port_lines : List Event → ℕ → List (List ℕ) → List (List (List ℕ))
port_lines history port [] = []
port_lines history port (name ∷ names) = port_words history port name ∷ port_lines history (port + 1) names

-- the line of a branch or an await site
abbrev pub spot_words : List (List ℕ) → List Event → Spot → List (List ℕ)
spot_words branches history spot = codes "branch" ∷ spot_word branches spot ∷ codes "fired" ∷ decimal (length (fired_at history spot)) ∷ []

-- the line of a queue
abbrev pub queue_words : Parts → List Event → ℕ → QueuePart → List (List ℕ)
queue_words wiring history queue part =
    codes "queue" ∷ part.name
    ∷ codes "put" ∷ decimal (length (put_into wiring history queue))
    ∷ codes "dropped" ∷ decimal (length (dropped_at wiring history queue)) ∷ []

-- the lines of the queues, of which the first has this number
abbrev pub queue_lines : Parts → List Event → ℕ → List QueuePart → List (List (List ℕ))
queue_lines wiring history queue [] = []
queue_lines wiring history queue (part ∷ parts) = queue_words wiring history queue part ∷ queue_lines wiring history (queue + 1) parts

-- a word and a number, each behind a space
abbrev pub amount_text : List ℕ → ℕ → List ℕ
amount_text word number = 32 ∷ (word ++ 32 ∷ decimal number)

-- of the totals, what became of messages
abbrev pub message_amounts : Totals → List ℕ
message_amounts total = amount_text (codes "posted") total.posted ++ (amount_text (codes "taken") total.taken ++ (amount_text (codes "held") total.held ++ amount_text (codes "fired") total.fired))

-- and how tasks ended
abbrev pub end_amounts : Totals → List ℕ
end_amounts total = amount_text (codes "done") total.done ++ (amount_text (codes "failed") total.failed ++ (amount_text (codes "shed") total.shed ++ amount_text (codes "yield") total.yielded))

-- and what became of those that came to no end
abbrev pub other_amounts : Totals → List ℕ
other_amounts total = amount_text (codes "cut") total.cut ++ (amount_text (codes "dropped") total.dropped ++ amount_text (codes "left") total.unended)

-- the line of the totals
abbrev pub total_words : Totals → List (List ℕ)
total_words total = codes "total" ∷ codes "posted" ∷ decimal total.posted ∷ codes "taken" ∷ decimal total.taken ∷ codes "held" ∷ decimal total.held
    ∷ codes "fired" ∷ decimal total.fired ∷ codes "done" ∷ decimal total.done ∷ codes "failed" ∷ decimal total.failed ∷ codes "shed" ∷ decimal total.shed
    ∷ codes "yield" ∷ decimal total.yielded ∷ codes "cut" ∷ decimal total.cut ∷ codes "dropped" ∷ decimal total.dropped ∷ codes "left" ∷ decimal total.unended ∷ []

-- a line for each port, spot and queue, and the totals
abbrev pub report_lines : Parts → List Event → List (List (List ℕ))
report_lines wiring history =
    (codes "report" ∷ codes "1" ∷ [])
    ∷ (port_lines history 0 wiring.ports
    ++ map (spot_words (branch_names wiring) history) (spots wiring)
    ++ queue_lines wiring history 0 wiring.queues
    ++ total_words (totals history) ∷ [])

-- the report on the history
abbrev pub report_text : Parts → List Event → List ℕ
report_text wiring history = text_of (report_lines wiring history)
