-- The objects of which a report and a wiring are made, by the values of their members.
use Rattle.std.specs.Prelude.{ℕ, List, codes}
use Rattle.serde_json.specs.Data.{Data, string, object, member, no_members}
use Rattle.serde_json.specs.View.{view}
use Rattle.ccr_json.specs.declared.wiring.Lists.{Lists}
use Rattle.ccr_json.specs.Lines.{count, listed}

-- of a port: what it holds, its name, and how many messages were posted there and taken
abbrev pub port_object : ℕ → Data → ℕ → ℕ → Data
port_object held name posted taken = object (member (codes "held") (count held) (member (codes "name") name (member (codes "posted") (count posted) (member (codes "taken") (count taken) no_members))))

-- of a queue: how many tasks it dropped, its name, and how many were put into it
abbrev pub queue_object : ℕ → Data → ℕ → Data
queue_object dropped name put = object (member (codes "dropped") (count dropped) (member (codes "name") name (member (codes "put") (count put) no_members)))

-- of a spot: how often it fired, and its name
abbrev pub spot_object : ℕ → Data → Data
spot_object fired name = object (member (codes "fired") (count fired) (member (codes "name") name no_members))

-- of a report: those of its spots, ports and queues, and its totals
abbrev pub report_object : List Data → List Data → List Data → Data → Data
report_object branches ports queues total =
    object (member (codes "branches") (listed branches)
    (member (codes "ports") (listed ports)
    (member (codes "queues") (listed queues)
    (member (codes "total") total no_members))))

-- of a branch: its group's word, its handler, its name, its pattern and its queue
abbrev pub branch_object : List ℕ → Data → Data → Data → Data → Data
branch_object group handler name pattern queue =
    object (member (codes "group") (string group)
    (member (codes "handler") handler
    (member (codes "name") name
    (member (codes "pattern") pattern
    (member (codes "queue") queue no_members)))))

-- of a wiring: its lists, its budget and its version
abbrev pub wiring_object : Data → ℕ → Data → Data → Data → Data → Data → Data → Data → ℕ → Data
wiring_object arbiters budget causes domains handlers ports posters queues sets version =
    object (member (codes "arbiters") arbiters
    (member (codes "budget") (count budget)
    (member (codes "causes") causes
    (member (codes "domains") domains
    (member (codes "handlers") handlers
    (member (codes "ports") ports
    (member (codes "posters") posters
    (member (codes "queues") queues
    (member (codes "sets") sets
    (member (codes "version") (count version) no_members))))))))))

-- of a wiring, by the values of its lists
abbrev pub lists_object : Lists → ℕ → ℕ → Data
lists_object lists budget version =
    wiring_object (view lists.arbiters) budget (view lists.causes) (view lists.domains) (view lists.handlers) (view lists.ports) (view lists.posters) (view lists.queues) (view lists.sets) version
