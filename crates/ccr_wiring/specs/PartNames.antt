-- The names of the parts by their numbers: which stands at the number among those of the kind.
use Rattle.std.specs.Prelude.{ℕ, List, map}
use Rattle.ccr_wiring.specs.declared.parts.ArbiterPart.{ArbiterPart}
use Rattle.ccr_wiring.specs.declared.parts.Parts.{Parts}
use Rattle.ccr_wiring.specs.Names.{queue_names, cause_names, handler_names}
use Rattle.ccr_wiring.specs.SpotWords.{name_at}

-- the name of the port, or no byte. The others are likewise
abbrev pub port_name : Parts → ℕ → List ℕ
port_name parts port = name_at parts.ports port

-- the name of the queue
abbrev pub queue_name : Parts → ℕ → List ℕ
queue_name parts queue = name_at (queue_names parts.queues) queue

-- the name of the cause
abbrev pub cause_name : Parts → ℕ → List ℕ
cause_name parts cause = name_at (cause_names parts.causes) cause

-- the name of the handler
abbrev pub handler_name : Parts → ℕ → List ℕ
handler_name parts handler = name_at (handler_names parts.handlers) handler

-- the name of the arbiter
abbrev pub arbiter_name : Parts → ℕ → List ℕ
arbiter_name parts arbiter = name_at (map (λ (part : ArbiterPart). part.name) parts.arbiters) arbiter
