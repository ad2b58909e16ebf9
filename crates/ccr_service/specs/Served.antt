-- How many requests clients make, and who was torn down.
use Rattle.std.specs.Prelude.{ℕ, ◌+◌, Bool, ◌==◌, ◌&&◌, not, List, [], ◌∷◌, length}
use Rattle.ccr_wiring.specs.Wirings.{Placement}
use Rattle.ccr_model.specs.declared.history.Event.{Event}
use Rattle.ccr_model.specs.Tasks.{fired_by, is_teardown}
use Rattle.ccr_model.specs.Live.{is_none_of}
use Rattle.ccr_service.specs.declared.parts.ClientPart.{ClientPart}
use Rattle.ccr_service.specs.declared.parts.ServiceParts.{ServiceParts}
use Rattle.ccr_service.specs.Expansion.{expansion}

-- how many requests all clients make
abbrev pub asks_in_all : List ClientPart → ℕ
asks_in_all [] = 0
asks_in_all (client ∷ clients) = length client.asks + asks_in_all clients

-- whether a teardown operation has fired
abbrev pub is_torn_down : ServiceParts → List Event → Bool
is_torn_down service history = not (is_none_of (fired_by (expansion service) (λ (s : Placement). (s.domain == 0) && is_teardown s.branch.group) history))
