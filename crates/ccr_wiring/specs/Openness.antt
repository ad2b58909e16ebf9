-- Open posters and handlers: somebody outside plays them.
use Rattle.std.specs.Prelude.{ℕ, Bool, ◌==◌, ◌&&◌, List, [], ◌∷◌, length, Option, Some, None, if◌then◌else◌}
use Rattle.ccr_wiring.specs.declared.parts.OpenPart.{OpenPart}
use Rattle.ccr_wiring.specs.declared.parts.Parts.{Parts}

-- the ports of the part of this number, where the list has it
abbrev pub open_ports_in : List OpenPart → ℕ → Option (List ℕ)
open_ports_in [] number = None
open_ports_in (part ∷ parts) number = if part.part == number then Some part.ports else open_ports_in parts number

-- the ports to which somebody outside may post under the poster's name; none where it posts its script
abbrev pub open_poster : Parts → ℕ → Option (List ℕ)
open_poster wiring poster = open_ports_in wiring.open_posters poster

-- the ports to which a task of the handler may post from outside; none where it plays its actions
abbrev pub open_handler : Parts → ℕ → Option (List ℕ)
open_handler wiring handler = open_ports_in wiring.open_handlers handler

-- no poster and no handler is open
abbrev pub is_closed : Parts → Bool
is_closed wiring = (length wiring.open_posters == 0) && (length wiring.open_handlers == 0)
