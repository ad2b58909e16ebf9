-- What the words for ports, causes and spots stand for in a wiring.
use Rattle.std.specs.Prelude.{ℕ, ◌^◌, ◌<◌, ◌≤◌, List, length, position, is_some, IsSome, Option, Some, None, if◌then◌else◌}
use Rattle.std.specs.List.{All}
use Rattle.std.specs.Str.{bytes_eq}
use Rattle.ccr_base.specs.declared.names.Spot.{Spot}
use Rattle.ccr_base.specs.declared.names.Spot.TheVariants.{Branch, Site}
use Rattle.ccr_wiring.specs.declared.parts.Parts.{Parts}
use Rattle.ccr_wiring.specs.Wirings.{placement, site_port}
use Rattle.ccr_model.specs.declared.history.Event.{Event}
use Rattle.ccr_model.specs.declared.history.Event.TheVariants as events
use Rattle.ccr_model.specs.declared.history.EndHow.{EndHow}
use Rattle.ccr_model.specs.declared.history.EndHow.TheVariants as ends
use Rattle.ccr_trace.specs.Words.{cause_names, branch_names}
use Rattle.ccr_trace.specs.Said.{SpotName, Said, Post, Fire, Admit, Put, Start, End, IsTask, IsMessage, IsDropped, HasNumbers, most_numbers}
use Rattle.ccr_trace.specs.Fields.{◌>>=◌, each}

-- the number of the name: its index among the names
abbrev pub number_in : List (List ℕ) → List ℕ → Option ℕ
number_in names word = position (λ name. bytes_eq word name) names

-- the branch, or its site where it has one of that number
abbrev pub spot_at : Parts → ℕ → Option ℕ → Option Spot
spot_at parts branch None = Some (Branch branch)
spot_at parts branch (Some site) = if is_some (site_port parts branch site) then Some (Site branch site) else None

unfoldable pub spot_known : Parts → SpotName → Option Spot
spot_known parts spot = number_in (branch_names parts) spot.name >>= λ branch. spot_at parts branch spot.site

-- the event, where the wiring has the port, the causes and the spot
unfoldable pub known : Parts → Said → Option Event
known parts (Post id port value causes) = do
  number ← number_in parts.ports port
  numbers ← each (number_in (cause_names parts)) causes
  Some (events.Post (record { id = id; port = number; value = value; causes = numbers }))
known parts (Fire task spot messages cuts) = spot_known parts spot >>= λ index. Some (events.Fire task index messages cuts)
known parts (Admit task) = Some (events.Admit task)
known parts (Put task dropped) = Some (events.Put task dropped)
known parts (Start task actor) = Some (events.Start task actor)
known parts (End task how) = Some (events.End task how)

-- the spot is one of the wiring's
abbrev pub IsKnownSpot : Parts → Spot → Type 0
IsKnownSpot parts (Branch branch) = IsSome (placement parts branch)
IsKnownSpot parts (Site branch site) = IsSome (site_port parts branch site)

-- the value has no more numbers than the wiring's version lets it have
abbrev pub IsOfVersion : Parts → List ℕ → Type 0
IsOfVersion parts value = length value ≤ most_numbers parts.version

-- the value of a failure is one of the wiring's version
abbrev pub IsKnownEnd : Parts → EndHow → Type 0
IsKnownEnd parts (ends.Failed value) = IsOfVersion parts value
IsKnownEnd parts ends.Done = Unit {0}
IsKnownEnd parts ends.Yield = Unit {0}
IsKnownEnd parts ends.Shed = Unit {0}

-- the numbers of ports, causes and spots are the wiring's, and values are of its version
abbrev pub IsKnown : Parts → Event → Type 0
IsKnown parts (events.Post message) = (message.port < length parts.ports) × All (λ cause. cause < length parts.causes) message.causes × IsOfVersion parts message.value
IsKnown parts (events.Fire task spot messages cuts) = IsKnownSpot parts spot
IsKnown parts (events.Admit task) = Unit {0}
IsKnown parts (events.Put task dropped) = Unit {0}
IsKnown parts (events.Start task actor) = Unit {0}
IsKnown parts (events.End task how) = IsKnownEnd parts how

-- each event names only what the wiring has
abbrev pub AreKnown : Parts → List Event → Type 0
AreKnown parts history = All (IsKnown parts) history

-- a firing names a message at least
abbrev pub HasMessages : Event → Type 0
HasMessages (events.Fire task spot messages cuts) = 0 < length messages
HasMessages (events.Post message) = Unit {0}
HasMessages (events.Admit task) = Unit {0}
HasMessages (events.Put task dropped) = Unit {0}
HasMessages (events.Start task actor) = Unit {0}
HasMessages (events.End task how) = Unit {0}

-- each firing takes a message at least
abbrev pub HaveMessages : List Event → Type 0
HaveMessages history = All HasMessages history

-- the number of the site fits 32 bits
abbrev pub IsShortSpot : Spot → Type 0
IsShortSpot (Branch branch) = Unit {0}
IsShortSpot (Site branch site) = site < 2 ^ 32

-- the value of a failure has numbers, few enough
abbrev pub IsShortEnd : EndHow → Type 0
IsShortEnd (ends.Failed value) = HasNumbers value
IsShortEnd ends.Done = Unit {0}
IsShortEnd ends.Yield = Unit {0}
IsShortEnd ends.Shed = Unit {0}

-- actors, attempts, places and sites are below 2 ^ 32, and the numbers of values below 2 ^ 64, as the types of an event have it
abbrev pub IsShort : Event → Type 0
IsShort (events.Post message) = IsMessage message.id × HasNumbers message.value
IsShort (events.Fire task spot messages cuts) = IsTask task × IsShortSpot spot × All IsMessage messages × All IsTask cuts
IsShort (events.Admit task) = IsTask task
IsShort (events.Put task dropped) = IsTask task × IsDropped dropped
IsShort (events.Start task actor) = IsTask task × (actor < 2 ^ 32)
IsShort (events.End task how) = IsTask task × IsShortEnd how

-- the numbers of each event fit their types
abbrev pub AreShort : List Event → Type 0
AreShort history = All IsShort history
