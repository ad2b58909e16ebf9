-- The spots that take from a port, and the branches of a queue.
use Rattle.std.specs.Prelude.{◌≡◌, ℕ, ◌<◌, ◌==◌, Bool, false, List, [], ◌∷◌, ◌++◌, filter, length, Some, if◌then◌else◌}
use Rattle.std.specs.List.{slice_get}
use Rattle.std.specs.Option.{option_map_or}
use Rattle.ccr_base.specs.declared.names.Spot.{Spot}
use Rattle.ccr_base.specs.declared.names.Spot.TheVariants.{Branch, Site}
use Rattle.ccr_base.specs.Lists.{has_number}
use Rattle.ccr_wiring.specs.declared.parts.Parts.{Parts}
use Rattle.ccr_wiring.specs.Spots.{pattern_ports}
use Rattle.ccr_wiring.specs.Wirings.{Placement, placement, site_port, spots}

-- whether a firing at the spot takes messages of the port: its pattern names the port, or the site awaits it
abbrev pub takes_from : Parts → ℕ → Spot → Bool
takes_from wiring port (Branch branch) = option_map_or (λ (s : Placement). has_number (pattern_ports s.branch.pattern) port) (placement wiring branch) false
takes_from wiring port (Site branch site) = option_map_or (λ other. other == port) (site_port wiring branch site) false

-- the spots that take from the port
abbrev pub spots_at : Parts → ℕ → List Spot
spots_at wiring port = filter (takes_from wiring port) (spots wiring)

-- whether the spot is a branch of the queue
abbrev pub is_for : Parts → ℕ → Spot → Bool
is_for wiring queue (Branch branch) = option_map_or (λ (s : Placement). s.branch.queue == queue) (placement wiring branch) false
is_for wiring queue (Site branch site) = false

-- the branches of the queue
abbrev pub branches_of : Parts → ℕ → List Spot
branches_of wiring queue = filter (is_for wiring queue) (spots wiring)

-- what the list of each number that passes the test got behind it
abbrev pub more_for : (ℕ → Bool) → Spot → ℕ → List Spot
more_for test spot number = if test number then spot ∷ [] else []

-- the spot came to the end of the list of each number that passes the test, and into no other
pub record IsNoted (test : ℕ → Bool) (spot : Spot) (old new : List (List Spot)) : Type 0 where
  pub size : length new ≡ length old
  pub each : (number : ℕ) (list : List Spot) → slice_get old number ≡ Some list → slice_get new number ≡ Some (list ++ more_for test spot number)

-- of each of so many numbers those of the spots that pass its test
pub record AreListed (test : ℕ → Spot → Bool) (count : ℕ) (seen : List Spot) (lists : List (List Spot)) : Type 0 where
  pub size : length lists ≡ count
  pub each : (number : ℕ) → number < count → slice_get lists number ≡ Some (filter (test number) seen)

-- the lists of all ports and of all queues
pub record AreTaken (wiring : Parts) (seen : List Spot) (ports queues : List (List Spot)) : Type 0 where
  pub by_port : AreListed (takes_from wiring) (length wiring.ports) seen ports
  pub by_queue : AreListed (is_for wiring) (length wiring.queues) seen queues
