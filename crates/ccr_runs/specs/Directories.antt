-- The numbers of places, kept by kind.
use Rattle.std.specs.Prelude.{◌≡◌, ◌<◌, ◌≤◌, ℕ, List, length, slice_get, slice_index, Some}
use Rattle.ccr_base.specs.Bounds.{most_places}
use Rattle.ccr_base.specs.declared.names.Place.{Place}
use Rattle.ccr_base.specs.declared.names.Place.TheVariants as places
use Rattle.ccr_runs.specs.declared.directory.Sort.{Sort}
use Rattle.ccr_runs.specs.declared.directory.Sort.TheVariants.{Ports, Arbiters, SitesOf, Queues}
use Rattle.ccr_runs.specs.Played.{position_of}

-- the place of this kind and number
abbrev pub place_in : Sort → ℕ → Place
place_in Ports number = places.Port number
place_in Arbiters number = places.Arbiter number
place_in (SitesOf branch) number = places.Site branch number
place_in Queues number = places.Queue number

-- each is the number of its place
abbrev pub AreNumbers : List Place → Sort → List ℕ → Type 0
AreNumbers all sort numbers = (k : ℕ) → k < length numbers → slice_index numbers k ≡ position_of (place_in sort k) all

-- so for the sites of each branch
abbrev pub AreRows : List Place → List (List ℕ) → Type 0
AreRows all rows = (branch : ℕ) (row : List ℕ) → slice_get rows branch ≡ Some row → AreNumbers all (SitesOf branch) row

-- each number that is kept is that of its place
pub record IsIndexed (all : List Place) (ports arbiters : List ℕ) (sites : List (List ℕ)) (queues : List ℕ) (meter : ℕ) : Type 0 where
  pub some : 1 ≤ length all
  pub few : length all ≤ most_places
  pub at_ports : AreNumbers all Ports ports
  pub at_arbiters : AreNumbers all Arbiters arbiters
  pub at_sites : AreRows all sites
  pub at_queues : AreNumbers all Queues queues
  pub at_meter : meter ≡ position_of places.Meter all
