-- How often each port stands among those that spots name.
use Rattle.std.specs.Prelude.{◌≡◌, ℕ, List, nat_eq}
use Rattle.std.specs.Option.{unwrap_or}
use Rattle.indexmap.specs.IndexMap.{IndexMap, get}
use Rattle.ccr_wiring.specs.Spots.{times}

-- each port stands there as often as the map says, and a port that it doesn't have stands there never
abbrev pub AreCounts : {S : Type 0} → List ℕ → IndexMap ℕ ℕ S → Type 0
AreCounts ports counts = (port : ℕ) → unwrap_or (get nat_eq counts port) 0 ≡ times port ports
