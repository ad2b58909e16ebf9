use Rattle.std.proofs.Common.{◌≡◌, ◌≤◌, ℕ, take, unwrap_or, nat_eq}
use Rattle.indexmap.specs.IndexMap.{get}
use Rattle.ccr_wiring.specs.Spots.{times}
use Rattle.ccr_wiring.proofs.spots.has_crowded.Given as goal

-- how often each port stands so far
abbrev pub invariant-loop-port : goal.invariant-loop-port
invariant-loop-port l = ((port : ℕ) → unwrap_or (get nat_eq l.counts port) 0 ≡ times port (take l.port-index l.ports)) × ((port : ℕ) → times port (take l.port-index l.ports) ≤ 16)
