use Rattle.std.proofs.Common.{◌≡◌, ◌++◌, drop}
use Rattle.std.specs.Prelude.{filter_map}
use Rattle.ccr_object.specs.Starts.{member_at}
use Rattle.ccr_object.proofs.starting.members.Given as goal

-- the branches so far and those still to come are all
abbrev pub invariant-loop-spot : goal.invariant-loop-spot
invariant-loop-spot l = l.listed.items ++ filter_map (member_at l.wiring l.domain) (drop l.spot-index l.spot-items) ≡ filter_map (member_at l.wiring l.domain) l.spot-items
