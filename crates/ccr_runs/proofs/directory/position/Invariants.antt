use Rattle.std.proofs.Common.{◌≡◌, ◌+◌, ◌-◌, ◌≤◌, length, drop}
use Rattle.ccr_runs.specs.Played.{position_of}
use Rattle.ccr_runs.proofs.directory.position.Given as goal

-- it isn't among those that were passed
abbrev pub invariant-loop-number : goal.invariant-loop-number
invariant-loop-number l = (l.number ≤ length l.places) × (position_of l.place l.places ≡ l.number + position_of l.place (drop l.number l.places))

abbrev pub decreases-loop-number : goal.decreases-loop-number
decreases-loop-number l = length l.places - l.number
