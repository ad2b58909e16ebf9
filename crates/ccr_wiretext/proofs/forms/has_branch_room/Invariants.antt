use Rattle.std.proofs.Common.{◌≡◌, ◌+◌, length, map, drop}
use Rattle.std.specs.Prelude.{nat_lt, sum}
use Rattle.ccr_wiring.specs.declared.parts.ArbiterPart.{ArbiterPart}
use Rattle.ccr_wiretext.proofs.forms.has_branch_room.Given as goal

-- the room that is left is for the arbiters that are left
abbrev pub invariant-loop-arbiter : goal.invariant-loop-arbiter
invariant-loop-arbiter l =
    nat_lt (sum (map (λ (arbiter : ArbiterPart). length arbiter.branches) (drop l.arbiter-index l.arbiters)) + l.begun) l.left
    ≡ nat_lt (sum (map (λ (arbiter : ArbiterPart). length arbiter.branches) l.arbiters) + l.begun) 256
