use Rattle.std.proofs.Common.{◌≡◌, take}
use Rattle.ccr_object.specs.Starts.{groups_of}
use Rattle.ccr_object.proofs.starting.groups_of.Given as goal

-- the groups so far
abbrev pub invariant-loop-member : goal.invariant-loop-member
invariant-loop-member l = l.groups.items ≡ groups_of (take l.member-index l.listed)
