use Rattle.std.proofs.Common.{◌≡◌, take}
use Rattle.ccr_wiring.specs.Repeats.{members_in_all}
use Rattle.ccr_wiring.proofs.repeats.members_in_all.Given as goal

abbrev pub invariant-loop-domain : goal.invariant-loop-domain
invariant-loop-domain l = l.members.items ≡ members_in_all (take l.domain-index l.domains)
