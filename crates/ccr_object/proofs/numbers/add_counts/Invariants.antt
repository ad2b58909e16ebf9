use Rattle.std.proofs.Common.{◌≡◌, ◌++◌, take, map}
use Rattle.ccr_object.specs.Numbers.{site_count}
use Rattle.ccr_object.proofs.numbers.add_counts.Given as goal

abbrev pub invariant-loop-branch : goal.invariant-loop-branch
invariant-loop-branch l = l.counts.items ≡ l.fn.counts.items ++ map (site_count l.wiring) (take l.branch-index l.branches)
