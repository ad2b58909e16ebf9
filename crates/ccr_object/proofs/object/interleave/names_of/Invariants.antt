use Rattle.std.proofs.Common.{◌≡◌, ◌≤◌, length, take, vec_capacity}
use Rattle.ccr_places.specs.Commits.{cut_tasks}
use Rattle.ccr_object.proofs.object.interleave.names_of.Given as goal

abbrev pub invariant-loop-cut : goal.invariant-loop-cut
invariant-loop-cut l = (l.names.items ≡ cut_tasks (take l.cut-index l.cuts)) × (length l.cuts ≤ vec_capacity l.names)
