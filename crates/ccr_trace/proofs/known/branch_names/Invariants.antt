use Rattle.std.proofs.Common.{◌≡◌, map, take, flat_map}
use Rattle.ccr_trace.specs.Words.{branch_names_of}
use Rattle.ccr_trace.proofs.known.branch_names.Given as goal

abbrev pub invariant-loop-arbiter : goal.invariant-loop-arbiter
invariant-loop-arbiter l = map (λ name. name.now) l.names.items ≡ flat_map branch_names_of (take l.arbiter-index l.parts.arbiters)
