use Rattle.std.proofs.Common.{◌≡◌, ◌++◌, map, take}
use Rattle.ccr_wiring.specs.declared.parts.BranchPart.{BranchPart}
use Rattle.ccr_trace.proofs.known.add_branches.Given as goal

abbrev pub invariant-loop-part : goal.invariant-loop-part
invariant-loop-part l = map (λ name. name.now) l.names.items ≡ map (λ name. name.now) l.fn.names.items ++ map (λ (part : BranchPart). part.name) (take l.part-index l.arbiter.branches)
