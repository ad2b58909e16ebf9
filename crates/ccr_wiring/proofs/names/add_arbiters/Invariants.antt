use Rattle.std.proofs.Common.{map, flat_map}
use Rattle.ccr_wiring.specs.Names.{arbiter_names}
use Rattle.ccr_base.proofs.Loops.{AddsUp}
use Rattle.ccr_wiring.proofs.names.add_arbiters.Given as goal

-- the names so far and those still to come are all
abbrev pub invariant-loop-arbiter : goal.invariant-loop-arbiter
invariant-loop-arbiter l = AddsUp (flat_map arbiter_names) l.arbiters l.arbiter-index (map (λ name. name.now) l.fn.names.items) (map (λ name. name.now) l.names.items)
