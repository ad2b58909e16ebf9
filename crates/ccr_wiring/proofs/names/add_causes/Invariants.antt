use Rattle.std.proofs.Common.{◌≡◌, ◌++◌, map, drop}
use Rattle.ccr_wiring.specs.Names.{cause_names}
use Rattle.ccr_wiring.proofs.names.add_causes.Given as goal

-- the names so far and those still to come are all
abbrev pub invariant-loop-part : goal.invariant-loop-part
invariant-loop-part l = map (λ name. name.now) l.names.items ++ cause_names (drop l.part-index l.parts) ≡ map (λ name. name.now) l.fn.names.items ++ cause_names l.parts
