use Rattle.std.proofs.Common.{◌≤◌}
use Rattle.ccr_wiring.specs.Wirings.{awaited, sites_from}
use Rattle.ccr_base.proofs.Loops.{AddsUpFrom}
use Rattle.ccr_wiring.proofs.spots.add_sites.Given as goal

-- the sites so far and those still to come are all
abbrev pub invariant-loop-action : goal.invariant-loop-action
invariant-loop-action l = AddsUpFrom (λ site rest. sites_from l.branch site (awaited rest)) l.actions l.action-index l.site 0 l.fn.spots.items l.spots.items × (l.site ≤ l.action-index)
