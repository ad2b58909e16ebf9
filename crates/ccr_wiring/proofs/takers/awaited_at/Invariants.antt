use Rattle.std.proofs.Common.{◌≡◌, drop}
use Rattle.std.specs.List.{slice_get}
use Rattle.ccr_wiring.specs.Wirings.{awaited}
use Rattle.ccr_wiring.proofs.takers.awaited_at.Given as goal

abbrev pub invariant-loop-action : goal.invariant-loop-action
invariant-loop-action l = slice_get (awaited (drop l.action-index l.actions)) l.left ≡ slice_get (awaited l.actions) l.site
