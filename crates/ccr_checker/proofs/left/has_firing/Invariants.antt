use Rattle.std.proofs.Common.{◌≡◌, drop}
use Rattle.std.specs.List.{list_any}
use Rattle.ccr_wiring.specs.Wirings.{spots}
use Rattle.ccr_checker.specs.LeftInTables.{can_fire_in}
use Rattle.ccr_checker.proofs.left.has_firing.Given as goal

abbrev pub invariant-loop-spot : goal.invariant-loop-spot
invariant-loop-spot l = record {
  kept : l.ledger ≡ l.initial.ledger;
  left : list_any (can_fire_in l.wiring l.initial.ledger) (drop l.spot-index l.spot-items) ≡ list_any (can_fire_in l.wiring l.initial.ledger) (spots l.wiring);
}
