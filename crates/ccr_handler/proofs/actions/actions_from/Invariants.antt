use Rattle.std.proofs.Common.{◌≡◌}
use Rattle.ccr_handler.specs.Playing.{actions_from}
use Rattle.ccr_handler.proofs.actions.actions_from.Given as goal

abbrev pub invariant-loop : goal.invariant-loop
invariant-loop l = l.rest ≡ actions_from l.counter l.actions
