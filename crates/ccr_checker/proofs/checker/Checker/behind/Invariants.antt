use Rattle.std.proofs.Common.{◌≡◌, take}
use Rattle.ccr_checker.proofs.checker.Checker.behind.Given as goal

abbrev pub invariant-loop-event : goal.invariant-loop-event
invariant-loop-event l = l.checker ≡ record { wiring = l.wiring; history = take l.event-index l.events }
