use Rattle.std.proofs.Common.{◌≡◌, drop}
use Rattle.ccr_model.specs.Firings.{firing_named}
use Rattle.ccr_model.proofs.firings.messages_of.Given as goal

abbrev pub invariant-loop-event : goal.invariant-loop-event
invariant-loop-event l = firing_named l.events l.task ≡ firing_named (drop l.event-index l.events) l.task
