use Rattle.std.proofs.Common.{◌≡◌, drop}
use Rattle.ccr_base.specs.Names.{has_task}
use Rattle.ccr_model.specs.Firings.{started}
use Rattle.ccr_laws.proofs.fates.was_started.Given as goal

abbrev pub invariant-loop-event : goal.invariant-loop-event
invariant-loop-event l = has_task (started l.events) l.task ≡ has_task (started (drop l.event-index l.events)) l.task
