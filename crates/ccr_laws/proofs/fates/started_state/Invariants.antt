use Rattle.std.proofs.Common.{◌≡◌, drop, flat_map}
use Rattle.ccr_model.specs.Fates.{end_of, state_of_started}
use Rattle.ccr_laws.proofs.fates.started_state.Given as goal

abbrev pub invariant-loop-event : goal.invariant-loop-event
invariant-loop-event l = state_of_started (flat_map (end_of l.task) l.events) ≡ state_of_started (flat_map (end_of l.task) (drop l.event-index l.events))
