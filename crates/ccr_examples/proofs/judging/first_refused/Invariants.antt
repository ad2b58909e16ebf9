-- The judge accepted the events so far, and what is left is refused where all are.
use Rattle.std.proofs.Common.{◌≡◌, [], drop, take}
use Rattle.ccr_model.specs.Legal.{first_refusal}
use Rattle.ccr_examples.proofs.judging.first_refused.Given as goal

abbrev pub invariant-loop-event : goal.invariant-loop-event
invariant-loop-event l = record {
  judge : l.judge ≡ record l.initial.judge { history = take l.event-index l.events };
  refusal : first_refusal l.initial.judge.wiring (take l.event-index l.events) l.event-index (drop l.event-index l.events) ≡ first_refusal l.initial.judge.wiring [] 0 l.events;
}
