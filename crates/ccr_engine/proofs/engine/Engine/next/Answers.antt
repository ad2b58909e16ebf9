use Rattle.std.proofs.Common.{◌≡◌, subst, arith}
use Rattle.std.specs.Prelude.{IfSome, IfNone}
use Rattle.ccr_wiring.specs.declared.parts.Parts.{Parts}
use Rattle.ccr_laws.proofs.Valid.{HasFewParts-valid}
use Rattle.ccr_model.specs.Legal.{IsAllowed, IsQuiet}
use Rattle.ccr_engine.specs.Desk.{IsAhead, IsRead, first_in}
use Rattle.ccr_engine.specs.Engine.{Engine, IsSound, next_event}
use Rattle.ccr_engine.proofs.Reading.{IsIdle-read, IsRead-ahead, is_next-read}
use Rattle.ccr_engine.proofs.Runs.{allowed-next, quiet-next}
use Rattle.ccr_engine.proofs.engine.Engine.next.Goals as goal

pub next_event-requires-clause-few : goal.next_event-requires-clause-few
next_event-requires-clause-few c = rw c.wiring.ensures (omega (arith, c.self.invariant.sound.high, c.self.invariant.sound.low))

pub next_event-requires-clause-queues : goal.next_event-requires-clause-queues
next_event-requires-clause-queues c = let few = HasFewParts-valid c.self.inside.indices c.self.invariant.sound.valid in rw c.wiring.ensures (omega (arith, few.queues))

pub next_event-requires-clause-idle : goal.next_event-requires-clause-idle
next_event-requires-clause-idle c = rw c.wiring.ensures (IsIdle-read _ c.self.inside.desk (subst (IsRead _ c.self.inside.desk) (grind arith) c.self.invariant))

pub returns-clause-event : goal.returns-clause-event
returns-clause-event c =
    let first : c.in_ok-next.next ≡ first_in c.self.inside.indices c.self.inside.closer c.self.inside.desk = subst (λ (w : Parts). c.in_ok-next.next ≡ first_in w c.self.inside.closer c.self.inside.desk) c.wiring.ensures c.in_ok-next.ensures.event in
    subst (λ (s : Engine). c.in_ok-next.next ≡ next_event s) c.self.view_is (is_next-read _ c.self.inside.desk c.in_ok-next.next (subst (IsRead _ c.self.inside.desk) (grind arith) c.self.invariant) first)

pub returns-clause-allowed : goal.returns-clause-allowed
returns-clause-allowed c =
    let first : c.in_ok-next.next ≡ first_in c.self.inside.indices c.self.inside.closer c.self.inside.desk = subst (λ (w : Parts). c.in_ok-next.next ≡ first_in w c.self.inside.closer c.self.inside.desk) c.wiring.ensures c.in_ok-next.ensures.event in
    subst (λ (s : Engine). IfSome c.in_ok-next.next (IsAllowed s.wiring s.history)) c.self.view_is (allowed-next _ c.self.invariant.sound c.in_ok-next.next (is_next-read _ c.self.inside.desk c.in_ok-next.next (subst (IsRead _ c.self.inside.desk) (grind arith) c.self.invariant) first))

pub returns-clause-quiet : goal.returns-clause-quiet
returns-clause-quiet c =
    let first : c.in_ok-next.next ≡ first_in c.self.inside.indices c.self.inside.closer c.self.inside.desk = subst (λ (w : Parts). c.in_ok-next.next ≡ first_in w c.self.inside.closer c.self.inside.desk) c.wiring.ensures c.in_ok-next.ensures.event in
    subst (λ (s : Engine). IfNone c.in_ok-next.next (IsQuiet s.wiring s.history)) c.self.view_is (quiet-next _ c.self.invariant.sound c.in_ok-next.next (is_next-read _ c.self.inside.desk c.in_ok-next.next (subst (IsRead _ c.self.inside.desk) (grind arith) c.self.invariant) first))

pub invariant_of-self-2 : goal.invariant_of-self-2
invariant_of-self-2 c =
    let ahead : IsAhead c.self.inside.indices c.self.inside.closer c.self.inside.desk c.next_event.new.self = subst (λ (w : Parts). IsAhead w c.self.inside.closer c.self.inside.desk c.next_event.new.self) c.wiring.ensures c.in_ok-next.ensures.ahead in
    IsRead-ahead _ c.self.inside.desk c.next_event.new.self (subst (IsRead _ c.self.inside.desk) (grind arith) c.self.invariant) ahead

pub returns-clause-sound : goal.returns-clause-sound
returns-clause-sound c = subst IsSound c.self.view_is c.self.invariant.sound
