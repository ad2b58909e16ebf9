use Rattle.std.proofs.Common.{List, subst}
use Rattle.ccr_wiring.specs.declared.parts.Parts.{Parts}
use Rattle.ccr_model.specs.declared.history.Event.{Event}
use Rattle.ccr_trace.specs.Written.{IsWritten}
use Rattle.ccr_trace.proofs.writing.write_history.Goals as goal

pub returns-clause-text : goal.returns-clause-text
returns-clause-text c =
    let w : IsWritten c.args.wiring.now c.args.history.now c.add_events.new.text = subst (λ (h : List Event). IsWritten c.args.wiring.now h c.add_events.new.text) c.events-events.ensures (subst (λ (p : Parts). IsWritten p c.events-events.result.now c.add_events.new.text) c.in_ok-names.ensures c.in_ok-add_events.ensures) in
    w.spelled

pub returns-clause-numbers : goal.returns-clause-numbers
returns-clause-numbers c =
    let w : IsWritten c.args.wiring.now c.args.history.now c.add_events.new.text = subst (λ (h : List Event). IsWritten c.args.wiring.now h c.add_events.new.text) c.events-events.ensures (subst (λ (p : Parts). IsWritten p c.events-events.result.now c.add_events.new.text) c.in_ok-names.ensures c.in_ok-add_events.ensures) in
    w.short

pub returns-clause-written : goal.returns-clause-written
returns-clause-written c = subst (λ (h : List Event). IsWritten c.args.wiring.now h c.add_events.new.text) c.events-events.ensures (subst (λ (p : Parts). IsWritten p c.events-events.result.now c.add_events.new.text) c.in_ok-names.ensures c.in_ok-add_events.ensures)

pub returns-clause-again : goal.returns-clause-again
returns-clause-again c = λ more there some.
    let w : IsWritten c.args.wiring.now c.args.history.now c.add_events.new.text = subst (λ (h : List Event). IsWritten c.args.wiring.now h c.add_events.new.text) c.events-events.ensures (subst (λ (p : Parts). IsWritten p c.events-events.result.now c.add_events.new.text) c.in_ok-names.ensures c.in_ok-add_events.ensures) in
    rw w.spelled (c.what_is_written_is_read.ensures c.args.wiring.now c.args.history.now more c.parts-parts.ensures.valid there some w.short)
