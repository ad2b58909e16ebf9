use Rattle.std.proofs.Common.{◌≡◌, ◌∙◌, Some, sym, subst, arith}
use Rattle.ccr_ledger.specs.Kept.{Keeps}
use Rattle.ccr_engine.specs.Engine.{Engine, next_event}
use Rattle.ccr_engine.proofs.Reading.{ComesNext-first}
use Rattle.ccr_engine.proofs.Runs.{entered_history}
use Rattle.ccr_engine.proofs.engine.Engine.advance.Goals as goal

pub returns-clause-heard : goal.returns-clause-heard
returns-clause-heard g c = λ before.
    let s = c.args.self.now in
    let is : next_event s ≡ Some c.in-Some.event = grind arith in
    let kept = c.seek.ensures ∙ c.next.ensures.kept in
    let keeps : Keeps s.wiring s.history c.in_ok-tables.field-0.now = subst (λ (e : Engine). Keeps e.wiring e.history c.in_ok-tables.field-0.now) kept c.in_ok-tables.ensures in
    let told = c.in_ok-hear.ensures s.wiring s.history (ComesNext-first s c.in_ok-tables.field-0.now c.in-Some.event c.in_ok-event.ensures.sound keeps is) before in
    subst (λ h. g.L.Listener.has_heard c.hear.new.self s.wiring h) (sym (entered_history s c.seek.new.self c.enter.new.self c.in-Some.event kept c.in_ok-enter.ensures.history is)) told
