use Rattle.std.proofs.Common.{◌≡◌, Option, Some, sym, subst, arith}
use Rattle.std.specs.Prelude.{IfOk, IfNone, option_and_then}
use Rattle.std.specs.List.{slice_get}
use Rattle.ccr_wiring.specs.Wirings.{spots}
use Rattle.ccr_model.specs.declared.history.Event.{Event}
use Rattle.ccr_ledger.specs.Books.{Books}
use Rattle.ccr_engine.specs.Candidates.{IsNoneBefore}
use Rattle.ccr_engine.specs.Parts.{fire_in, first_fire_in}
use Rattle.ccr_engine.proofs.Searching.{asked_all, first_at}
use Rattle.ccr_engine.proofs.search.first_of_both.Goals as goal

pub returns-in_default-clause-event : goal.returns-in_default-clause-event
returns-in_default-clause-event c = subst (λ (b : Books). IfOk c.first_touched.result (λ (o : Option Event). o ≡ first_fire_in c.args.wiring.now c.args.task b (spots c.args.wiring.now))) c.in_ok-index.ensures.kept (asked_all c.args.wiring.now c.args.task c.first_blocked.new.ledger c.first_touched.result c.first_touched.ensures.event c.first_touched.ensures.none)

fires : (c : goal.In-None) → option_and_then (fire_in c.args.wiring.now c.args.task c.args.ledger.now) (slice_get (spots c.args.wiring.now) c.in-Some.index) ≡ Some c.in-Some.event
fires c = grind arith

none_before : (c : goal.In-None) → IsNoneBefore c.args.wiring.now c.args.task c.args.ledger.now (Some c.in-Some.index)
none_before c = subst (λ (b : Books). IsNoneBefore c.args.wiring.now c.args.task b (Some c.in-Some.index)) c.in_ok-index.ensures.kept (subst (λ (o : Option Event). IfNone o (IsNoneBefore c.args.wiring.now c.args.task c.first_blocked.new.ledger (Some c.in-Some.index))) c.in-None.is c.in_ok-earlier.ensures.none)

pub returns-in-None-clause-event : goal.returns-in-None-clause-event
returns-in-None-clause-event c = sym (first_at c.args.wiring.now c.args.task c.args.ledger.now c.in-Some.index c.in-Some.event (none_before c) (fires c))
