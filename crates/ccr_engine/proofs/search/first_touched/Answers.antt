use Rattle.std.proofs.Common.{◌≡◌, ◌∙◌, Some, sym, subst, arith}
use Rattle.std.specs.Prelude.{option_and_then}
use Rattle.std.specs.List.{slice_get}
use Rattle.ccr_wiring.specs.Wirings.{spots}
use Rattle.ccr_ledger.specs.Books.{Books}
use Rattle.ccr_engine.specs.Parts.{fire_in}
use Rattle.ccr_engine.proofs.Searching.{touched_fires, touched_behind, touched_ends}
use Rattle.ccr_engine.proofs.search.first_touched.Goals as goal

pub returns-then-not-is_before-clause-none : goal.returns-then-not-is_before-clause-none
returns-then-not-is_before-clause-none c = touched_behind c.args.wiring.now c.args.task c.args.ledger.now c.asking.touched c.asking.blocked c.asking.invariant.1 c.args.limit c.asking.invariant.2 c.in-Some.index (sym c.first.ensures ∙ c.in-Some.is) (grind arith)

pub returns-in-Some-2-clause-event : goal.returns-in-Some-2-clause-event
returns-in-Some-2-clause-event c = touched_fires c.args.wiring.now c.args.task c.args.ledger.now c.asking.touched c.asking.blocked c.asking.invariant.1 c.args.limit c.asking.invariant.2 c.in-Some.index c.in-Some-2.event (sym c.first.ensures ∙ c.in-Some.is) (grind arith)
    (subst (λ (b : Books). option_and_then (fire_in c.args.wiring.now c.args.task b) (slice_get (spots c.args.wiring.now) c.in-Some.index) ≡ Some c.in-Some-2.event) c.asking.invariant.0 (sym c.in_ok-event.ensures.event ∙ c.in-Some-2.is))

pub returns-clause-none : goal.returns-clause-none
returns-clause-none c = touched_ends c.args.wiring.now c.args.task c.args.ledger.now c.asking.touched c.asking.blocked c.asking.invariant.1 c.args.limit c.asking.invariant.2 (sym c.first.ensures ∙ c.in_default.is)
