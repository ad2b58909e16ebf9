use Rattle.std.proofs.Common.{◌≡◌, ◌∙◌, length, Option, None, Some, sym, subst}
use Rattle.std.specs.Prelude.{option_and_then}
use Rattle.std.specs.List.{slice_get}
use Rattle.ccr_wiring.specs.Wirings.{spots}
use Rattle.ccr_ledger.specs.Books.{Books}
use Rattle.ccr_engine.specs.declared.search.Found.{Found}
use Rattle.ccr_engine.specs.Parts.{fire_in}
use Rattle.ccr_engine.specs.Candidates.{IsFirstOpen}
use Rattle.ccr_engine.proofs.Searching.{fewer_left, full_before, IsLeft-next}
use Rattle.ccr_engine.proofs.search.first_blocked.Goals as goal

pub asking-smaller : goal.asking-smaller
asking-smaller c =
    let first = subst (λ (b : Books). IsFirstOpen c.args.wiring.now b c.asking.blocked (length c.asking.blocked) (Some c.in-Some.found)) c.asking.invariant.0 (subst (λ (o : Option Found). IsFirstOpen c.args.wiring.now c.asking.ledger c.asking.blocked (length c.asking.blocked) o) c.in-Some.is c.first_open.ensures) in
    fewer_left c.args.wiring.now c.args.task c.args.ledger.now c.args.blocked.now c.asking.blocked c.leave_first.new.self c.in-Some.found c.asking.invariant.1 first c.leave_first.ensures.others c.leave_first.ensures.rest

pub asking-preserved : goal.asking-preserved
asking-preserved c =
    let first = subst (λ (b : Books). IsFirstOpen c.args.wiring.now b c.asking.blocked (length c.asking.blocked) (Some c.in-Some.found)) c.asking.invariant.0 (subst (λ (o : Option Found). IsFirstOpen c.args.wiring.now c.asking.ledger c.asking.blocked (length c.asking.blocked) o) c.in-Some.is c.first_open.ensures) in
    let vain = subst (λ (b : Books). option_and_then (fire_in c.args.wiring.now c.args.task b) (slice_get (spots c.args.wiring.now) c.in-Some.found.index) ≡ None) c.asking.invariant.0 (sym c.in_ok-event.ensures.event ∙ c.in_default-2.is) in
    (c.in_ok-event.ensures.kept ∙ c.asking.invariant.0, IsLeft-next c.args.wiring.now c.args.task c.args.ledger.now c.args.blocked.now c.asking.blocked c.leave_first.new.self c.in-Some.found c.asking.invariant.1 first c.leave_first.ensures.others c.leave_first.ensures.rest vain c.leave_first.ensures.least)

pub returns-clause-full : goal.returns-clause-full
returns-clause-full c = full_before c.args.wiring.now c.args.ledger.now c.asking.blocked None (subst (λ (b : Books). IsFirstOpen c.args.wiring.now b c.asking.blocked (length c.asking.blocked) None) c.asking.invariant.0 (subst (λ (o : Option Found). IsFirstOpen c.args.wiring.now c.asking.ledger c.asking.blocked (length c.asking.blocked) o) c.in_default.is c.first_open.ensures))
