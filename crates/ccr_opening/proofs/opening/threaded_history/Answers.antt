use Rattle.std.proofs.Common.{◌∙◌, sym}
use Rattle.ccr_opening.proofs.Beginnings.{begun}
use Rattle.ccr_opening.proofs.opening.threaded_history.Goals as goal

pub returns-clause-begins : goal.returns-clause-begins
returns-clause-begins g c =
    let its = c.in_ok-closed.ensures.run in
    begun c.args.wiring.now c.args.workers its.entries c.in_ok-closed.closed.short c.in_ok-first.first c.requires.some
    (sym c.in_ok-first.ensures.short) its.run its.rest its.threads (c.in_ok-first.ensures.history ∙ its.shown)
