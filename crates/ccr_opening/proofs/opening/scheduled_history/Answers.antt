use Rattle.std.proofs.Common.{◌≤◌, ◌+◌, length, sym, subst, arith, rules}
use Rattle.ccr_model.specs.Firings.{fired}
use Rattle.ccr_model.specs.Order.{next_attempt}
use Rattle.ccr_runs.specs.EntryRuns.{IsRun, never}
use Rattle.ccr_opening.proofs.opening.scheduled_history.Goals as goal

pub returns-clause-legal : goal.returns-clause-legal
returns-clause-legal c =
    let run : IsRun c.args.wiring.now c.args.workers c.in_ok-full.full.entries = record { lacks = never; steps = c.in_ok-full.ensures.run } in
    c.in_ok-first.ensures.legal c.args.workers c.requires.workers run

pub returns-clause-attempts : goal.returns-clause-attempts
returns-clause-attempts c =
    let run : IsRun c.args.wiring.now c.args.workers c.in_ok-full.full.entries = record { lacks = never; steps = c.in_ok-full.ensures.run } in
    let low = c.closers_are_new_to_runs.ensures.attempts c.args.wiring.now c.args.workers c.in_ok-full.full.entries (search rules) c.requires.workers run in
    let few : next_attempt (length c.args.wiring.now.posters + c.args.workers) (fired c.in_ok-first.first) ≤ 1 = subst (λ h. next_attempt (length c.args.wiring.now.posters + c.args.workers) (fired h) ≤ 1) (sym c.in_ok-first.ensures.exact) low in
    omega arith
