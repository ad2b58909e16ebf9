use Rattle.ccr_runs.specs.EntryRuns.{IsRun, never}
use Rattle.ccr_examples.proofs.following.follow.Goals as goal

pub returns-clause-legal : goal.returns-clause-legal
returns-clause-legal c =
    let run : IsRun c.args.wiring.now c.args.workers c.in_ok-full.full.entries = record { lacks = never; steps = c.in_ok-full.ensures.run } in
    c.in_ok-visible.ensures.legal c.args.workers c.requires.workers run
