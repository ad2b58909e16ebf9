use Rattle.std.proofs.Common.{subst, sym}
use Rattle.ccr_runs.specs.EntryRuns.{IsRun}
use Rattle.ccr_plain.specs.Served.{Served}
use Rattle.ccr_plain.proofs.ServingKeepsRoom.{roomy_run}
use Rattle.ccr_plain.proofs.net.PlainNet.full.Goals as goal

pub returns-clause-run : goal.returns-clause-run
returns-clause-run c =
    let run = subst (λ (x : Served). IsRun x.wiring 16 c.self.inside.entries.items) c.self.view_is (roomy_run c.self.inside.places c.self.inside.entries.items _ c.self.inside.owed c.self.inside.seats c.self.invariant) in
    subst (IsRun c.args.self.wiring 16) (sym c.from_vec.ensures) run
