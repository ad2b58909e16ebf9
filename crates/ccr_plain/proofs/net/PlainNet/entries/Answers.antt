use Rattle.std.proofs.Common.{subst}
use Rattle.ccr_runs.specs.EntryRuns.{IsRun}
use Rattle.ccr_plain.specs.Served.{Served}
use Rattle.ccr_plain.proofs.ServingKeepsRoom.{roomy_run}
use Rattle.ccr_plain.proofs.net.PlainNet.entries.Goals as goal

pub returns-clause-run : goal.returns-clause-run
returns-clause-run c = subst (λ (x : Served). IsRun x.wiring 16 x.entries) c.self.view_is (roomy_run c.self.inside.places c.self.inside.entries.items _ c.self.inside.owed c.self.inside.seats c.self.invariant)
