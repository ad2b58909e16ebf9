-- The run of threads is the run of the turns of its entries' actors.
use Rattle.std.proofs.Common.{◌≡◌, ℕ, zero, suc, ◌<◌, ◌+◌, Bool, List, length, None, sym, ap, ◌∙◌, arith}
use Rattle.std.specs.Prelude.{All}
use Rattle.ccr_wiring.specs.declared.parts.Parts.{Parts}
use Rattle.ccr_runs.specs.declared.entries.Entry.{Entry}
use Rattle.ccr_runs.specs.EntryRuns.{scheduled}
use Rattle.ccr_runs.specs.Visible.{visible}
use Rattle.ccr_replay.specs.Schedules.{schedule, IsOfNextSteps}
use Rattle.ccr_commands.specs.Records.{IsToldAsTurns}
use Rattle.ccr_commands.specs.Runs.{IsRun}

module _ (again : (w : Parts) (n : ℕ) (es : List Entry) → IsOfNextSteps w n es → scheduled w (schedule es) ≡ es)
    (actors : (w : Parts) (n : ℕ) (es : List Entry) → IsOfNextSteps w n es → All (λ actor. actor < length w.posters + n) (schedule es)) where
  pub told_as_turns : (json : Bool) (wiring : Parts) (workers : ℕ) (shed : Bool) (text : List ℕ) → 0 < workers → IsRun json wiring workers None shed text → IsToldAsTurns json wiring workers shed text
  told_as_turns json wiring zero shed text some run = absurd (omega (arith, some))
  told_as_turns json wiring (suc n) shed text some run =
      let steps = run.run.begins.1.steps in
      let entries = run.run.begins.0 in (
        schedule entries,
        actors wiring (suc n) entries steps,
        record {
          history = run.history;
          run = record {
            first = run.run.first;
            begins = run.run.begins.3 ∙ ap visible (sym (again wiring (suc n) entries steps));
            finished = run.run.finished;
            legal = run.run.legal;
            complete = run.run.complete;
            quiet = run.run.quiet;
            accounts = run.run.accounts;
            short = run.run.short;
            small = run.run.small;
            sheds = run.run.sheds;
          };
          written = run.written;
        },
      )
