-- All holds after each run, and what each step then keeps holds too.
use Rattle.std.proofs.Common.{◌≤◌, ℕ, ◌+◌, List, [], ◌∷◌, ◌++◌, length}
use Rattle.ccr_wiring.specs.declared.parts.Parts.{Parts}
use Rattle.ccr_wiring.specs.Valid.{IsValid}
use Rattle.ccr_runs.specs.declared.entries.Entry.{Entry}
use Rattle.ccr_runs.specs.EntryRuns.{IsRunAfter, Lacks}
use Rattle.ccr_net.proofs.Kept.WholeInvariant.{Holds}
use Rattle.ccr_net.proofs.Parts.OneMoreEntry.{Step, Step-made, along_run}
use Rattle.ccr_net.proofs.Played.PlayedRunsAreRuns.{run_on}
use Rattle.ccr_net.proofs.Played.HoldersOfTasksAnswer.{run_holds}

module _ (w : Parts) (workers : ℕ) (lacks : Lacks) (valid : IsValid w) (few : workers ≤ 16) where
  pub holds_so : (es : List Entry) → IsRunAfter w workers lacks [] es → Holds w (length w.posters + workers) lacks es
  holds_so es run = (run_holds w workers lacks es valid few run).holds

  pub along_held : (K : List Entry → Type 0) → ((past : List Entry) (e : Entry) → Holds w (length w.posters + workers) lacks past → Step w lacks past e → K past → K (past ++ e ∷ [])) → K [] → (es : List Entry) → IsRunAfter w workers lacks [] es → K es
  along_held K keeps first es run = (along_run w workers lacks (λ past. IsRunAfter w workers lacks [] past × K past) (λ past e known low made. (run_on w workers lacks [] past e known.0 low made, keeps past e (holds_so past known.0) (Step-made w lacks past e made) known.1)) (tt, first) es run).1
