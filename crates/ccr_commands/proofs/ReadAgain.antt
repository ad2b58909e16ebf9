-- What is written of turns to rest is read as those turns.
use Rattle.std.proofs.Common.{◌≡◌, ℕ, zero, suc, ◌<◌, ◌≤◌, ◌+◌, List, length, Ok, sym, subst, ◌∙◌, ap}
use Rattle.std.specs.Prelude.{All}
use Rattle.std.proofs.lemmas.List.Elements.{All-nil}
use Rattle.ccr_wiring.specs.declared.parts.Parts.{Parts}
use Rattle.ccr_wiretext.specs.Reading.{reading_text}
use Rattle.ccr_runs.specs.declared.entries.Entry.{Entry}
use Rattle.ccr_runs.specs.EntryRuns.{scheduled}
use Rattle.ccr_replay.specs.Reading.{reading_record}
use Rattle.ccr_replay.specs.Records.{record_text}
use Rattle.ccr_replay.specs.Schedules.{schedule, IsOfNextSteps}
use Rattle.ccr_commands.specs.declared.status.Status.TheVariants.{Done}
use Rattle.ccr_commands.specs.Records.{AreTurnsToRest, IsReadAgain, RecordGives}

module _ (again : (bytes : List ℕ) (w : Parts) (n : ℕ) (turns : List ℕ) → reading_text bytes ≡ Ok w → length bytes ≤ 1048576 → n ≤ 16 → All (λ actor. actor < length w.posters + n) turns
    → reading_record (record_text bytes n turns) ≡ Ok (record { wiring = w; workers = n; turns = turns }))
    (actors : (w : Parts) (n : ℕ) (es : List Entry) → IsOfNextSteps w n es → All (λ actor. actor < length w.posters + n) (schedule es)) where
  below : (wiring : Parts) (workers : ℕ) (turns : List ℕ) → AreTurnsToRest wiring workers turns → All (λ actor. actor < length wiring.posters + workers) turns
  below wiring zero turns none = subst (λ (ts : List ℕ). All (λ actor. actor < length wiring.posters + zero) ts) (sym none) (All-nil (λ actor. actor < length wiring.posters + zero))
  below wiring (suc n) turns rest = subst (λ (ts : List ℕ). All (λ actor. actor < length wiring.posters + suc n) ts) (sym rest.1) (actors wiring (suc n) (scheduled wiring turns) rest.0.steps)

  pub read_again : (wiring : Parts) (workers : ℕ) (bytes text : List ℕ) → reading_text bytes ≡ Ok wiring → length bytes ≤ 1048576 → workers ≤ 16 → RecordGives wiring workers bytes Done text → IsReadAgain wiring workers text
  read_again wiring workers bytes text reads short few gives =
      (gives.0, gives.1, ap reading_record gives.2 ∙ again bytes wiring workers gives.0 reads short few (below wiring workers gives.0 gives.1))
