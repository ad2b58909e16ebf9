-- The turns of a run in threads, after which each actor is at rest.
use Rattle.std.proofs.Common.{true, ◌≡◌, ℕ, zero, suc, ◌<◌, List, [], length, arith, ap, ◌∙◌}
use Rattle.std.specs.Prelude.{◌==◌}
use Rattle.ccr_wiring.specs.Actors.{actor_count}
use Rattle.ccr_wiring.specs.declared.parts.Parts.{Parts}
use Rattle.ccr_runs.specs.declared.entries.Entry.{Entry}
use Rattle.ccr_runs.specs.EntryRuns.{IsRunAfter, never, scheduled}
use Rattle.ccr_replay.specs.Schedules.{schedule}
use Rattle.ccr_space.specs.Closes.{IsAtEnd, IsBroughtToRest}
use Rattle.ccr_opening.proofs.Beginnings.{comes_to_rest}
use Rattle.ccr_commands.specs.Records.{AreTurnsToRest}

-- where nobody was told that memory ran out, and the schedule gives the run again, its turns bring it to rest
pub turns_rest : (wiring : Parts) (workers : ℕ) (entries : List Entry) (short turns : List ℕ) → 0 < workers → (length short == 0) ≡ true
    → IsRunAfter wiring workers never [] entries → ((actor : ℕ) → actor < actor_count wiring workers → IsAtEnd wiring entries short actor) → IsBroughtToRest wiring (actor_count wiring workers) entries short
    → turns ≡ schedule entries → scheduled wiring (schedule entries) ≡ entries → AreTurnsToRest wiring workers turns
turns_rest wiring zero entries short turns some all run rest closed are again = absurd (omega arith)
turns_rest wiring (suc n) entries short turns some all run rest closed are again =
    let same : scheduled wiring turns ≡ entries = ap (scheduled wiring) are ∙ again in
    let done = comes_to_rest wiring (suc n) entries short all run rest closed in
    rw same (done.0, are, done.1)
