-- Each step of a run is answered by the object of its place, whatever its kind.
use Rattle.std.proofs.Common.{◌≡◌, ◌≤◌, ℕ, ◌+◌, Bool, true, false, List, [], length, Option, Some, None, refl, sym, ap, ◌∙◌, subst}
use Rattle.std.specs.Prelude.{slice_get}
use Rattle.std.specs.Option.{option_map_or}
use Rattle.ccr_base.specs.declared.names.Place.{Place}
use Rattle.ccr_base.specs.declared.names.Place.TheVariants as places
use Rattle.ccr_base.proofs.Options.{no_some}
use Rattle.ccr_wiring.specs.declared.parts.ArbiterPart.{ArbiterPart}
use Rattle.ccr_wiring.specs.declared.parts.Parts.{Parts}
use Rattle.ccr_wiring.specs.Groups.{is_interleave}
use Rattle.ccr_wiring.specs.Valid.{IsValid}
use Rattle.ccr_wiring.specs.Openness.{is_closed}
use Rattle.ccr_claim.specs.declared.asks.Ask.{Ask}
use Rattle.ccr_claim.specs.Attempts.{at_place}
use Rattle.ccr_runs.specs.declared.entries.Entry.{Entry}
use Rattle.ccr_runs.specs.Places.{note_at_arbiter, note_of}
use Rattle.ccr_runs.specs.EntryRuns.{Lacks, IsRunAfter, notes_at}
use Rattle.ccr_net.proofs.Parts.NotesAnswerAsks.{Given}
use Rattle.ccr_net.proofs.Kept.ValidWiringsArePlain.{plain_facts}
use Rattle.ccr_net.proofs.Played.NextAsksAreMet.{ask_facts}
use Rattle.ccr_net.proofs.Played.ArbitersAnswer.{plain_answers}
use Rattle.ccr_net.proofs.Played.DomainsAnswer.{CommitTells}
use Rattle.ccr_net.proofs.Played.ObjectsFollowNotes.{AnswersAs}
use Rattle.ccr_net.proofs.Played.PortsAnswer.{meter_answers, port_answers}
use Rattle.ccr_net.proofs.Played.NextAsksAreAnswered.{StepFacts}
use Rattle.ccr_net.proofs.Played.HoldersOfTasksAnswer.{keeps_tasks, run_answers, run_holds, run_stays}
use Rattle.ccr_net.proofs.Played.HoldersOfTasksAnswer as holders
use Rattle.ccr_net.proofs.Parts.OneMoreEntry.{Step}

module _ (w : Parts) (workers : ℕ) (lacks : Lacks) (valid : IsValid w) (few : workers ≤ 16) (es : List Entry) (e : Entry) (run : IsRunAfter w workers lacks [] es) (step : Step w lacks es e) where
  abbrev ask : Ask
  ask = step.asking.ask

  given_at : (place : Place) → step.asking.place ≡ place → Given w es e (at_place place ask)
  given_at place is = record { there = step.there ∙ is; gives = subst (λ p. note_of w p (notes_at es p) ask ≡ Some e.note) is step.gives }

  asked_at : (place : Place) → step.asking.place ≡ place → step.asking ≡ at_place place ask
  asked_at place is = ap (λ p. at_place p ask) is

  -- what a commit hands in
  commits : (i : ℕ) → step.asking.place ≡ places.Arbiter i → (x : Ask) → ask ≡ x → CommitTells w es e i x
  commits = let known = run_holds w workers lacks es valid few run in holders.commits w (length w.posters + workers) (plain_facts w valid) lacks es e known.holds known.handed step

  -- at an arbiter: one of the wiring's, since it gave a note
  at_arbiter : (i : ℕ) → step.asking.place ≡ places.Arbiter i → AnswersAs w es step.asking e
  at_arbiter i at = of_part (slice_get w.arbiters i) refl
    where
      of_kind : (part : ArbiterPart) → slice_get w.arbiters i ≡ Some part → (b : Bool) → is_interleave part.kind ≡ b → AnswersAs w es step.asking e
      of_kind part there false outside = subst (λ x. AnswersAs w es x e) (sym (asked_at (places.Arbiter i) at)) (plain_answers w valid (plain_facts w valid) i part there outside es e ask (given_at (places.Arbiter i) at) (commits i at ask refl))
      of_kind part there true inside = run_answers w workers lacks es e valid few run step (ap (keeps_tasks w) at ∙ ap (λ o. option_map_or (λ (a : ArbiterPart). is_interleave a.kind) o false) there ∙ inside)

      of_part : (o : Option ArbiterPart) → slice_get w.arbiters i ≡ o → AnswersAs w es step.asking e
      of_part None none = absurd (no_some (note_at_arbiter w i (slice_get w.arbiters i) (notes_at es (places.Arbiter i)) ask) e.note (ap (λ o. note_at_arbiter w i o (notes_at es (places.Arbiter i)) ask) none) (given_at (places.Arbiter i) at).gives)
      of_part (Some part) there = of_kind part there (is_interleave part.kind) refl

  pub step_answers : AnswersAs w es step.asking e
  step_answers = by step.asking.place refl
    where
      by : (place : Place) → step.asking.place ≡ place → AnswersAs w es step.asking e
      by (places.Port p) at = subst (λ x. AnswersAs w es x e) (sym (asked_at (places.Port p) at)) (port_answers w es e p ask (given_at (places.Port p) at))
      by (places.Arbiter i) at = at_arbiter i at
      by (places.Site b k) at = run_answers w workers lacks es e valid few run step (ap (keeps_tasks w) at)
      by (places.Queue q) at = run_answers w workers lacks es e valid few run step (ap (keeps_tasks w) at)
      by places.Meter at = subst (λ x. AnswersAs w es x e) (sym (asked_at places.Meter at)) (meter_answers w es e ask (given_at places.Meter at))

pub step_facts : (w : Parts) (workers : ℕ) (lacks : Lacks) → IsValid w → is_closed w ≡ true → workers ≤ 16 → StepFacts w workers lacks
step_facts w workers lacks valid closed few = record {
  asks = ask_facts w workers lacks valid closed few;
  answers = λ es e run step. step_answers w workers lacks valid few es e run step;
  stays = λ es e run place other. run_stays w workers lacks es e valid few run place other;
}
