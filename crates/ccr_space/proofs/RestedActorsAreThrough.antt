-- After the close of passes at rest each actor is through.
use Rattle.std.proofs.Common.{Bool, true, false, ◌≡◌, ℕ, ◌<◌, List, inl, inr, sym, refl, ap, ◌∙◌, subst, None}
use Rattle.std.specs.Prelude.{All, ◌==◌}
use Rattle.std.specs.List.{list_any}
use lib.ListN.{get_elem?}
use mathlib.Core.Option.{some}
use Rattle.ccr_turns.proofs.Rows.{all_at, there_by_slice}
use Rattle.ccr_turns.specs.declared.history.LogEntry.{LogEntry}
use Rattle.ccr_runs.specs.declared.acts.Act.{Act}
use Rattle.ccr_runs.specs.Stories.{story}
use Rattle.ccr_actor.specs.Actors.{next}
use Rattle.ccr_object.specs.declared.deed.Deed.{Deed}
use Rattle.ccr_object.specs.declared.object.Placed.{Placed}
use Rattle.ccr_object.specs.Objects.{after_deed}
use Rattle.ccr_runs.specs.declared.entries.Entry.{Entry}
use Rattle.ccr_runs.specs.Played.{scene}
use Rattle.ccr_space.specs.Spaces.{Space, Pass, IsAtRest, IsPassOf, pass_count, heard_in, log, number, stopped_of, wiring_of}
use Rattle.ccr_wiring.specs.declared.parts.Parts.{Parts}
use Rattle.ccr_space.specs.Closes.{IsBroughtToRest, IsClosed, IsDone, IsRested, IsThrough}
use Rattle.ccr_space.proofs.Resting.{nothing_next, stopped_among}

through : (space : Space) (passes : List Pass) (acts : List (Act Deed)) (short : List ℕ) (actor i : ℕ) (pass : Pass) → get_elem? passes i ≡ some pass → number pass ≡ actor → actor < pass_count space
    → IsPassOf space pass → IsAtRest pass → story after_deed (number pass) (scene (wiring_of space)) acts ≡ log pass → short ≡ stopped_of passes (pass_count space) → IsThrough (wiring_of space) acts short actor
through space passes acts short actor i pass at is low passed rest told those = by pass.stopped refl rest
  where
    by : (b : Bool) → pass.stopped ≡ b → IsAtRest pass → IsThrough (wiring_of space) acts short actor
    by true stops r = inl (ap (λ (l : List ℕ). list_any (λ n. n == actor) l) those ∙ stopped_among passes (pass_count space) i pass actor at is stops low)
    by false on (inl stops) = absurd (cc)
    by false on (inr halted) =
        inr (subst (λ n. next (wiring_of space) n None (heard_in (wiring_of space) n (story after_deed n (scene (wiring_of space)) acts)).given ≡ None) is
        (subst (λ (ms : List (LogEntry Deed Placed)). next (wiring_of space) (number pass) None (heard_in (wiring_of space) (number pass) ms).given ≡ None) (sym told)
        (nothing_next (wiring_of space) (number pass) (log pass) pass.actor (passed.going on) halted)))

pub done : (space : Space) (passes : List Pass) (entries : List Entry) (short : List ℕ) → All (λ (pass : Pass). IsPassOf space pass) passes → All (λ (pass : Pass). IsAtRest pass) passes
    → IsClosed space passes entries → short ≡ stopped_of passes (pass_count space) → IsDone (wiring_of space) (pass_count space) entries short
done space passes entries short all resting closed those = record {
  acts = closed.acts;
  entries_are = closed.entries_are;
  played = closed.played;
  through = λ actor low.
      let (i, pass, there, is) = closed.actors actor low in
      let at = there_by_slice passes i pass there in
      through space passes closed.acts short actor i pass at is low
      (all_at (λ (pass : Pass). IsPassOf space pass) passes i pass all at)
      (all_at (λ (pass : Pass). IsAtRest pass) passes i pass resting at)
      (all_at (λ (pass : Pass). story after_deed (number pass) (scene (wiring_of space)) closed.acts ≡ log pass) passes i pass closed.logs at)
      those;
}

-- what the closed locks of a space at rest tell
pub brought : (wiring : Parts) (count : ℕ) (space : Space) (passes : List Pass) (entries : List Entry) (short : List ℕ) → IsRested wiring count space passes
    → IsClosed space passes entries → short ≡ stopped_of passes (pass_count space) → IsBroughtToRest wiring count entries short
brought wiring count space passes entries short rested closed those = record {
  space = space;
  passes = passes;
  rested = rested;
  closed = closed;
  short_are = subst (λ n. short ≡ stopped_of passes n) rested.count_is those;
}

-- it is a run after which each actor is through
pub brought_is_done : (wiring : Parts) (count : ℕ) (entries : List Entry) (short : List ℕ) → IsBroughtToRest wiring count entries short → IsDone wiring count entries short
brought_is_done wiring count entries short brought =
    let rested = brought.rested in
    let those : short ≡ stopped_of brought.passes (pass_count brought.space) = brought.short_are ∙ ap (stopped_of brought.passes) (sym rested.count_is) in
    subst (λ n. IsDone wiring n entries short) rested.count_is
    (subst (λ w. IsDone w (pass_count brought.space) entries short) rested.serves
    (done brought.space brought.passes entries short rested.passes_are rested.resting brought.closed those))
