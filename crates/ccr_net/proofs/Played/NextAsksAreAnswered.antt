-- What is shown of the next step of a run, each time from the entries so far.
use Rattle.std.proofs.Common.{◌≡◌, ◌<◌, ℕ, ◌+◌, true, false, List, [], ◌∷◌, ◌++◌, length, Some}
use Rattle.std.specs.Prelude.{is_some, slice_get}
use Rattle.ccr_base.specs.declared.names.Place.{Place}
use Rattle.ccr_wiring.specs.declared.parts.Parts.{Parts}
use Rattle.ccr_claim.specs.declared.asks.Asked.{Asked}
use Rattle.ccr_actor.specs.Actors.{next}
use Rattle.ccr_claim.specs.Wired.{IsKnown}
use Rattle.ccr_object.specs.Starts.{places_of}
use Rattle.ccr_runs.specs.declared.entries.Entry.{Entry}
use Rattle.ccr_runs.specs.Places.{note_of}
use Rattle.ccr_runs.specs.EntryRuns.{Lacks, IsRunAfter, notes_at, replies_of, same_place}
use Rattle.ccr_net.proofs.Played.ObjectsFollowNotes.{AnswersAs, object_of}
use Rattle.ccr_net.proofs.Parts.OneMoreEntry.{Step}

-- the actor's next ask after the entries of a run
pub record IsNextAsk (w : Parts) (workers : ℕ) (lacks : Lacks) (es : List Entry) (a : ℕ) (one : Asked) : Type 0 where
  pub run : IsRunAfter w workers lacks [] es
  pub low : a < length w.posters + workers
  pub asks : next w a (lacks a) (replies_of w es a) ≡ Some one

-- each next ask meets its condition, and names what the wiring has
pub record AskFacts (w : Parts) (workers : ℕ) (lacks : Lacks) : Type 0 where
  pub met : (es : List Entry) (a : ℕ) (one : Asked) → IsNextAsk w workers lacks es a one → is_some (note_of w one.place (notes_at es one.place) one.ask) ≡ true
  pub known : (es : List Entry) (a : ℕ) (one : Asked) → IsNextAsk w workers lacks es a one → IsKnown w one.ask
  pub there : (es : List Entry) (a : ℕ) (one : Asked) → IsNextAsk w workers lacks es a one → (number : ℕ) × (slice_get (places_of w) number ≡ Some one.place)

-- and it is answered by the object of its place as the run has it, and leaves the objects of all other places
pub record StepFacts (w : Parts) (workers : ℕ) (lacks : Lacks) : Type 0 where
  pub asks : AskFacts w workers lacks
  pub answers : (es : List Entry) (e : Entry) → IsRunAfter w workers lacks [] es → (step : Step w lacks es e) → AnswersAs w es step.asking e
  pub stays : (es : List Entry) (e : Entry) → IsRunAfter w workers lacks [] es → (place : Place) → same_place e.place place ≡ false → object_of w (es ++ e ∷ []) place ≡ object_of w es place
