-- What the object at a place is after some entries: its state follows from the notes of the place, and the whole tasks that it
-- keeps are those that the visible history tells.
use Rattle.std.proofs.Common.{◌≡◌, List, [], ◌∷◌, ◌++◌, Some}
use Rattle.std.specs.Prelude.{map}
use Rattle.ccr_base.specs.declared.names.Place.{Place}
use Rattle.ccr_wiring.specs.declared.parts.Parts.{Parts}
use Rattle.ccr_model.specs.declared.history.Event.{Event}
use Rattle.ccr_places.specs.declared.notes.Note.{Note}
use Rattle.ccr_places.specs.Ports as ports
use Rattle.ccr_places.specs.Arbiters as arbiters
use Rattle.ccr_places.specs.Interleaves as interleaves
use Rattle.ccr_places.specs.Interleaves.{InterleaveState, Waiting}
use Rattle.ccr_places.specs.Sites as sites
use Rattle.ccr_places.specs.Sites.{SiteState}
use Rattle.ccr_places.specs.Queues as queues
use Rattle.ccr_places.specs.Queues.{QueueState, Queued}
use Rattle.ccr_places.specs.Meters as meters
use Rattle.ccr_await.specs.Resuming.{site_state}
use Rattle.ccr_claim.specs.declared.asks.Asked.{Asked}
use Rattle.ccr_object.specs.declared.object.Object.{Object}
use Rattle.ccr_object.specs.declared.object.Object.TheVariants.{Port, Arbiter, Interleave, Site, Queue, Meter}
use Rattle.ccr_object.specs.Objects.{answer, after}
use Rattle.ccr_object.specs.Starts.{start_at}
use Rattle.ccr_runs.specs.declared.entries.Entry.{Entry}
use Rattle.ccr_runs.specs.EntryRuns.{notes_at, reply_of}
use Rattle.ccr_runs.specs.Views.{view, suspended_view}
use Rattle.ccr_runs.specs.Visible.{visible}

abbrev pub told_queue : Parts → List Event → QueueState → Object
told_queue w h state = Queue (record { state = state; tasks = map (λ (q : Queued). view w h q.task) state.queued })

abbrev pub told_interleave : Parts → List Event → InterleaveState → Object
told_interleave w h state = Interleave (record { state = state; tasks = map (λ (t : Waiting). view w h t.task) state.waiting })

abbrev pub told_site : Parts → List Event → SiteState → Object
told_site w h state = Site (record { branch = state.branch; site = state.site; suspended = map (suspended_view w h) state.suspended; fired = state.fired })

-- the object that began so, after these notes of its place, where the history is this
abbrev pub told_object : Parts → List Event → List Note → Object → Object
told_object w h notes (Port state) = Port (ports.kept state notes)
told_object w h notes (Arbiter state) = Arbiter (arbiters.kept state notes)
told_object w h notes (Interleave place) = told_interleave w h (interleaves.kept place.state notes)
told_object w h notes (Site site) = told_site w h (sites.kept (site_state site) notes)
told_object w h notes (Queue queue) = told_queue w h (queues.kept queue.state notes)
told_object w h notes (Meter state) = Meter (meters.kept state notes)

-- the object at the place after these entries
abbrev pub object_of : Parts → List Entry → Place → Object
object_of w es place = told_object w (visible es) (notes_at es place) (start_at w place)

-- the object answers the ask of the next entry as the run has it, and is then the object after that entry
pub record AnswersAs (w : Parts) (es : List Entry) (one : Asked) (e : Entry) : Type 0 where
  pub answers : answer (object_of w es one.place) one.ask ≡ Some (reply_of w es e, e.note)
  pub goes : after (object_of w es one.place) one.ask ≡ object_of w (es ++ e ∷ []) one.place
