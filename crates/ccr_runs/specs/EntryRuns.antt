-- Runs: each entry is the one that its actor's next ask makes at its place.
use Rattle.std.specs.Prelude.{◌≡◌, ◌<◌, ℕ, suc, max, Bool, true, false, ◌==◌, ◌&&◌, List, [], ◌∷◌, ◌++◌, map, flat_map, fold, Option, Some, None, option_map, option_and_then, if◌then◌else◌}
use Rattle.ccr_base.specs.declared.names.Place.{Place}
use Rattle.ccr_base.specs.declared.names.Place.TheVariants as places
use Rattle.ccr_base.specs.declared.names.Spot.{Spot}
use Rattle.ccr_base.specs.declared.patterns.Slot.{Slot}
use Rattle.ccr_wiring.specs.Actors.{actor_count}
use Rattle.ccr_wiring.specs.declared.parts.Parts.{Parts}
use Rattle.ccr_wiring.specs.Wirings.{Placement}
use Rattle.ccr_model.specs.declared.history.Event.{Event}
use Rattle.ccr_model.specs.Tasks.{is_interleave, is_branch_where}
use Rattle.ccr_places.specs.declared.notes.ClaimNote.{ClaimNote}
use Rattle.ccr_places.specs.declared.notes.ClaimNote.TheVariants.{Got, Busy, Short}
use Rattle.ccr_places.specs.declared.notes.Note.{Note}
use Rattle.ccr_places.specs.declared.notes.Note.TheVariants as notes
use Rattle.ccr_places.specs.Ports.{PortState, first_fitting}
use Rattle.ccr_places.specs.Interleaves.{InterleaveState}
use Rattle.ccr_places.specs.Queues.{QueueState}
use Rattle.ccr_places.specs.Sites.{SiteState}
use Rattle.ccr_claim.specs.declared.asks.Reply.{Reply}
use Rattle.ccr_claim.specs.declared.asks.Reply.TheVariants as replies
use Rattle.ccr_claim.specs.declared.asks.Asked.{Asked}
use Rattle.ccr_object.specs.Meters.{draw_reply}
use Rattle.ccr_object.specs.Queues.{book_reply}
use Rattle.ccr_actor.specs.Actors.{State, state_after, next}
use Rattle.ccr_runs.specs.declared.entries.Entry.{Entry}
use Rattle.ccr_runs.specs.Visible.{visible}
use Rattle.ccr_runs.specs.Views.{view, cut_view}
use Rattle.ccr_runs.specs.Places.{note_of, port_after, queue_after, site_after, interleave_after}

-- whether the two are one place
abbrev pub same_place : Place → Place → Bool
same_place (places.Port p) (places.Port q) = p == q
same_place (places.Arbiter p) (places.Arbiter q) = p == q
same_place (places.Site b k) (places.Site c l) = (b == c) && (k == l)
same_place (places.Queue p) (places.Queue q) = p == q
same_place places.Meter places.Meter = true
same_place _ _ = false

-- the entry's note, where it is of the place
abbrev pub note_at : Place → Entry → List Note
note_at place entry = if same_place entry.place place then entry.note ∷ [] else []

-- the notes of the place
abbrev pub notes_at : List Entry → Place → List Note
notes_at entries place = flat_map (note_at place) entries

-- the port of this number
abbrev pub port_at : List Entry → ℕ → PortState
port_at entries number = port_after number (notes_at entries (places.Port number))

-- the queue of this number
abbrev pub queue_at : Parts → List Entry → ℕ → QueueState
queue_at wiring entries number = queue_after wiring number (notes_at entries (places.Queue number))

-- the await site
abbrev pub site_at : List Entry → ℕ → ℕ → SiteState
site_at entries branch site = site_after branch site (notes_at entries (places.Site branch site))

-- the domain of Interleaves of this number
abbrev pub domain_at : Parts → List Entry → ℕ → InterleaveState
domain_at wiring entries domain = interleave_after wiring domain (notes_at entries (places.Arbiter domain))

-- ---- replies

-- whether a firing at the spot waits in an Interleave
abbrev pub waits : Parts → Spot → Bool
waits wiring spot = is_branch_where wiring (λ (s : Placement). is_interleave s.kind) spot

-- a claim that got its messages hands them out
abbrev pub claim_reply : Slot → PortState → ClaimNote → Reply
claim_reply slot port (Got n) = replies.Got (first_fitting n slot.pred port.items)
claim_reply slot port (Busy task) = replies.Busy task
claim_reply slot port (Short n) = replies.Short n

-- the reply that goes with the note, after these notes of the place, with the data of the history
abbrev pub reply_to : Parts → List Event → List Note → Note → Reply
reply_to wiring history earlier (notes.Claim task slot reply) = claim_reply slot (port_after slot.port earlier) reply
reply_to wiring history earlier (notes.Fired task spot messages cuts) = replies.Fired (if waits wiring spot then None else Some (view wiring history task)) (map (cut_view wiring history) cuts)
reply_to wiring history earlier (notes.Dead task spot by) = replies.Dead by
reply_to wiring history earlier (notes.Admit admitted) = replies.Admitted (option_map (view wiring history) admitted)
reply_to wiring history earlier (notes.Book task resumes full) = book_reply full
reply_to wiring history earlier (notes.Put task dropped) = replies.Dropped (option_map (view wiring history) dropped)
reply_to wiring history earlier (notes.Take taken) = replies.Taken (option_map (view wiring history) taken)
reply_to wiring history earlier (notes.Draw drawn) = draw_reply drawn
reply_to wiring history earlier (notes.Left n) = replies.Left n
reply_to wiring history earlier _ = replies.Done

-- the reply of the entry after these
abbrev pub reply_of : Parts → List Entry → Entry → Reply
reply_of wiring past entry = reply_to wiring (visible (past ++ entry ∷ [])) (notes_at past entry.place) entry.note

-- the entry's reply, where it is the actor's
abbrev pub reply_for : Parts → ℕ → List Entry → Entry → List Reply
reply_for wiring actor past entry = if entry.actor == actor then reply_of wiring past entry ∷ [] else []

-- the replies that the actor got, behind a past of entries
abbrev pub replies_from : Parts → ℕ → List Entry → List Entry → List Reply
replies_from wiring actor past [] = []
replies_from wiring actor past (entry ∷ entries) = reply_for wiring actor past entry ++ replies_from wiring actor (past ++ entry ∷ []) entries

-- the replies that the actor got
abbrev pub replies_of : Parts → List Entry → ℕ → List Reply
replies_of wiring entries actor = replies_from wiring actor [] entries

-- ---- the next entry

-- after how many of its steps each actor finds no memory
abbrev pub Lacks : Type 0
Lacks = ℕ → Option ℕ

-- the actor after these entries
abbrev pub state_of : Parts → Lacks → List Entry → ℕ → State
state_of wiring lacks entries actor = state_after wiring actor (lacks actor) (replies_of wiring entries actor)

-- the stamp of the last entry that passes the test
abbrev pub last_stamp : (Entry → Bool) → List Entry → ℕ
last_stamp test entries = fold (λ stamp (e : Entry). if test e then e.stamp else stamp) 0 entries

-- one more than the last of the place and the last of the actor
abbrev pub next_stamp : List Entry → Place → ℕ → ℕ
next_stamp entries place actor = suc (max (last_stamp (λ e. same_place e.place place) entries) (last_stamp (λ e. e.actor == actor) entries))

-- the entry of this ask
abbrev pub entry_for : Parts → List Entry → ℕ → Asked → Option Entry
entry_for wiring entries actor a =
    option_map
    (λ note. record { actor = actor; place = a.place; stamp = next_stamp entries a.place actor; note = note })
    (note_of wiring a.place (notes_at entries a.place) a.ask)

-- the entry that the actor's next step adds
abbrev pub made_by : Parts → Lacks → List Entry → ℕ → Option Entry
made_by wiring lacks entries actor = option_and_then (entry_for wiring entries actor) (next wiring actor (lacks actor) (replies_of wiring entries actor))

-- each entry is the next of its actor after those before it
abbrev pub IsRunAfter : Parts → ℕ → Lacks → List Entry → List Entry → Type 0
IsRunAfter wiring workers lacks past [] = Unit {0}
IsRunAfter wiring workers lacks past (entry ∷ entries) =
    (entry.actor < actor_count wiring workers)
    × (made_by wiring lacks past entry.actor ≡ Some entry)
    × IsRunAfter wiring workers lacks (past ++ entry ∷ []) entries

-- a run with so many workers
pub record IsRun (wiring : Parts) (workers : ℕ) (entries : List Entry) : Type 0 where
  pub lacks : Lacks
  pub steps : IsRunAfter wiring workers lacks [] entries

-- ---- schedules

-- the entries, with the one that was made, if one was
abbrev pub with_made : List Entry → Option Entry → List Entry
with_made entries None = entries
with_made entries (Some entry) = entries ++ entry ∷ []

-- no actor ever lacks memory
abbrev pub never : Lacks
never actor = None

-- each turn is the actor's next step; a turn of an actor at rest adds nothing
abbrev pub scheduled_from : Parts → List Entry → List ℕ → List Entry
scheduled_from wiring entries [] = entries
scheduled_from wiring entries (actor ∷ turns) = scheduled_from wiring (with_made entries (made_by wiring never entries actor)) turns

-- the run of these turns
abbrev pub scheduled : Parts → List ℕ → List Entry
scheduled wiring turns = scheduled_from wiring [] turns
