-- The locks of all places of a wiring, the passes of its actors through them, and what the closed locks tell.
use Rattle.std.specs.Prelude.{◌≡◌, ◌⊎◌, ℕ, ◌≤◌, ◌==◌, ◌&&◌, Bool, true, false, List, [], ◌∷◌, ◌++◌, length, map, filter, Ok, slice_get, Some}
use Rattle.std.specs.Option.{is_some}
use Rattle.std.specs.Borrow.{Bor}
use Rattle.std.specs.List.{list_any, range_with_len}
use Rattle.ccr_base.specs.Bounds.{most_actors, most_places}
use Rattle.ccr_base.specs.declared.names.Place.{Place}
use Rattle.ccr_wiring.specs.declared.parts.Parts.{Parts}
use Rattle.ccr_claim.specs.declared.asks.Ask.{Ask}
use Rattle.ccr_claim.specs.declared.asks.Reply.{Reply}
use Rattle.ccr_object.specs.declared.deed.PlaceAnswer.{PlaceAnswer}
use Rattle.ccr_object.specs.declared.deed.PlaceAnswer.TheVariants.{Replied, Unmet}
use Rattle.ccr_object.specs.declared.deed.Deed.{Deed}
use Rattle.ccr_object.specs.declared.object.Placed.{Placed}
use Rattle.ccr_object.specs.declared.object.PlaceObject.{PlaceObject}
use Rattle.ccr_object.specs.contracts.object.PlaceObjectKept.TheImpl.{ghosts}
use Rattle.ccr_object.specs.Objects.{note_of, placed}
use Rattle.ccr_object.specs.Starts.{placed_at, places_of}
use Rattle.ccr_turns.specs.Locks.{starts, seat_count, place_count, keep_of, IsSeatOf, number_of, log_of}
use Rattle.ccr_turns.specs.declared.history.LogEntry.{LogEntry}
use Rattle.ccr_turns.specs.declared.kept.Keep.TheVariants.{Every}
use Rattle.ccr_turns.specs.declared.turns.Seat.{Seat}
use Rattle.ccr_turns.specs.declared.turns.Turns.{Turns}
use Rattle.ccr_runs.specs.Runs.{IsProper, state_after}
use Rattle.ccr_actor.specs.Acting.{Acting, IsAfter, is_at_rest}
use Rattle.ccr_actor.specs.Following.{Follows}
use Rattle.ccr_actor.specs.Nets.{Step, counted, replies_of}
use Rattle.ccr_runs.specs.Played.{Heard, protocol}
use Rattle.ccr_runs.specs.EntryRuns.{never}
use Rattle.ccr_space.specs.declared.space.SpaceOf.{SpaceOf}
use Rattle.ccr_space.specs.declared.space.PassOf.{PassOf}

-- the locks with the places by their numbers and the wiring, and an actor with its seat
abbrev pub Space : Type 0
Space = SpaceOf (Turns PlaceObject Ask PlaceAnswer Deed Placed) (List Place) (Bor Parts)

-- a pass at the locks of the wiring's places
abbrev pub Pass : Type 0
Pass = PassOf Acting (Seat PlaceObject Ask PlaceAnswer Deed Placed ghosts)

-- ---- what was made together

-- the wiring that the space serves
abbrev pub wiring_of : Space → Parts
wiring_of space = space.wiring.now

-- how many passes it is for: one for each actor
abbrev pub pass_count : Space → ℕ
pass_count space = seat_count space.turns

-- each place of the wiring is there, with its object before all notes
pub record HasPlaces (space : Space) : Type 0 where
  pub objects : map placed (starts space.turns) ≡ map (placed_at space.wiring.now) (places_of space.wiring.now)
  pub numbers : space.directory ≡ places_of space.wiring.now
  pub places : place_count space.turns ≡ length (places_of space.wiring.now)
  pub few : length (places_of space.wiring.now) ≤ most_places
  pub seats : seat_count space.turns ≤ most_actors

-- and its locks keep every entry
pub record IsSpace (space : Space) : Type 0 where
  pub has_places : HasPlaces space
  pub every : keep_of space.turns ≡ Every

-- ---- passes

-- the entries of the pass, in their order
abbrev pub log : Pass → List (LogEntry Deed Placed)
log pass = log_of pass.seat

-- the actor's number
abbrev pub number : Pass → ℕ
number pass = number_of pass.seat

-- what the actor was replied in these entries of its own
abbrev pub heard_in : Parts → ℕ → List (LogEntry Deed Placed) → Heard
heard_in wiring actor logged = state_after (protocol wiring never) (record { actor = actor; given = [] }) logged

-- the actor isn't short, and is where the replies of the log lead it
pub record IsGoing (wiring : Parts) (actor : ℕ) (logged : List (LogEntry Deed Placed)) (acting : Acting) : Type 0 where
  pub steps : List Step
  pub follows : Follows wiring actor steps acting
  pub replies : replies_of steps ≡ (heard_in wiring actor logged).given
  pub long : acting.state.is_short ≡ false

-- the pass was made with the space: its seat is of these locks, and each entry of its log is what its actor asks next; unless it
-- is stopped, the actor is where the log leads it
pub record IsPassOf (space : Space) (pass : Pass) : Type 0 where
  pub seat : IsSeatOf space.turns pass.seat
  pub proper : IsProper (protocol (wiring_of space) never) (record { actor = number pass; given = [] }) 0 (log pass)
  pub going : pass.stopped ≡ false → IsGoing (wiring_of space) (number pass) (log pass) pass.actor

-- it took in the reply, and isn't short
abbrev pub IsTaught : Acting → Reply → Acting → Type 0
IsTaught old reply new = IsAfter old (Ok reply) new × (new.state.is_short ≡ false)

-- the actor was taught the reply; an ask whose condition isn't met never comes
abbrev pub IsHeard : Acting → PlaceAnswer → Acting → Type 0
IsHeard old Unmet new = ⊥
IsHeard old (Replied reply) new = IsTaught old reply new

-- the pass is stopped, or its actor has nothing to ask
abbrev pub IsAtRest : Pass → Type 0
IsAtRest pass = (pass.stopped ≡ true) ⊎ (is_at_rest pass.actor ≡ true)

-- the pass's actor found no memory
abbrev pub is_short : Pass → Bool
is_short pass = pass.actor.state.is_short

-- one entry more, with a note or without one: what the object there notes of the ask, at the value that it had
abbrev pub IsMore : Bool → Pass → Pass → Type 0
IsMore noted old new =
    (log_entry : LogEntry Deed Placed) × ((log new ≡ log old ++ log_entry ∷ [])
    × (is_some log_entry.note.note ≡ noted)
    × (log_entry.note.note ≡ note_of log_entry.before log_entry.note.ask.value))

-- so many entries more, or the last number of 64 bits where there are more
abbrev pub IsLonger : Pass → Pass → ℕ → Type 0
IsLonger old new count = (made : List (LogEntry Deed Placed)) × ((log new ≡ log old ++ made) × (count ≡ counted (length made)))

-- ---- the close

-- whether the pass of this actor is among them, and stopped
abbrev pub is_stopped_in : List Pass → ℕ → Bool
is_stopped_in passes actor = list_any (λ (pass : Pass). pass.stopped && (number pass == actor)) passes

-- the actors whose passes are stopped, rising
abbrev pub stopped_of : List Pass → ℕ → List ℕ
stopped_of passes count = filter (is_stopped_in passes) (range_with_len 0 count)

-- the seat of this actor is among them
abbrev pub HasSeat : List (Seat PlaceObject Ask PlaceAnswer Deed Placed ghosts) → ℕ → Type 0
HasSeat seats actor = (at : ℕ) × (seat : Seat PlaceObject Ask PlaceAnswer Deed Placed ghosts) × (slice_get seats at ≡ Some seat) × (number_of seat ≡ actor)

-- the pass of this actor is among them
abbrev pub HasPass : List Pass → ℕ → Type 0
HasPass passes actor = (at : ℕ) × (pass : Pass) × (slice_get passes at ≡ Some pass) × (number pass ≡ actor)
