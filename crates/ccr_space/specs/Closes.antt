-- What the closed locks tell.
use Rattle.std.specs.Prelude.{◌≡◌, ◌⊎◌, ℕ, ◌<◌, ◌^◌, ◌==◌, true, All, List, [], length, map, None, Some, slice_get}
use Rattle.std.specs.List.{AllZip, list_any}
use Rattle.ccr_wiring.specs.Actors.{actor_count}
use Rattle.ccr_wiring.specs.declared.parts.Parts.{Parts}
use Rattle.ccr_claim.specs.declared.asks.Ask.{Ask}
use Rattle.ccr_object.specs.declared.deed.PlaceAnswer.{PlaceAnswer}
use Rattle.ccr_object.specs.declared.deed.Deed.{Deed}
use Rattle.ccr_object.specs.declared.object.Placed.{Placed}
use Rattle.ccr_object.specs.declared.object.PlaceObject.{PlaceObject}
use Rattle.ccr_object.specs.contracts.object.PlaceObjectKept.TheImpl.{ghosts}
use Rattle.ccr_object.specs.Events.{has_event}
use Rattle.ccr_object.specs.Objects.{IsGiven, after_deed, placed}
use Rattle.ccr_turns.specs.Histories.{history_stamps, keeps}
use Rattle.ccr_turns.specs.Lists.{Rises}
use Rattle.ccr_turns.specs.Locks.{Agrees, IsLeft, full_log, keep_of, sifted_of, starts}
use Rattle.ccr_turns.specs.declared.history.Held.{Held}
use Rattle.ccr_turns.specs.declared.turns.Seat.{Seat}
use Rattle.ccr_runs.specs.declared.acts.Act.{Act}
use Rattle.ccr_runs.specs.Merges.{Climbs, IsByPlace, act_stamps, history_at}
use Rattle.ccr_runs.specs.Orders.{merged}
use Rattle.ccr_runs.specs.Runs.{IsRunFrom, cast}
use Rattle.ccr_runs.specs.Stories.{story}
use Rattle.ccr_actor.specs.Actors.{next}
use Rattle.ccr_runs.specs.declared.entries.Entry.{Entry}
use Rattle.ccr_runs.specs.Played.{protocol, scene, given_in, entries_of}
use Rattle.ccr_runs.specs.EntryRuns.{IsRunAfter, never, replies_of}
use Rattle.ccr_runs.specs.Visible.{visible}
use Rattle.ccr_model.specs.declared.history.Event.{Event}
use Rattle.ccr_space.specs.Spaces.{HasPass, HasPlaces, IsAtRest, IsPassOf, Pass, Space, pass_count, log, number, stopped_of, wiring_of}

-- the acts are a run of so many actors, in which none lacks memory
abbrev pub IsPlayed : Parts → ℕ → List (Act Deed) → Type 0
IsPlayed wiring count acts = IsRunFrom (protocol wiring never) count (scene wiring) (cast (protocol wiring never)) acts

-- what a closed lock kept: its object and its history
abbrev pub PlaceAndHistory : Type 0
PlaceAndHistory = PlaceObject × List (Held Deed)

-- the entries that all of it makes in one list, by their stamps
abbrev pub told : Parts → List PlaceAndHistory → List Entry
told wiring kept = entries_of wiring (merged kept)

-- the acts are the histories of the closed locks in one list, and the log of each seat is its part of them
pub record IsOfLocks (space : Space) (seats : List (Seat PlaceObject Ask PlaceAnswer Deed Placed ghosts)) (acts : List (Act Deed)) : Type 0 where
  -- at each place, by its number
  pub kept : List PlaceAndHistory
  -- each object is the one that its history leaves from its start, the stamps of the history rise, and each note was given
  pub left : AllZip (IsLeft placed after_deed IsGiven (pass_count space)) (starts space.turns) kept
  -- the part of each place is that lock's history, and nothing stands elsewhere
  pub parts : (place : ℕ) (left : PlaceAndHistory) → slice_get kept place ≡ Some left → history_at place acts ≡ left.1
  pub inside : All (λ (act : Act Deed). act.place < length kept) acts
  -- they stand by their stamps, and where stamps are equal by their places
  pub sorted : Climbs 0 (act_stamps acts)
  pub by_place : IsByPlace acts
  -- each seat's log has at each place its entries of that lock's history, each with what those before it there left
  pub agrees : All (λ seat. Agrees placed after_deed (starts space.turns) kept (full_log seat)) seats

-- what was kept is a part of the whole histories of the locks: of each the entries that are kept in memory
pub record IsKeptOf (space : Space) (seats : List (Seat PlaceObject Ask PlaceAnswer Deed Placed ghosts)) (kept : List PlaceAndHistory) : Type 0 where
  pub whole : List PlaceAndHistory
  pub part : kept ≡ map (sifted_of (keeps (keep_of space.turns) has_event)) whole
  pub few : length whole < 2 ^ 32
  pub rising : All (λ (left : PlaceAndHistory). Rises 0 (history_stamps left.1)) whole
  pub locks : IsOfLocks space seats (merged whole)

-- the entries are those of a run, in which each place's part is its lock's history, and each pass's part is its log, once and in order
pub record IsClosed (space : Space) (passes : List Pass) (entries : List Entry) : Type 0 where
  pub acts : List (Act Deed)
  pub entries_are : entries ≡ entries_of (wiring_of space) acts
  pub played : IsPlayed (wiring_of space) (pass_count space) acts
  pub locks : IsOfLocks space (map (λ (pass : Pass). pass.seat) passes) acts
  pub logs : All (λ (pass : Pass). story after_deed (number pass) (scene (wiring_of space)) acts ≡ log pass) passes
  pub actors : (actor : ℕ) → actor < pass_count space → HasPass passes actor

-- the history is what the entries of the closed locks show, which are made nowhere
pub record IsShownOf (space : Space) (passes : List Pass) (history : List Event) : Type 0 where
  pub entries : List Entry
  pub closed : IsClosed space passes entries
  pub shown : history ≡ visible entries

-- a space for the wiring with so many actors, and all its passes, at rest
pub record IsRested (wiring : Parts) (count : ℕ) (space : Space) (passes : List Pass) : Type 0 where
  pub has_places : HasPlaces space
  pub serves : wiring_of space ≡ wiring
  pub count_is : pass_count space ≡ count
  pub all : length passes ≡ pass_count space
  pub passes_are : All (λ (pass : Pass). IsPassOf space pass) passes
  pub resting : All (λ (pass : Pass). IsAtRest pass) passes

-- all passes of some space for the wiring came to rest, the entries are what its closed locks tell, and the short are those that are stopped
pub record IsBroughtToRest (wiring : Parts) (count : ℕ) (entries : List Entry) (short : List ℕ) : Type 0 where
  pub space : Space
  pub passes : List Pass
  pub rested : IsRested wiring count space passes
  pub closed : IsClosed space passes entries
  pub short_are : short ≡ stopped_of passes count

-- the actor is among the short, or asks nothing more after its part of the acts
abbrev pub IsThrough : Parts → List (Act Deed) → List ℕ → ℕ → Type 0
IsThrough wiring acts short actor = (list_any (λ n. n == actor) short ≡ true) ⊎ (next wiring actor None (given_in wiring never acts actor) ≡ None)

-- the entries are those of a run, after which each actor is through
pub record IsDone (wiring : Parts) (count : ℕ) (entries : List Entry) (short : List ℕ) : Type 0 where
  pub acts : List (Act Deed)
  pub entries_are : entries ≡ entries_of wiring acts
  pub played : IsPlayed wiring count acts
  pub through : (actor : ℕ) → actor < count → IsThrough wiring acts short actor

-- the history is what the entries of some passes show that came to rest
pub record IsShownAtRest (wiring : Parts) (count : ℕ) (history : List Event) (short : List ℕ) : Type 0 where
  pub entries : List Entry
  pub brought : IsBroughtToRest wiring count entries short
  pub done : IsDone wiring count entries short
  pub shown : history ≡ visible entries

-- the actor is among the short, or has no next step after the entries
abbrev pub IsAtEnd : Parts → List Entry → List ℕ → ℕ → Type 0
IsAtEnd wiring entries short actor = (list_any (λ n. n == actor) short ≡ true) ⊎ (next wiring actor None (replies_of wiring entries actor) ≡ None)

-- The history is what a run of all posters and so many workers shows, whose entries are made nowhere: each step was its actor's next one, after
-- it each actor that isn't short has no next step, and it is what the closed locks of a space tell, whose passes all came to rest.
pub record IsOfRunToRest (wiring : Parts) (workers : ℕ) (history : List Event) (short : List ℕ) : Type 0 where
  pub entries : List Entry
  pub run : IsRunAfter wiring workers never [] entries
  pub rest : (actor : ℕ) → actor < actor_count wiring workers → IsAtEnd wiring entries short actor
  pub threads : IsBroughtToRest wiring (actor_count wiring workers) entries short
  pub shown : history ≡ visible entries
