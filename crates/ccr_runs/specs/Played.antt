-- Runs as the objects of the places play them: each act is its actor's next ask, and what the object at its place gives to it.
use Rattle.std.specs.Prelude.{ℕ, suc, List, [], ◌∷◌, ◌++◌, Option, Some, None, filter_map, unwrap_or, slice_get, if◌then◌else◌}
use Rattle.std.specs.Option.{option_map, option_map_or}
use Rattle.ccr_base.specs.declared.names.Place.{Place}
use Rattle.ccr_base.specs.declared.names.Place.TheVariants as places
use Rattle.ccr_wiring.specs.declared.parts.Parts.{Parts}
use Rattle.ccr_claim.specs.declared.asks.Ask.{Ask}
use Rattle.ccr_claim.specs.declared.asks.Asked.{Asked}
use Rattle.ccr_claim.specs.declared.asks.Reply.{Reply}
use Rattle.ccr_actor.specs.Actors.{next}
use Rattle.ccr_actor.specs.Nets.{Step}
use Rattle.ccr_object.specs.declared.deed.PlaceAnswer.{PlaceAnswer}
use Rattle.ccr_object.specs.declared.deed.PlaceAnswer.TheVariants.{Replied, Unmet}
use Rattle.ccr_object.specs.declared.deed.Deed.{Deed}
use Rattle.ccr_object.specs.declared.object.Placed.{Placed}
use Rattle.ccr_object.specs.Objects.{after_deed, note_of, nothing, reply_of}
use Rattle.ccr_object.specs.Starts.{placed_at, places_of}
use Rattle.ccr_turns.specs.declared.history.LogEntry.{LogEntry}
use Rattle.ccr_runs.specs.declared.acts.Act.{Act}
use Rattle.ccr_runs.specs.Runs.{Protocol, state_after}
use Rattle.ccr_runs.specs.Stories.{Scene, story}
use Rattle.ccr_runs.specs.declared.entries.Entry.{Entry}
use Rattle.ccr_runs.specs.EntryRuns.{Lacks, same_place}

-- ---- places by number

-- the number of the place in the list, or that of the last where it isn't there
abbrev pub position_of : Place → List Place → ℕ
position_of place [] = 0
position_of place (first ∷ []) = 0
position_of place (first ∷ second ∷ more) = if same_place first place then 0 else suc (position_of place (second ∷ more))

-- the number of the place among all places of the wiring; the meter is the last, and takes no ask that is meant for another place
abbrev pub number_at : Parts → Place → ℕ
number_at wiring place = position_of place (places_of wiring)

-- the place of this number
abbrev pub place_at : Parts → ℕ → Place
place_at wiring number = unwrap_or (slice_get (places_of wiring) number) places.Meter

-- ---- how actors ask and objects give

-- an actor, and what it was replied so far
pub record Heard : Type 0 where
  pub actor : ℕ
  pub given : List Reply

-- the replies heard, once this answer came
abbrev pub heard : Heard → PlaceAnswer → Heard
heard s (Replied reply) = record s { given = s.given ++ reply ∷ [] }
heard s Unmet = s

-- the ask with the number of its place
abbrev pub numbered : Parts → Asked → ℕ × Ask
numbered wiring one = (number_at wiring one.place, one.ask)

-- the place, by its number, and the ask that come next
abbrev pub next_of : Parts → Lacks → Heard → Option (ℕ × Ask)
next_of wiring lacks s = option_map (numbered wiring) (next wiring s.actor (lacks s.actor) s.given)

-- the objects give what they answer, and the actors ask what comes next
abbrev pub protocol : Parts → Lacks → Protocol Deed Placed Ask PlaceAnswer Heard
protocol wiring lacks = record {
  after = after_deed;
  asked = λ (deed : Deed). deed.ask.value;
  replied = λ (place : Placed) (deed : Deed). reply_of place deed.ask.value;
  gives = λ (place : Placed) (ask : Ask). record { note = note_of place ask; ask = record { marker = record {}; value = ask } };
  begin = λ (actor : ℕ). record { actor = actor; given = [] };
  got = heard;
  next = next_of wiring lacks;
}

-- at each place its object before all notes
abbrev pub scene : Parts → Scene Placed
scene wiring number = (option_map_or (placed_at wiring) (slice_get (places_of wiring) number) nothing, 0)

-- what the actor was replied in these acts
abbrev pub given_in : Parts → Lacks → List (Act Deed) → ℕ → List Reply
given_in wiring lacks acts actor = (state_after (protocol wiring lacks) (record { actor = actor; given = [] }) (story after_deed actor (scene wiring) acts)).given

-- ---- the steps of an actor

-- the reply, where the condition was met
abbrev pub reply_in : PlaceAnswer → Option Reply
reply_in (Replied reply) = Some reply
reply_in Unmet = None

-- the step of an act: what it asked at its place, and what it was replied
abbrev pub step_of : Parts → LogEntry Deed Placed → Option Step
step_of wiring log_entry =
    option_map
    (λ reply. record { asked = record { place = place_at wiring log_entry.place; ask = log_entry.note.ask.value }; reply = reply })
    (reply_in (reply_of log_entry.before log_entry.note.ask.value))

-- the actor's steps in these acts
abbrev pub steps_in : Parts → List (Act Deed) → ℕ → List Step
steps_in wiring acts actor = filter_map (step_of wiring) (story after_deed actor (scene wiring) acts)

-- ---- the entries

-- the entry of an act at this place; none where the condition of its ask wasn't met
abbrev pub entry_at : Place → Act Deed → Option Entry
entry_at place act = option_map (λ note. record { actor = act.seat; place = place; stamp = act.stamp; note = note }) act.note.note

-- the entry of an act, at the place of its number
abbrev pub entry_of : Parts → Act Deed → Option Entry
entry_of wiring act = entry_at (place_at wiring act.place) act

-- the entries that the acts leave
abbrev pub entries_of : Parts → List (Act Deed) → List Entry
entries_of wiring acts = filter_map (entry_of wiring) acts
