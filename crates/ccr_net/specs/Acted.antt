-- The places on one thread: what the acts so far leave there, and the act that an ask makes.
use Rattle.std.specs.Prelude.{◌≡◌, ◌≤◌, ℕ, suc, max, true, ◌==◌, cond, List, [], ◌∷◌, length, map, slice_get, slice_index}
use Rattle.std.specs.Option.{option_map_or}
use Rattle.std.specs.declared.snapshot.Snapshot.{Snapshot}
use Rattle.ccr_base.specs.Bounds.{most_actors}
use Rattle.ccr_base.specs.declared.names.Place.{Place}
use Rattle.ccr_wiring.specs.declared.parts.Parts.{Parts}
use Rattle.ccr_claim.specs.declared.asks.Ask.{Ask}
use Rattle.ccr_claim.specs.Asks.{due_of, fits}
use Rattle.ccr_object.specs.declared.deed.PlaceAnswer.{PlaceAnswer}
use Rattle.ccr_object.specs.declared.deed.PlaceAnswer.TheVariants.{Replied, Unmet}
use Rattle.ccr_object.specs.declared.deed.Deed.{Deed}
use Rattle.ccr_object.specs.declared.object.PlaceObject.{PlaceObject}
use Rattle.ccr_object.specs.declared.object.Placed.{Placed}
use Rattle.ccr_object.specs.Objects.{after_deed, note_of, nothing, placed}
use Rattle.ccr_object.specs.Starts.{places_of}
use Rattle.ccr_runs.specs.declared.acts.Act.{Act}
use Rattle.ccr_runs.specs.Stories.{Scene, moved}
use Rattle.ccr_runs.specs.Played.{scene, number_at}

-- ---- what the acts leave

-- the scene once these acts were made in it
abbrev pub scene_from : Scene Placed → List (Act Deed) → Scene Placed
scene_from v [] = v
scene_from v (act ∷ acts) = scene_from (moved after_deed v act) acts

-- at each place its object and last stamp after these acts
abbrev pub scene_after : Parts → List (Act Deed) → Scene Placed
scene_after wiring acts = scene_from (scene wiring) acts

-- the stamp of the actor's last act; this one where it made none
abbrev pub stamp_from : ℕ → ℕ → List (Act Deed) → ℕ
stamp_from actor last [] = last
stamp_from actor last (act ∷ acts) = stamp_from actor (cond (act.seat == actor) act.stamp last) acts

-- the stamp of the actor's last act, 0 before its first
abbrev pub stamp_of : ℕ → List (Act Deed) → ℕ
stamp_of actor acts = stamp_from actor 0 acts

-- ---- the next act

-- what the object gives to the ask
abbrev pub deed_at : Placed → Ask → Deed
deed_at place ask = record { note = note_of place ask; ask = record { marker = record {}; value = ask } }

-- the act of this ask; its stamp is one more than the last of the place and the last of the actor
abbrev pub act_at : Scene Placed → ℕ → ℕ → ℕ → Ask → Act Deed
act_at v last number actor ask = record { place = number; seat = actor; stamp = suc (max (v number).1 last); note = deed_at (v number).0 ask }

-- the act by which the actor asks this place, behind those acts
abbrev pub act_after : Parts → List (Act Deed) → ℕ → Place → Ask → Act Deed
act_after wiring acts actor place ask = act_at (scene_after wiring acts) (stamp_of actor acts) (number_at wiring place) actor ask

-- a reply is one that the ask may have
abbrev pub IsFitting : Ask → PlaceAnswer → Type 0
IsFitting ask (Replied reply) = fits (due_of ask) reply ≡ true
IsFitting ask Unmet = Unit {0}

-- ---- the code's view

-- the wiring, the acts so far, and for how many acts there is room
pub record PlainState : Type 0 where
  pub wiring : Parts
  pub acts : List (Act Deed)
  pub room : ℕ

-- the acts that the snapshots hold
abbrev pub seen_acts : List (Snapshot (Act Deed)) → List (Act Deed)
seen_acts items = map (λ (seen : Snapshot (Act Deed)). seen.value) items

-- what contracts see of the object of this number
abbrev pub placed_in : List PlaceObject → ℕ → Placed
placed_in objects number = option_map_or placed (slice_get objects number) nothing

-- the objects and the stamps are those that the acts leave
pub record IsLeft (wiring : Parts) (places : List Place) (objects : List PlaceObject) (place_stamps actor_stamps : List ℕ) (acts : List (Act Deed)) : Type 0 where
  pub all : places ≡ places_of wiring
  pub count : length objects ≡ length places
  pub place_count : length place_stamps ≡ length places
  pub actor_count : length actor_stamps ≡ most_actors
  pub stand : (number : ℕ) → placed_in objects number ≡ (scene_after wiring acts number).0
  pub place_last : (number : ℕ) → slice_index place_stamps number ≡ (scene_after wiring acts number).1
  pub actor_last : (actor : ℕ) → slice_index actor_stamps actor ≡ stamp_of actor acts
  pub place_few : (number : ℕ) → slice_index place_stamps number ≤ length acts
  pub actor_few : (actor : ℕ) → slice_index actor_stamps actor ≤ length acts
