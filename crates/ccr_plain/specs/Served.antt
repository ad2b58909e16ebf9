-- A net on one thread: the run so far, and the room for the entries that are owed.
use Rattle.std.specs.Prelude.{◌≡◌, ◌<◌, ◌≤◌, true, ℕ, ◌+◌, List, [], ◌∷◌, ◌++◌}
use Rattle.ccr_base.specs.Bounds.{most_workers}
use Rattle.ccr_wiring.specs.declared.parts.Parts.{Parts}
use Rattle.ccr_wiring.specs.Actors.{actor_count}
use Rattle.ccr_wiring.specs.Valid.{IsValid}
use Rattle.ccr_wiring.specs.Openness.{is_closed}
use Rattle.ccr_claim.specs.declared.asks.Asked.{Asked}
use Rattle.ccr_claim.specs.declared.asks.Reply.{Reply}
use Rattle.ccr_actor.specs.Nets.{AreFitting, AreNext}
use Rattle.ccr_actor.specs.Nets as nets
use Rattle.ccr_object.specs.declared.deed.Deed.{Deed}
use Rattle.ccr_runs.specs.declared.acts.Act.{Act}
use Rattle.ccr_runs.specs.Runs.{IsRunFrom, cast}
use Rattle.ccr_runs.specs.declared.entries.Entry.{Entry}
use Rattle.ccr_net.specs.Acted.{PlainState}
use Rattle.ccr_plain.specs.Owed.{owed_to}
use Rattle.ccr_runs.specs.Played.{entries_of, protocol, scene, steps_in}
use Rattle.ccr_runs.specs.EntryRuns.{Lacks, replies_of}

-- the wiring, the acts so far, and their entries
pub record Served : Type 0 where
  pub wiring : Parts
  pub acts : List (Act Deed)
  pub entries : List Entry

-- the actor has made one step more: this ask, with its reply
abbrev pub HasStepMore : Served → Served → ℕ → Asked → Reply → Type 0
HasStepMore old new actor asked reply = steps_in new.wiring new.acts actor ≡ steps_in old.wiring old.acts actor ++ (record { asked = asked; reply = reply }) ∷ []

-- so many actors are served: the posters and 16 workers
abbrev pub seats : Parts → ℕ
seats wiring = actor_count wiring most_workers

-- the acts are a run, in which each actor found no memory after some number of its steps or never; its steps are what it asked next, with the
-- replies of the entries, and no other actor has any
pub record IsServing (wiring : Parts) (acts : List (Act Deed)) : Type 0 where
  pub valid : IsValid wiring
  pub closed : is_closed wiring ≡ true
  pub lacks : Lacks
  pub run : IsRunFrom (protocol wiring lacks) (seats wiring) (scene wiring) (cast (protocol wiring lacks)) acts
  pub next : (actor : ℕ) → actor < seats wiring → AreNext wiring actor (lacks actor) [] (steps_in wiring acts actor)
  pub heard : (actor : ℕ) → nets.replies_of (steps_in wiring acts actor) ≡ replies_of wiring (entries_of wiring acts) actor
  pub fitting : (actor : ℕ) → AreFitting (steps_in wiring acts actor)
  pub others : (actor : ℕ) → seats wiring ≤ actor → steps_in wiring acts actor ≡ []

-- the entries are those of the acts, there is room for all that is owed, and so many actors are served
pub record IsRoomy (state : PlainState) (entries : List Entry) (room owed count : ℕ) : Type 0 where
  pub serving : IsServing state.wiring state.acts
  pub same : entries ≡ entries_of state.wiring state.acts
  pub owes : owed ≡ owed_to state.wiring state.acts (seats state.wiring)
  pub acts_room : owed ≤ state.room
  pub entries_room : owed ≤ room
  pub seated : count ≡ seats state.wiring
