-- What the laws are given, a run of a valid closed wiring wherever its actors lack memory, and what they say of it.
use Rattle.std.specs.Prelude.{◌≡◌, ◌<◌, ◌≤◌, ℕ, Bool, true, List, [], ◌∷◌, ◌++◌, Option}
use Rattle.ccr_base.specs.Bounds.{most_workers}
use Rattle.ccr_base.specs.declared.names.Place.{Place}
use Rattle.ccr_base.specs.declared.names.Place.TheVariants as places
use Rattle.ccr_base.specs.declared.names.TaskId.{TaskId}
use Rattle.ccr_wiring.specs.Actors.{actor_count}
use Rattle.ccr_wiring.specs.declared.parts.Parts.{Parts}
use Rattle.ccr_wiring.specs.Valid.{IsValid}
use Rattle.ccr_wiring.specs.Openness.{is_closed}
use Rattle.ccr_model.specs.declared.history.Event.{Event}
use Rattle.ccr_places.specs.declared.notes.Note.{Note}
use Rattle.ccr_places.specs.Interleaves.{InterleaveState}
use Rattle.ccr_places.specs.Queues.{QueueState}
use Rattle.ccr_claim.specs.declared.asks.Ask.{Ask}
use Rattle.ccr_claim.specs.declared.asks.Asked.{Asked}
use Rattle.ccr_actor.specs.Actors.{next}
use Rattle.ccr_actor.specs.Plans.{is_interleave_number}
use Rattle.ccr_object.specs.declared.deed.Deed.{Deed}
use Rattle.ccr_object.specs.declared.object.Object.{Object}
use Rattle.ccr_runs.specs.declared.acts.Act.{Act}
use Rattle.ccr_runs.specs.declared.entries.Entry.{Entry}
use Rattle.ccr_net.specs.Acted.{act_after}
use Rattle.ccr_net.specs.Lawful.{IsPlayedRun}
use Rattle.ccr_runs.specs.Played.{entries_of, given_in}
use Rattle.ccr_runs.specs.EntryRuns.{Lacks, IsRunAfter, replies_of, queue_at, domain_at}
use Rattle.ccr_runs.specs.Visible.{visible}
use Rattle.ccr_rests.specs.Going.{GoesOn, AreAtRest, ComesToRest, first}
use Rattle.ccr_rests.specs.Ends.{EndsOnce}
use Rattle.ccr_rests.specs.Keeping.{WaitsFor}
use Rattle.ccr_rests.specs.Objects.{HasPlace, object_at, whole_interleave, whole_queue, whole_site}
use Rattle.ccr_rests.specs.Owing.{IsToEnd}

-- a run, by its entries
pub record Run : Type 0 where
  pub wiring : Parts
  pub workers : ℕ
  pub lacks : Lacks
  pub entries : List Entry
  pub valid : IsValid wiring
  pub closed : is_closed wiring ≡ true
  pub few : workers ≤ most_workers
  pub steps : IsRunAfter wiring workers lacks [] entries

-- what the run shows
abbrev pub shown : Run → List Event
shown run = visible run.entries

-- what a queue is after the run
abbrev pub queue_after : Run → ℕ → QueueState
queue_after run queue = queue_at run.wiring run.entries queue

-- what an Interleave is after the run
abbrev pub interleave_after : Run → ℕ → InterleaveState
interleave_after run domain = domain_at run.wiring run.entries domain

-- the task waits in an Interleave to be admitted, and its branch is on this queue
abbrev pub Waits : Run → ℕ → TaskId → Type 0
Waits run queue task = WaitsFor run.wiring (shown run) queue task

-- some actor has still to make such an ask at the place
abbrev pub IsOwed : Run → Place → (Ask → Bool) → Type 0
IsOwed run place is_end = IsToEnd run.wiring run.workers run.lacks run.entries place is_end

-- the number of an actor of the run
abbrev pub IsActor : Run → ℕ → Type 0
IsActor run actor = actor < actor_count run.wiring run.workers

-- what an actor asks next
abbrev pub asks_next : Run → ℕ → Option Asked
asks_next run actor = next run.wiring actor (run.lacks actor) (replies_of run.wiring run.entries actor)

-- the run goes on with the entry of this ask of the actor
abbrev pub GoesOnBy : Run → ℕ → Asked → Type 0
GoesOnBy run actor one = GoesOn run.wiring run.workers run.lacks run.entries actor one

-- no actor has anything more to ask
abbrev pub Rests : Run → Type 0
Rests run = AreAtRest run.wiring run.workers run.lacks run.entries

-- some run to rest begins with the run
abbrev pub GoesToRest : Run → Type 0
GoesToRest run = ComesToRest run.wiring run.workers run.lacks run.entries

-- an entry of a run, with those before it and those behind it
pub record RunAt : Type 0 where
  pub wiring : Parts
  pub workers : ℕ
  pub lacks : Lacks
  pub past : List Entry
  pub entry : Entry
  pub more : List Entry
  pub valid : IsValid wiring
  pub closed : is_closed wiring ≡ true
  pub few : workers ≤ most_workers
  pub steps : IsRunAfter wiring workers lacks [] (past ++ entry ∷ more)

-- the entries up to it, with it
abbrev pub until : RunAt → List Entry
until here = here.past ++ here.entry ∷ []

-- the entry ends what was begun for the task at the place by one entry before it, and no other entry ends it
abbrev pub IsEndedOnce : (Note → List TaskId) → (Note → List TaskId) → Place → TaskId → RunAt → Type 0
IsEndedOnce begins ends place task here = EndsOnce begins ends place task here.past here.entry here.more

-- each beginning of entries without end is a run
abbrev pub IsEndless : Parts → ℕ → Lacks → (ℕ → Entry) → Type 0
IsEndless wiring workers lacks entries = (count : ℕ) → IsRunAfter wiring workers lacks [] (first count entries)

-- a run as the objects of the places play it, by its acts
pub record PlayedRun : Type 0 where
  pub wiring : Parts
  pub workers : ℕ
  pub lacks : Lacks
  pub acts : List (Act Deed)
  pub valid : IsValid wiring
  pub closed : is_closed wiring ≡ true
  pub few : workers ≤ most_workers
  pub steps : IsPlayedRun wiring workers lacks acts

-- the number of an actor of it
abbrev pub IsPlayer : PlayedRun → ℕ → Type 0
IsPlayer run actor = actor < actor_count run.wiring run.workers

-- what an actor asks next
abbrev pub plays_next : PlayedRun → ℕ → Option Asked
plays_next run actor = next run.wiring actor (run.lacks actor) (given_in run.wiring run.lacks run.acts actor)

-- the act in which the object of the place answers this ask of the actor
abbrev pub act_by : PlayedRun → ℕ → Asked → Act Deed
act_by run actor one = act_after run.wiring run.acts actor one.place one.ask

-- with that act more it is a run too
abbrev pub PlaysOn : PlayedRun → ℕ → Asked → Type 0
PlaysOn run actor one = IsPlayedRun run.wiring run.workers run.lacks (run.acts ++ act_by run actor one ∷ [])

-- the entries of its acts
abbrev pub played : PlayedRun → List Entry
played run = entries_of run.wiring run.acts

-- the wiring has the place
abbrev pub Has : PlayedRun → Place → Type 0
Has run place = HasPlace run.wiring place

-- the wiring has the domain, and it is one of Interleaves
abbrev pub HasInterleave : PlayedRun → ℕ → Type 0
HasInterleave run domain = Has run (places.Arbiter domain) × (is_interleave_number run.wiring domain ≡ true)

-- a queue, a site and an Interleave as the visible history has them
abbrev pub queue_of : PlayedRun → ℕ → Object
queue_of run queue = whole_queue run.wiring (played run) queue

abbrev pub site_of : PlayedRun → ℕ → ℕ → Object
site_of run branch site = whole_site run.wiring (played run) branch site

abbrev pub interleave_of : PlayedRun → ℕ → Object
interleave_of run domain = whole_interleave run.wiring (played run) domain

-- the object of a place after it
abbrev pub object_in : PlayedRun → Place → Object
object_in run place = object_at run.wiring run.acts place
