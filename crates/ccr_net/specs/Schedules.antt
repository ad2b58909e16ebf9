-- Turns of actors at the places on one thread.
use Rattle.std.specs.Prelude.{◌≡◌, ◌≤◌, ℕ, Bool, true, false, List, [], ◌∷◌, ◌++◌, length, slice_get, Option, Some, None, Ok}
use Rattle.std.specs.Option.{is_some}
use Rattle.ccr_base.specs.declared.names.Place.{Place}
use Rattle.ccr_wiring.specs.Actors.{actor_count}
use Rattle.ccr_wiring.specs.declared.parts.Parts.{Parts}
use Rattle.ccr_wiring.specs.Valid.{IsValid}
use Rattle.ccr_wiring.specs.Openness.{is_closed}
use Rattle.ccr_claim.specs.declared.asks.Ask.{Ask}
use Rattle.ccr_claim.specs.declared.asks.Asked.{Asked}
use Rattle.ccr_claim.specs.declared.asks.Reply.{Reply}
use Rattle.ccr_actor.specs.Acting.{Acting, at_state, next, sent, started, IsAfter}
use Rattle.ccr_actor.specs.Actors.{state_after}
use Rattle.ccr_object.specs.declared.deed.PlaceAnswer.TheVariants.{Replied}
use Rattle.ccr_object.specs.Objects.{note_of, reply_of}
use Rattle.ccr_runs.specs.Runs.{IsRunFrom, cast}
use Rattle.ccr_runs.specs.declared.entries.Entry.{Entry}
use Rattle.ccr_net.specs.Acted.{PlainState, act_after, scene_after}
use Rattle.ccr_runs.specs.Played.{entries_of, entry_of, number_at, protocol, scene}
use Rattle.ccr_runs.specs.EntryRuns.{Lacks, replies_of}

-- the actors before all turns
abbrev pub AreStarted : Parts → ℕ → List Acting → Type 0
AreStarted wiring count actors = (length actors ≡ count) × ((k : ℕ) (a : Acting) → slice_get actors k ≡ Some a → a ≡ started wiring k)

-- the condition of the actor's next ask is met at its place
abbrev pub IsMet : PlainState → Acting → Type 0
IsMet state a = (one : Asked) → next a ≡ Some one → is_some (note_of (scene_after state.wiring state.acts (number_at state.wiring one.place)).0 one.ask) ≡ true

-- the ask that the actor made is answered at its place, and the actor took in the reply; one that had memory still has
pub record IsAnswered (state : PlainState) (a : Acting) (entries : List Entry) (place : Place) (ask : Ask) (later : PlainState) (b : Acting) (more : List Entry) : Type 0 where
  pub wiring : later.wiring ≡ state.wiring
  pub acts : later.acts ≡ state.acts ++ act_after state.wiring state.acts a.actor place ask ∷ []
  pub entry : Entry
  pub is_entry : entry_of state.wiring (act_after state.wiring state.acts a.actor place ask) ≡ Some entry
  pub added : more ≡ entries ++ entry ∷ []
  pub reply : Reply
  pub replied : reply_of (scene_after state.wiring state.acts (number_at state.wiring place)).0 ask ≡ Replied reply
  pub heard : IsAfter a (Ok reply) b
  pub long : a.state.is_short ≡ false → b.state.is_short ≡ false

-- the actor's next ask is answered so
pub record IsStep (state : PlainState) (a : Acting) (entries : List Entry) (later : PlainState) (b : Acting) (more : List Entry) : Type 0 where
  pub one : Asked
  pub asks : next a ≡ Some one
  pub made : IsAnswered state (sent a) entries one.place one.ask later b more

-- it is short where it found no memory, after so many of these replies
abbrev pub IsShortAfter : Option ℕ → List Reply → Bool → Type 0
IsShortAfter None given short = short ≡ false
IsShortAfter (Some n) given short = (n ≤ length given) × (short ≡ true)

-- the actor stands where what it was replied in the entries leads it
pub record IsActing (wiring : Parts) (lacks : Lacks) (entries : List Entry) (k : ℕ) (a : Acting) : Type 0 where
  pub stands : a ≡ at_state wiring k (state_after wiring k (lacks k) (replies_of wiring entries k))
  pub short : IsShortAfter (lacks k) (replies_of wiring entries k) a.state.is_short

-- the acts are a run, the entries are theirs, and each actor stands where these lead it
pub record IsPlayed (workers : ℕ) (lacks : Lacks) (state : PlainState) (actors : List Acting) (entries : List Entry) : Type 0 where
  pub valid : IsValid state.wiring
  pub closed : is_closed state.wiring ≡ true
  pub run : IsRunFrom (protocol state.wiring lacks) (actor_count state.wiring workers) (scene state.wiring) (cast (protocol state.wiring lacks)) state.acts
  pub same : entries ≡ entries_of state.wiring state.acts
  pub count : length actors ≡ actor_count state.wiring workers
  pub acting : (k : ℕ) (a : Acting) → slice_get actors k ≡ Some a → IsActing state.wiring lacks entries k a
