-- Runs of turns in which some asks find no memory.
use Rattle.std.specs.Prelude.{◌≡◌, ℕ, ◌+◌, Bool, true, false, ◌==◌, List, [], ◌∷◌, length, Option, Some, None, if◌then◌else◌}
use Rattle.ccr_base.specs.Lists.{has_number}
use Rattle.ccr_wiring.specs.declared.parts.Parts.{Parts}
use Rattle.ccr_claim.specs.declared.asks.Asked.{Asked}
use Rattle.ccr_claim.specs.Asks.{is_settling}
use Rattle.ccr_actor.specs.Acting.{Acting, next as asks_next, sent, shortened as left_short}
use Rattle.ccr_actor.specs.Actors.{next}
use Rattle.ccr_runs.specs.declared.entries.Entry.{Entry}
use Rattle.ccr_net.specs.Acted.{PlainState}
use Rattle.ccr_runs.specs.EntryRuns.{Lacks, made_by, never, replies_of, with_made}
use Rattle.ccr_net.specs.Schedules.{IsAnswered, IsPlayed}

-- a run so far: after how many of its replies each actor found no memory, how many asks that don't settle were made by
-- all actors, refused ones too, and the entries
pub record SoFar : Type 0 where
  pub lacks : Lacks
  pub asks : ℕ
  pub entries : List Entry

-- before all turns
abbrev pub nothing_yet : SoFar
nothing_yet = record { lacks = never; asks = 0; entries = [] }

-- the actor finds no memory after so many of its replies, the others as before
abbrev pub lacking : Lacks → ℕ → ℕ → Lacks
lacking lacks actor n other = if actor == other then Some n else lacks other

-- the actor's next ask is made at its place, and adds its entry
abbrev pub make : Parts → SoFar → ℕ → SoFar
make wiring run actor = record run { entries = with_made run.entries (made_by wiring run.lacks run.entries actor) }

-- the actor's next ask finds no memory: it leaves no entry, and from then on the actor is short
abbrev pub refuse : Parts → SoFar → ℕ → SoFar
refuse wiring run actor = record run { lacks = lacking run.lacks actor (length (replies_of wiring run.entries actor)) }

-- one ask more that doesn't settle
abbrev pub counted : SoFar → SoFar
counted run = record run { asks = run.asks + 1 }

-- an ask that settles is made; any other has the next number, by which it is refused or made
abbrev pub turned_by : Parts → List ℕ → SoFar → ℕ → Option Asked → SoFar
turned_by wiring refused run actor None = run
turned_by wiring refused run actor (Some one) =
    if is_settling one.ask then make wiring run actor else (if has_number refused run.asks then refuse wiring (counted run) actor else make wiring (counted run) actor)

-- a turn of an actor: its next ask, if it isn't at rest
abbrev pub turned : Parts → List ℕ → SoFar → ℕ → SoFar
turned wiring refused run actor = turned_by wiring refused run actor (next wiring actor (run.lacks actor) (replies_of wiring run.entries actor))

-- the run after these turns
abbrev pub turned_from : Parts → List ℕ → SoFar → List ℕ → SoFar
turned_from wiring refused run [] = run
turned_from wiring refused run (actor ∷ turns) = turned_from wiring refused (turned wiring refused run actor) turns

-- the run of these turns, where the asks of these numbers find no memory
abbrev pub shortened : Parts → List ℕ → List ℕ → List Entry
shortened wiring refused turns = (turned_from wiring refused nothing_yet turns).entries

-- ---- turns of the code

-- the places and the actors have played a run, whoever of them lacks memory
abbrev pub HasPlayed : ℕ → PlainState → List Acting → List Entry → Type 0
HasPlayed workers state actors entries = (lacks : Lacks) × IsPlayed workers lacks state actors entries

-- they have played this run
pub record HasRun (workers : ℕ) (run : SoFar) (state : PlainState) (actors : List Acting) (entries : List Entry) (asks : ℕ) : Type 0 where
  pub played : IsPlayed workers run.lacks state actors entries
  pub number : asks ≡ run.asks
  pub same : entries ≡ run.entries

-- whoever lacked memory before, after the turn they have played the run that the turn makes, and so many asks that don't settle were made
abbrev pub HasTurned : ℕ → List ℕ → ℕ → ℕ → PlainState → List Acting → List Entry → PlainState → List Acting → List Entry → ℕ → Type 0
HasTurned workers refused turn asks state actors entries later after more number =
    (lacks : Lacks) → IsPlayed workers lacks state actors entries → HasRun workers (turned state.wiring refused (record { lacks = lacks; asks = asks; entries = entries }) turn) later after more number

-- what becomes of an ask, by whether it settles and whether its number is refused
abbrev pub IsTaken : Bool → Bool → Asked → ℕ → PlainState → Acting → List Entry → PlainState → Acting → List Entry → ℕ → Type 0
IsTaken true refused one asks state a entries later b more number = IsAnswered state (sent a) entries one.place one.ask later b more × (number ≡ asks)
IsTaken false true one asks state a entries later b more number = (b ≡ left_short (sent a)) × ((later ≡ state) × ((more ≡ entries) × (number ≡ asks + 1)))
IsTaken false false one asks state a entries later b more number = IsAnswered state (sent a) entries one.place one.ask later b more × (number ≡ asks + 1)

-- the actor's next ask is made or refused
pub record IsTurn (refused : List ℕ) (asks : ℕ) (state : PlainState) (a : Acting) (entries : List Entry) (later : PlainState) (b : Acting) (more : List Entry) (number : ℕ) : Type 0 where
  pub one : Asked
  pub is : asks_next a ≡ Some one
  pub taken : IsTaken (is_settling one.ask) (has_number refused asks) one asks state a entries later b more number
