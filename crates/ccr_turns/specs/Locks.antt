-- What a caller sees of the locks and their seats.
use Rattle.std.specs.Prelude.{◌≡◌, Bool, ℕ, ◌+◌, ◌<◌, max, All, List, [], ◌∷◌, ◌++◌, map, length, Some}
use Rattle.std.specs.List.{slice_get, AllZip}
use Rattle.ccr_turns.specs.Lists.{Rises, last_of}
use Rattle.ccr_turns.specs.Histories.{history_stamps, left_by, sifted, Given}
use Rattle.ccr_turns.specs.Logs.{log_entry, log, log_stamps, Stamped, at_place, logged_of, told}
use Rattle.ccr_turns.specs.declared.history.Held.{Held}
use Rattle.ccr_turns.specs.declared.history.LogEntry.{LogEntry}
use Rattle.ccr_turns.specs.declared.history.Log.{Log}
use Rattle.ccr_turns.specs.declared.kept.Keep.{Keep}
use Rattle.ccr_turns.specs.declared.kept.Kept.{Ghosts}
use Rattle.ccr_turns.specs.declared.turns.Turns.{Turns}
use Rattle.ccr_turns.specs.declared.turns.Seat.{Seat}

module _ {O A R N X : Type 0} where
  -- the objects as they were when the locks were made, in the order of their places
  abbrev pub starts : Turns O A R N X → List O
  starts turns = turns.table.shared.key.objects.value

  -- how many seats there are
  abbrev pub seat_count : Turns O A R N X → ℕ
  seat_count turns = turns.table.shared.key.seats

  -- which entries are kept in memory
  abbrev pub keep_of : Turns O A R N X → Keep
  keep_of turns = turns.table.shared.key.keep

  -- how many places there are
  abbrev pub place_count : Turns O A R N X → ℕ
  place_count turns = turns.table.shared.table_id.slots

module _ {O A R N X : Type 0} {kept : Ghosts O A R N X} where
  -- the seat was made with these locks
  abbrev pub IsSeatOf : Turns O A R N X → Seat O A R N X kept → Type 0
  IsSeatOf turns seat = seat.token.table_id ≡ turns.table.shared.table_id

  -- the seat's number
  abbrev pub number_of : Seat O A R N X kept → ℕ
  number_of seat = seat.number

  -- the entries that the seat has made, in their order
  abbrev pub log_of : Seat O A R N X kept → List (LogEntry N X)
  log_of seat = logged_of seat.token.me.0.logs

  -- these entries, with the number
  abbrev pub full_log : Seat O A R N X kept → Log N X
  full_log seat = log (number_of seat) (log_of seat)

-- The log has one entry more: at this place, with a stamp that is one more than the greater of the last there and the last in the log.
-- The object there had a value that may give this reply and that note to the ask. `Agrees` says which value and which last stamp these are.
abbrev pub Acts : {N X A R : Type 0} → (X → A → R → N → Type 0) → ℕ → A → R → List (LogEntry N X) → List (LogEntry N X) → Type 0
Acts {N} {X} may place ask reply old new =
    (stamp : ℕ) × (note : N) × (before : X) × (earlier : ℕ) × (new ≡ old ++ log_entry place stamp note before earlier ∷ [])
    × (stamp ≡ max earlier (last_of 0 (log_stamps old)) + 1)
    × may before ask reply note

-- an object and the history of its place, at the close, after this start
pub record IsLeft {O N X A R : Type 0} (value : O → X) (after : X → N → X) (may : X → A → R → N → Type 0) (seats : ℕ) (start : O) (left : O × List (Held N)) : Type 0 where
  -- the object is the one that its notes leave from the start
  pub object : value left.0 ≡ left_by after (value start) left.1
  pub rising : Rises 0 (history_stamps left.1)
  pub given : Given after may (value start) left.1
  -- each entry is a seat's
  pub seated : All (λ (entry : Held N). entry.seat < seats) left.1

-- at the place the log has the seat's entries of what was left there, and no others
abbrev pub HasEntriesOf : {O N X : Type 0} → (O → X) → (X → N → X) → Log N X → ℕ → O → O × List (Held N) → Type 0
HasEntriesOf value after l place start left = at_place place l.logged ≡ told after place l.number (value start) 0 left.1

-- a seat's log, and the objects with their histories at the close
pub record Agrees {O N X : Type 0} (value : O → X) (after : X → N → X) (starts : List O) (kept : List (O × List (Held N))) (l : Log N X) : Type 0 where
  pub rising : Rises 0 (log_stamps l.logged)
  pub stamped : Stamped 0 l.logged
  -- at each place the log has the seat's entries of that history, and no others
  pub same : (place : ℕ) (start : O) (left : O × List (Held N)) → slice_get starts place ≡ Some start → slice_get kept place ≡ Some left → HasEntriesOf value after l place start left
  pub inside : All (λ (m : LogEntry N X). m.place < length starts) l.logged

-- of an object and its history, the object and the entries that are kept
abbrev pub sifted_of : {O N : Type 0} → (N → Bool) → O × List (Held N) → O × List (Held N)
sifted_of sees left = (left.0, sifted sees left.1)

-- what was kept at the close is a part of the objects with their whole histories, with which the logs agree
pub record HasWhole {O N X A R : Type 0} (value : O → X) (after : X → N → X) (may : X → A → R → N → Type 0) (sees : N → Bool)
    (seats : ℕ) (starts : List O) (logs : List (Log N X)) (kept : List (O × List (Held N))) : Type 0 where
  pub whole : List (O × List (Held N))
  pub objects : AllZip (IsLeft value after may seats) starts whole
  pub agree : All (Agrees value after starts whole) logs
  pub part : kept ≡ map (sifted_of sees) whole
