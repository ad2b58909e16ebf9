-- What a seat is between its steps.
use Rattle.std.specs.Prelude.{◌≡◌, Bool, ℕ, ◌+◌, max, ◌++◌, ◌*◌, ◌^◌, ◌<◌, ◌≤◌, false, length, List, [], ◌∷◌, Option, Some, None}
use Rattle.std.specs.Option.{is_some}
use lib.ListN.{get_elem?}
use mathlib.Core.Option.{some}
use Rattle.ccr_turns.specs.Lists.{last_of}
use Rattle.ccr_turns.specs.Histories.{history_stamps, past, IsSifted}
use Rattle.ccr_turns.specs.Logs.{log, log_entry, noted, log_stamps, logged_of, numbers_of}
use Rattle.ccr_turns.specs.Views.{Sat, view, hold}
use Rattle.ccr_turns.specs.declared.history.Cell.{Cell}
use Rattle.ccr_turns.specs.declared.history.Held.{Held}
use Rattle.ccr_turns.specs.declared.history.Log.{Log}
use Rattle.ccr_turns.specs.declared.history.LogEntry.{LogEntry}
use Rattle.ccr_turns.specs.declared.history.Hold.{Hold}
use Rattle.ccr_turns.specs.declared.kept.Keep.{Keep}

module _ {O N X : Type 0} where
  -- between its acts a seat has the log with its number, which ends with its last stamp, and no lock and no slot
  abbrev pub IsAtRest : ℕ → ℕ → Sat O N X → Type 0
  IsAtRest number last m = (is_some m.0.hold ≡ false) × (length m.1 ≡ 0) × (numbers_of m.0.logs ≡ number ∷ []) × (last_of 0 (log_stamps (logged_of m.0.logs)) ≡ last)

  -- it has no lock and no slot
  abbrev pub Ready : Sat O N X → Type 0
  Ready m = (m.0.hold ≡ None) × (m.1 ≡ []) × (0 < length m.0.logs)

  -- it has the place's lock, and the cell lies in its slot still; no stamp there or in its logs is high
  abbrev pub Won : (O → X) → (N → Bool) → ℕ → ℕ → Sat O N X → Sat O N X → Type 0
  Won value seen slots place m n = (c : Cell O N) × (n ≡ (view m.0.logs (Some (hold place (past c) (value c.object) c.keep)), (place, Some c) ∷ []))
      × (last_of 0 (history_stamps (past c)) ≤ slots * 2 ^ 64)
      × ((k : ℕ) (l : Log N X) → get_elem? m.0.logs k ≡ some l → last_of 0 (log_stamps l.logged) ≤ slots * 2 ^ 64)
      × IsSifted seen c

  -- it has the place's lock, and the cell is out of its slot
  abbrev pub HasTurn : ℕ → Sat O N X → List (Held N) → X → Keep → Type 0
  HasTurn place m history now keep = m ≡ (view m.0.logs (Some (hold place history now keep)), (place, None) ∷ [])

  -- the seat without its lock
  abbrev pub Idle : Sat O N X → Sat O N X
  Idle m = (view m.0.logs None, [])

  -- the seat has the lock, and this cell was lifted out; no stamp in the cell or in the seat's logs is high
  abbrev pub Took : (O → X) → (N → Bool) → ℕ → ℕ → Sat O N X → Cell O N → Sat O N X → Type 0
  Took value seen slots place m c n = HasTurn place n (past c) (value c.object) c.keep × (n.0.logs ≡ m.0.logs)
      × (last_of 0 (history_stamps (past c)) ≤ slots * 2 ^ 64)
      × ((k : ℕ) (l : Log N X) → get_elem? m.0.logs k ≡ some l → last_of 0 (log_stamps l.logged) ≤ slots * 2 ^ 64)
      × IsSifted seen c

-- a seat with one log has the lock, and the cell has one entry more, which the object gave
pub record HasNewEntry {O N X A R : Type 0} (value : O → X) (after : X → N → X) (may : X → A → R → N → Type 0) (seen : N → Bool) (place : ℕ) (m : Sat O N X) (c : Cell O N) : Type 0 where
  pub number : ℕ
  pub logged : List (LogEntry N X)
  pub before : List (Held N)
  pub now : X
  pub entry : Held N
  pub me : m ≡ (view (log number logged ∷ []) (Some (hold place before now c.keep)), (place, None) ∷ [])
  pub sifted : IsSifted seen c
  pub history : past c ≡ before ++ entry ∷ []
  pub object : value c.object ≡ after now entry.note
  pub given : (ask : A) × (reply : R) × may now ask reply entry.note
  pub seat : entry.seat ≡ number
  pub stamp : entry.stamp ≡ max (last_of 0 (history_stamps before)) (last_of 0 (log_stamps logged)) + 1

-- the seat's log has that entry too
abbrev pub Entered : {O N X : Type 0} → ℕ → Sat O N X → Cell O N → Sat O N X → Type 0
Entered {O} {N} {X} place m c n = (n.1 ≡ [])
    × ((e : Held N) (h : Hold N X)
    → m.0.hold ≡ Some h
    → past c ≡ h.history ++ e ∷ []
    → n.0 ≡ view (noted m.0.logs (log_entry h.place e.stamp e.note h.now (last_of 0 (history_stamps h.history)))) None)

-- the object acted, and the history has one entry more
abbrev pub Acted : {O N X A R : Type 0} → (O → X) → (X → N → X) → (X → A → R → N → Type 0) → ℕ → ℕ → A → R → Cell O N → Cell O N → Type 0
Acted {O} {N} value after may number stamp ask reply c d =
    (e : Held N) × (past d ≡ past c ++ e ∷ []) × (value d.object ≡ after (value c.object) e.note) × may (value c.object) ask reply e.note × (e.seat ≡ number) × (e.stamp ≡ stamp)

-- the object lies in the slot, with an empty history
abbrev pub IsLaid : {O N : Type 0} → Keep → O → Option (Cell O N) → Type 0
IsLaid {O} {N} keep object slot = (c : Cell O N) × (slot ≡ Some c) × (c.object ≡ object) × (past c ≡ []) × (c.seen.items ≡ []) × (c.last ≡ 0) × (c.count ≡ 0) × (c.keep ≡ keep)

-- each slot has a cell
abbrev pub HasCells : {O N : Type 0} → List (Option (Cell O N)) → Type 0
HasCells {O} {N} slots = (i : ℕ) → i < length slots → (c : Cell O N) × (get_elem? slots i ≡ some (Some c))

-- what each slot has, in order
abbrev pub Lifted : {O N : Type 0} → List (Option (Cell O N)) → List (O × List (Held N)) → Type 0
Lifted {O} {N} slots kept = (length kept ≡ length slots) × ((i : ℕ) (c : Cell O N) → get_elem? slots i ≡ some (Some c) → get_elem? kept i ≡ some (c.object, c.seen.items))
