-- The log of a seat.
use Rattle.std.specs.Prelude.{◌≡◌, ℕ, zero, suc, ◌+◌, ◌<◌, ◌≤◌, max, ◌==◌, cond, List, [], ◌∷◌, ◌++◌, map, length}
use mathlib.Core.Option.{some}
use lib.ListN.{get_elem?}
use Rattle.ccr_turns.specs.Lists.{last_of}
use Rattle.ccr_base.specs.Lists.{Each}
use Rattle.ccr_turns.specs.Histories.{Place}
use Rattle.ccr_turns.specs.declared.history.Held.{Held}
use Rattle.ccr_turns.specs.declared.history.LogEntry.{LogEntry}
use Rattle.ccr_turns.specs.declared.history.Log.{Log}

module _ {N X : Type 0} where
  abbrev pub log_entry : ℕ → ℕ → N → X → ℕ → LogEntry N X
  log_entry place stamp note before earlier = record { place = place; stamp = stamp; note = note; before = before; earlier = earlier }

  abbrev pub log : ℕ → List (LogEntry N X) → Log N X
  log number logged = record { number = number; logged = logged }

  -- the stamps of a log, in its order
  abbrev pub log_stamps : List (LogEntry N X) → List ℕ
  log_stamps logged = map (λ m. m.stamp) logged

  -- each stamp is one more than the greater of the last at its place and the last in the log
  abbrev pub Stamped : ℕ → List (LogEntry N X) → Type 0
  Stamped a [] = Unit {0}
  Stamped a (m ∷ ms) = (m.stamp ≡ max m.earlier a + 1) × Stamped m.stamp ms

  -- of a log, the entries at one place
  abbrev pub at_place : ℕ → List (LogEntry N X) → List (LogEntry N X)
  at_place p [] = []
  at_place p (m ∷ ms) = cond (m.place == p) (m ∷ at_place p ms) (at_place p ms)

  -- the entries of the first log
  abbrev pub logged_of : List (Log N X) → List (LogEntry N X)
  logged_of [] = []
  logged_of (l ∷ ls) = l.logged

  -- the numbers of some logs, in their order
  abbrev pub numbers_of : List (Log N X) → List ℕ
  numbers_of logs = map (λ (l : Log N X). l.number) logs

  -- n empty logs, with the numbers from k on
  abbrev pub fresh : ℕ → ℕ → List (Log N X)
  fresh k zero = []
  fresh k (suc n) = log k [] ∷ fresh (suc k) n

  -- the first log has one entry more
  abbrev pub noted : List (Log N X) → LogEntry N X → List (Log N X)
  noted [] m = []
  noted (l ∷ ls) m = log l.number (l.logged ++ m ∷ []) ∷ ls

-- of a history, the entries of one seat, each with the place, the object's value before it and the last stamp there before it
abbrev pub told : {N X : Type 0} → (X → N → X) → ℕ → ℕ → X → ℕ → List (Held N) → List (LogEntry N X)
told after p k x a [] = []
told after p k x a (e ∷ es) = cond (e.seat == k) (log_entry p e.stamp e.note x a ∷ told after p k (after x e.note) e.stamp es) (told after p k (after x e.note) e.stamp es)

-- the log has the entries of its seat at all places, and no others, in order of stamp
pub record FitsLog {N X : Type 0} (after : X → N → X) (places : List (Place N X)) (most : ℕ) (l : Log N X) : Type 0 where
  pub stamped : Stamped 0 l.logged
  pub low : last_of 0 (log_stamps l.logged) ≤ most
  pub same : (i : ℕ) (p : Place N X) → get_elem? places i ≡ some p → at_place i l.logged ≡ told after i l.number p.0 0 p.1
  pub inside : Each (λ m. m.place < length places) l.logged
