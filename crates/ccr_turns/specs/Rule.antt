-- The rule that each step at the table keeps.
use Rattle.std.specs.Prelude.{◌≡◌, ◌≢◌, Bool, ℕ, ◌<◌, List, Option, Some, map, length, slice_index}
use mathlib.Core.Option.{some}
use lib.ListN.{get_elem?}
use Rattle.atomic_table.specs.Table.{State}
use Rattle.ccr_turns.specs.Lists.{total, below}
use Rattle.ccr_turns.specs.Histories.{left_by, Place, entries, sifted, past, IsSifted, IsRight}
use Rattle.ccr_turns.specs.Logs.{FitsLog}
use Rattle.ccr_turns.specs.Views.{weight}
use Rattle.ccr_turns.specs.declared.history.Cell.{Cell}
use Rattle.ccr_turns.specs.declared.history.Log.{Log}
use Rattle.ccr_turns.specs.declared.history.Hold.{Hold}
use Rattle.ccr_turns.specs.declared.history.View.{View}
use Rattle.ccr_turns.specs.declared.kept.Keep.{Keep}

-- the place's slot has of its history what is kept, and the object that it leaves
pub record IsHome {O N X : Type 0} (value : O → X) (after : X → N → X) (seen : N → Bool)
    (keep : Keep) (homes : List (mathlib.Core.Option.Option (Option (Cell O N)))) (i : ℕ) (p : Place N X) : Type 0 where
  pub cell : Cell O N
  pub at : get_elem? homes i ≡ some (some (Some cell))
  pub history : past cell ≡ p.1
  pub now : value cell.object ≡ left_by after p.0 p.1
  pub kept : cell.keep ≡ keep
  pub sifted : IsSifted seen cell

-- a seat has the lock of a place, and knows its history and the value that it leaves
pub record Holds {N X : Type 0} (after : X → N → X) (keep : Keep) (places : List (Place N X)) (words : List ℕ) (v : View N X) (h : Hold N X) : Type 0 where
  pub place : Place N X
  pub at : get_elem? places h.place ≡ some place
  pub locked : slice_index words h.place ≢ 0
  pub history : h.history ≡ place.1
  pub now : h.now ≡ left_by after place.0 place.1
  pub kept : h.keep ≡ keep
  pub seated : 0 < length v.logs

-- There are places, a word and a slot for each, which began as the objects. A word is 0 where the lock is free, and then the object is at home; else one seat has the lock.
-- The histories are right, the logs are made of them, and each seat's number is borne by one log.
pub record Orderly {O N X A R : Type 0} (value : O → X) (after : X → N → X) (may : X → A → R → N → Type 0) (seen : N → Bool)
    (keep : Keep) (objects : List O) (seats : ℕ) (s : State (Option (Cell O N)) (View N X)) : Type 0 where
  pub places : List (Place N X)
  pub same : length s.words ≡ length s.homes
  pub many : length places ≡ length s.homes
  pub begun : map (λ (p : Place N X). p.0) places ≡ map value objects
  pub free : (i : ℕ) (p : Place N X) → get_elem? places i ≡ some p → slice_index s.words i ≡ 0 → IsHome value after seen keep s.homes i p
  pub held : (i : ℕ) → i < length s.homes → slice_index s.words i ≢ 0 → (j : ℕ) × (v : View N X) × (h : Hold N X) × (get_elem? s.views j ≡ some v) × (v.hold ≡ Some h) × (h.place ≡ i)
  pub holds : (j : ℕ) (v : View N X) (h : Hold N X) → get_elem? s.views j ≡ some v → v.hold ≡ Some h → Holds after keep places s.words v h
  pub one : (j k : ℕ) (v w : View N X) (h g : Hold N X) → get_elem? s.views j ≡ some v → get_elem? s.views k ≡ some w → v.hold ≡ Some h → w.hold ≡ Some g → h.place ≡ g.place → j ≡ k
  pub right : (i : ℕ) (p : Place N X) → get_elem? places i ≡ some p → IsRight after may seats (entries places) p
  pub logs : (j : ℕ) (v : View N X) (k : ℕ) (l : Log N X) → get_elem? s.views j ≡ some v → get_elem? v.logs k ≡ some l → FitsLog after places (entries places) l
  pub numbers : (f : ℕ → ℕ) → total (weight f) s.views ≡ below f seats

-- what the table has come to when all logs are one seat's, which holds nothing
pub record Settled {O N X A R : Type 0} (value : O → X) (after : X → N → X) (may : X → A → R → N → Type 0) (sees : N → Bool)
    (objects : List O) (seats : ℕ) (slots : List (Option (Cell O N))) (logs : List (Log N X)) : Type 0 where
  pub places : List (Place N X)
  pub most : ℕ
  pub many : length places ≡ length slots
  pub begun : map (λ (p : Place N X). p.0) places ≡ map value objects
  pub cells : (i : ℕ) (p : Place N X) → get_elem? places i ≡ some p → (c : Cell O N) × (get_elem? slots i ≡ some (Some c)) × (c.seen.items ≡ sifted sees p.1) × (value c.object ≡ left_by after p.0 p.1)
  pub right : (i : ℕ) (p : Place N X) → get_elem? places i ≡ some p → IsRight after may seats most p
  pub fits : (k : ℕ) (l : Log N X) → get_elem? logs k ≡ some l → FitsLog after places most l
  pub numbers : (f : ℕ → ℕ) → total (λ (l : Log N X). f l.number) logs ≡ below f seats
