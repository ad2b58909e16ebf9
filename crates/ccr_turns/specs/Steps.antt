-- What each kind of step tells the seat that makes it.
use Rattle.std.specs.Prelude.{◌≡◌, Bool, ◌≢◌, ℕ, ◌*◌, ◌^◌, ◌≤◌, [], ◌∷◌, ◌++◌, Option, Some, None}
use mathlib.Core.Option.{some}
use lib.ListN.{get_elem?}
use Rattle.atomic_table.specs.Table.{Step, rest}
use Rattle.ccr_turns.specs.Lists.{last_of}
use Rattle.ccr_turns.specs.Histories.{history_stamps, past, IsSifted}
use Rattle.ccr_turns.specs.Logs.{log_entry, noted, log_stamps}
use Rattle.ccr_turns.specs.Views.{Sat, view, hold}
use Rattle.ccr_turns.specs.declared.history.Held.{Held}
use Rattle.ccr_turns.specs.declared.history.Cell.{Cell}
use Rattle.ccr_turns.specs.declared.history.Log.{Log}
use Rattle.ccr_turns.specs.declared.history.Hold.{Hold}

module _ {O N X : Type 0} where
  -- where the word was 0, the seat has the lock and the place's cell, and no stamp there or in its logs is high; else nothing changed
  abbrev pub won : (O → X) → (N → Bool) → Step (Option (Cell O N)) → Sat O N X → ℕ → Sat O N X → Type 0
  won value seen st m r n =
      (r ≡ 0 → (c : Cell O N) × (n ≡ (view m.0.logs (Some (hold st.word (past c) (value c.object) c.keep)), (st.word, Some c) ∷ m.1))
      × (last_of 0 (history_stamps (past c)) ≤ st.slots * 2 ^ 64)
      × ((k : ℕ) (l : Log N X) → get_elem? m.0.logs k ≡ some l → last_of 0 (log_stamps l.logged) ≤ st.slots * 2 ^ 64)
      × IsSifted seen c)
      × (r ≢ 0 → n ≡ m)

  -- the turn is over
  abbrev pub left : Step (Option (Cell O N)) → Sat O N X → ℕ → Sat O N X → Type 0
  left st m r n = n ≡ (view m.0.logs None, rest m.1)

  -- the turn is over, and the log has one entry more, the last of the history
  abbrev pub entered : Step (Option (Cell O N)) → Sat O N X → ℕ → Sat O N X → Type 0
  entered st m r n = (n.1 ≡ rest m.1)
      × ((c : Cell O N) (e : Held N) (h : Hold N X) → m.0.hold ≡ Some h → m.1 ≡ (st.word, Some c) ∷ rest m.1 → past c ≡ h.history ++ e ∷ []
      → n.0 ≡ view (noted m.0.logs (log_entry h.place e.stamp e.note h.now (last_of 0 (history_stamps h.history)))) None)
