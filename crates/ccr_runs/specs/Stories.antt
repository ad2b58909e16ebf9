-- What a list of acts tells of each seat.
use Rattle.std.specs.Prelude.{ℕ, ◌==◌, cond, List, [], ◌∷◌}
use Rattle.ccr_turns.specs.Logs.{log_entry}
use Rattle.ccr_turns.specs.declared.history.LogEntry.{LogEntry}
use Rattle.ccr_runs.specs.declared.acts.Act.{Act}

-- at each place, the object's value and the last stamp
abbrev pub Scene : Type 0 → Type 0
Scene X = ℕ → X × ℕ

module _ {N X : Type 0} (after : X → N → X) where
  -- the scene after the act
  abbrev pub moved : Scene X → Act N → Scene X
  moved v e p = cond (e.place == p) (after (v p).0 e.note, e.stamp) (v p)

  -- the acts of the seat, each with what was at its place before
  abbrev pub story : ℕ → Scene X → List (Act N) → List (LogEntry N X)
  story k v [] = []
  story k v (e ∷ es) = cond (e.seat == k) (log_entry e.place e.stamp e.note (v e.place).0 (v e.place).1 ∷ story k (moved v e) es) (story k (moved v e) es)
