-- What a seat at the table knows, and how seats are made and joined.
use Rattle.std.specs.Prelude.{ℕ, List, [], ◌∷◌, ◌++◌, Option, None}
use Rattle.atomic_table.specs.Table.{Me}
use Rattle.ccr_turns.specs.Lists.{total}
use Rattle.ccr_turns.specs.Logs.{fresh}
use Rattle.ccr_turns.specs.declared.history.Held.{Held}
use Rattle.ccr_turns.specs.declared.history.Cell.{Cell}
use Rattle.ccr_turns.specs.declared.history.Log.{Log}
use Rattle.ccr_turns.specs.declared.history.Hold.{Hold}
use Rattle.ccr_turns.specs.declared.history.View.{View}
use Rattle.ccr_turns.specs.declared.kept.Keep.{Keep}

-- a view, and the slots that are out with the seat
abbrev pub Sat : Type 0 → Type 0 → Type 0 → Type 0
Sat O N X = Me (Option (Cell O N)) (View N X)

module _ {N X : Type 0} where
  abbrev pub view : List (Log N X) → Option (Hold N X) → View N X
  view logs hold = record { logs = logs; hold = hold }

  abbrev pub hold : ℕ → List (Held N) → X → Keep → Hold N X
  hold place history now keep = record { place = place; history = history; now = now; keep = keep }

  -- the sum of a weight over the numbers of a view's logs
  abbrev pub weight : (ℕ → ℕ) → View N X → ℕ
  weight f v = total (λ l. f l.number) v.logs

  -- the first seat at the table has the logs of all
  abbrev pub opening_view : ℕ → View N X
  opening_view n = view (fresh 0 n) None

  abbrev pub first_logs : List (Log N X) → List (Log N X)
  first_logs [] = []
  first_logs (l ∷ ls) = l ∷ []

  abbrev pub later_logs : List (Log N X) → List (Log N X)
  later_logs [] = []
  later_logs (l ∷ ls) = ls

  -- a seat gives its first log to a new seat
  abbrev pub split_left : View N X → View N X
  split_left v = view (later_logs v.logs) None

  abbrev pub split_right : View N X → View N X
  split_right v = view (first_logs v.logs) None

  -- a seat takes over the logs of another, which is spent
  abbrev pub joined : View N X → View N X → View N X
  joined v w = view (w.logs ++ v.logs) None

  abbrev pub spent : View N X
  spent = view [] None
