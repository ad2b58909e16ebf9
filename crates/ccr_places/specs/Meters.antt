-- What the meter keeps, and its steps: draws from the budget of posts, and the posters that are through.
use Rattle.std.specs.Prelude.{◌≡◌, ⊤, ℕ, ◌+◌, Bool, nat_lt, List, fold, Option, Some, None, if◌then◌else◌}
use Rattle.ccr_base.specs.Bounds.{most_posters}
use Rattle.ccr_places.specs.declared.notes.Note.{Note}
use Rattle.ccr_places.specs.declared.notes.Note.TheVariants.{Draw, Leave, Left}

-- the budget, how many posts were drawn from it, and how many posters have left
pub record MeterState : Type 0 where
  pub budget : ℕ
  pub drawn : ℕ
  pub left : ℕ

-- a meter with its whole budget
abbrev pub start : ℕ → MeterState
start budget = record { budget = budget; drawn = 0; left = 0 }

-- no more posters leave than a wiring may have
abbrev pub may_leave : MeterState → Bool
may_leave meter = nat_lt meter.left most_posters

-- how many were drawn before, or none where the budget is spent
abbrev pub draw_note : MeterState → Option ℕ
draw_note meter = if nat_lt meter.drawn meter.budget then Some meter.drawn else None

-- one more was drawn, unless the answer was none
abbrev pub after_draw : MeterState → Option ℕ → MeterState
after_draw meter None = meter
after_draw meter (Some before) = record meter { drawn = meter.drawn + 1 }

-- one more poster has left
abbrev pub after_leave : MeterState → MeterState
after_leave meter = record meter { left = meter.left + 1 }

-- what the meter keeps after a note of its own
abbrev pub after : MeterState → Note → MeterState
after meter (Draw answer) = after_draw meter answer
after meter Leave = after_leave meter
after meter _ = meter

-- what the meter keeps after all these notes
abbrev pub kept : MeterState → List Note → MeterState
kept meter notes = fold after meter notes

-- the notes that the meter may give
abbrev pub IsGiven : MeterState → Note → Type 0
IsGiven meter (Draw answer) = answer ≡ draw_note meter
IsGiven meter Leave = ⊤
IsGiven meter (Left count) = count ≡ meter.left
IsGiven meter _ = ⊥
