-- What the meter answers.
use Rattle.std.specs.Prelude.{ℕ, Option, Some, None, if◌then◌else◌}
use Rattle.ccr_claim.specs.declared.asks.Ask.{Ask}
use Rattle.ccr_claim.specs.declared.asks.Ask.TheVariants as asks
use Rattle.ccr_claim.specs.declared.asks.Reply.{Reply}
use Rattle.ccr_claim.specs.declared.asks.Reply.TheVariants as replies
use Rattle.ccr_places.specs.declared.notes.Note.{Note}
use Rattle.ccr_places.specs.declared.notes.Note.TheVariants as notes
use Rattle.ccr_places.specs.Meters.{MeterState, may_leave, draw_note, after_draw, after_leave}

-- how a draw is told: the number drawn, or that the budget is spent
abbrev pub draw_reply : Option ℕ → Reply
draw_reply None = replies.Spent
draw_reply (Some n) = replies.Drawn n

-- the reply to an ask, with its note; nothing where the ask isn't for the meter or its condition isn't met
abbrev pub answer : MeterState → Ask → Option (Reply × Note)
answer meter asks.Draw = Some (draw_reply (draw_note meter), notes.Draw (draw_note meter))
answer meter asks.Leave = if may_leave meter then Some (replies.Done, notes.Leave) else None
answer meter asks.Left = Some (replies.Left meter.left, notes.Left meter.left)
answer meter _ = None

-- the meter after the ask
abbrev pub after : MeterState → Ask → MeterState
after meter asks.Draw = after_draw meter (draw_note meter)
after meter asks.Leave = if may_leave meter then after_leave meter else meter
after meter _ = meter
