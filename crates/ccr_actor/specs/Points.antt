-- When the gate is asked.
use Rattle.std.specs.Prelude.{Option, Some, None}
use Rattle.ccr_base.specs.declared.gate.Point.{Point}
use Rattle.ccr_base.specs.declared.gate.Point.TheVariants as points
use Rattle.ccr_base.specs.declared.tasks.How.{How}
use Rattle.ccr_base.specs.declared.tasks.How.TheVariants as hows
use Rattle.ccr_claim.specs.declared.asks.Ask.{Ask}
use Rattle.ccr_claim.specs.declared.asks.Ask.TheVariants as asks
use Rattle.ccr_claim.specs.declared.asks.Reply.{Reply}
use Rattle.ccr_claim.specs.declared.asks.Reply.TheVariants as replies

-- a dropped task never ran
abbrev pub point_by : How → Option Point
point_by hows.Dropped = None
point_by _ = Some points.BeforeEnd

-- before an end of a running task, and before its suspension
abbrev pub point_before : Ask → Option Point
point_before (asks.Over task root how) = point_by how
point_before (asks.Suspend task) = Some points.BeforeEnd
point_before _ = None

-- after a claim that got its messages, after a firing, after a task was taken
abbrev pub point_after : Reply → Option Point
point_after (replies.Got messages) = Some points.Claimed
point_after (replies.Fired task cuts) = Some points.Committed
point_after (replies.Taken (Some task)) = Some points.Started
point_after _ = None
