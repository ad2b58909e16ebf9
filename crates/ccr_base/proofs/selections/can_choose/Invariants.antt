use Rattle.std.proofs.Common.{◌≡◌, drop, length}
use Rattle.std.specs.Prelude.{nat_le}
use Rattle.ccr_base.specs.Selection.{fitting, is_choosable}
use Rattle.ccr_base.proofs.selections.can_choose.Given as goal

-- whether as many as are left to find satisfy it among the others
abbrev pub invariant-loop-message : goal.invariant-loop-message
invariant-loop-message g l = nat_le l.left (length (fitting l.slot.pred (g.T.Seen.seen (drop l.message-index l.items)))) ≡ is_choosable l.slot (g.T.Seen.seen l.items)
