use Rattle.std.proofs.Common.{[]}
use Rattle.ccr_claim.proofs.firing.in_pattern.Goals as goal

pub returns-in_ok-gather-in-Gather-2 : goal.returns-in_ok-gather-in-Gather-2
returns-in_ok-gather-in-Gather-2 c =
    let first = c.in_ok-gather-in-Gather.ensures [] c.none-all.ensures in
    let second = c.in_ok-gather-in-Gather-2.ensures _ first in
    rw (c.in-Gather.is, ← c.messages_at.ensures, ← c.messages_at-in-Gather.ensures) second
