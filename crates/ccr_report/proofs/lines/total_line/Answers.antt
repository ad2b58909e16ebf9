use Rattle.ccr_report.proofs.TextParts.{total_parts}
use Rattle.ccr_report.proofs.lines.total_line.Goals as goal

pub returns : goal.returns
returns c =
    rw (c.in_ok-put_bytes-2.ensures.ok, c.in_ok-put_other_amounts.ensures, c.in_ok-put_end_amounts.ensures, c.in_ok-put_message_amounts.ensures, c.in_ok-put_bytes.ensures.ok, c.new-line.ensures)
    (total_parts _ _ _ _ _ _ _ _ _ _ _)
