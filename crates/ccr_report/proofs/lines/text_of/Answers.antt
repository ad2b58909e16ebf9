use Rattle.ccr_report.proofs.TextParts.{counted_parts}
use Rattle.ccr_report.proofs.lines.text_of.Goals as goal

pub returns : goal.returns
returns c =
    rw (c.in_ok-put_total.ensures.ok, c.in_ok-put_queues.ensures, c.in_ok-put_spots.ensures, c.in_ok-put_ports.ensures, c.in_ok-put_line.ensures.ok, c.new-out.ensures)
    (counted_parts c.args.parts.now c.args.counts.now c.args.branches.now c.args.spots.now c.deref.result.now c.deref-2.result.now c.deref-3.result.now c.deref-4.result.now c.deref-5.result.now c.requires.branches c.requires.spots c.deref.ensures.value c.deref-2.ensures.value c.deref-3.ensures.value c.deref-4.ensures.value c.deref-5.ensures.value)
