use Rattle.std.proofs.Common.{◌≡◌, ◌++◌, drop}
use Rattle.ccr_text.specs.Spelling.{text_of}
use Rattle.ccr_report.specs.Rows.{queue_rows}
use Rattle.ccr_report.proofs.lines.put_queues.Given as goal

abbrev pub invariant-loop-queue : goal.invariant-loop-queue
invariant-loop-queue l = l.out ++ text_of (queue_rows l.put l.dropped l.queue (drop l.queue l.parts.queues)) ≡ l.fn.out ++ text_of (queue_rows l.put l.dropped 0 l.parts.queues)
