use Rattle.std.proofs.lemmas.Result.{IfOk-equal}
use Rattle.ccr_trace.proofs.Lines.{fire_line}
use Rattle.ccr_trace.proofs.events.put_full_fire.Goals as goal

pub returns-clause-text : goal.returns-clause-text
returns-clause-text c =
    IfOk-equal _ _ _ _ c.put_bytes-2.ensures.ok
    (rw (c.in_ok-put_cuts.ensures.text, c.in_ok-put_messages.ensures.text, c.in_ok-put_spot.ensures.text, c.in_ok-put_task.ensures.text, c.in_ok-put_bytes.ensures.ok, c.as_slice.ensures, c.as_slice-2.ensures)
    (fire_line _ _ _ _ _))
