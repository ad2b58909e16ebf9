use Rattle.std.proofs.lemmas.Result.{IfOk-equal}
use Rattle.ccr_trace.proofs.Lines.{post_line}
use Rattle.ccr_trace.proofs.events.put_full_post.Goals as goal

pub returns-clause-text : goal.returns-clause-text
returns-clause-text c =
    IfOk-equal _ _ _ _ c.put_bytes-2.ensures.ok
    (rw (c.in_ok-put_causes.ensures, c.in_ok-put_value.ensures.text, c.in_ok-put_word.ensures, c.in_ok-put_message.ensures.text, c.in_ok-put_bytes.ensures.ok, c.name_at.ensures, c.as_slice.ensures, c.as_slice-2.ensures)
    (post_line _ _ _ _ _))
