use Rattle.std.proofs.Common.{sym, ◌∙◌}
use Rattle.ccr_queue.proofs.TableSteps.{booked-known}
use Rattle.ccr_queue.proofs.queue.QueueObject.may_unbook.Goals as goal

pub returns : goal.returns
returns c = rw (← c.self.view_is) (c.is_booked.ensures ∙ rw (c.copied.ensures, c.get.ensures.value) (sym (booked-known _ _ _ _ c.self.invariant c.args.t)))
