use Rattle.std.proofs.Common.{not, ap, ◌∙◌}
use Rattle.ccr_queue.proofs.TableSteps.{is_some-known}
use Rattle.ccr_queue.proofs.queue.QueueObject.may_book.Goals as goal

pub returns : goal.returns
returns c = rw (← c.self.view_is) (ap not (c.contains_key.ensures ∙ is_some-known _ _ _ _ c.self.invariant c.args.t))
