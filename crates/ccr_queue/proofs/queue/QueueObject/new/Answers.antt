use Rattle.ccr_queue.proofs.TableSteps.{none-tied}
use Rattle.ccr_queue.proofs.queue.QueueObject.new.Goals as goal

pub invariant_of-result : goal.invariant_of-result
invariant_of-result c = rw (c.with_hasher.ensures.empty, c.new-2.ensures.items) (none-tied _)
