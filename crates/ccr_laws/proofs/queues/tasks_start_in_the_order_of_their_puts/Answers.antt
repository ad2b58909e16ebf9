use Rattle.ccr_laws.proofs.StartOrder.{starts_in_order}
use Rattle.ccr_laws.proofs.queues.tasks_start_in_the_order_of_their_puts.Goals as goal

pub returns : goal.returns
returns c = starts_in_order
