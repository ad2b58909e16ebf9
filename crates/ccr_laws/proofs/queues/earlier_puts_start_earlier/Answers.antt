use Rattle.ccr_laws.proofs.StartOrder.{starts_earlier}
use Rattle.ccr_laws.proofs.queues.earlier_puts_start_earlier.Goals as goal

pub returns : goal.returns
returns c = starts_earlier
