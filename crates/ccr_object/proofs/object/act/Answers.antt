use Rattle.std.proofs.Common.{ap, ◌∙◌}
use Rattle.ccr_object.specs.Objects.{answered, is_due}
use Rattle.ccr_object.specs.Queues as queues
use Rattle.ccr_object.proofs.RepliesFitAsks.{meter_due, ok_due, queue_due}
use Rattle.ccr_object.proofs.object.act.Goals as goal

pub returns-in-Queue-clause-fits : goal.returns-in-Queue-clause-fits
returns-in-Queue-clause-fits c = ok_due c.args.ask (queues.answer c.in-Queue.queue c.args.ask) c.act-in-Queue.result c.act-in-Queue.ensures.answer (queue_due c.in-Queue.queue c.args.ask)

pub returns-in-Meter-clause-fits : goal.returns-in-Meter-clause-fits
returns-in-Meter-clause-fits c = ap (λ g. is_due c.args.ask (answered g)) c.act-in-Meter.ensures.answer ∙ meter_due c.in-Meter.meter c.args.ask
