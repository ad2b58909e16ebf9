use Rattle.std.proofs.Common.{arith}
use Rattle.std.proofs.lemmas.Grind.{common_steps}
use Rattle.std.proofs.lemmas.Fn.{filter_same}
use Rattle.ccr_model.specs.Tasks.{is_for_queue}
use Rattle.ccr_model.proofs.tasks.queued.Goals as goal

pub returns : goal.returns
returns c = grind (arith, common_steps, filter_same _ (λ task. is_for_queue c.args.wiring.now c.args.events.now c.args.queue task) _ (λ x b f h. grind (arith, h)) _ _ c.retain.ensures.filtered)
