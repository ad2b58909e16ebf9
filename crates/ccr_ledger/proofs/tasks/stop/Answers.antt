use Rattle.std.proofs.Common.{arith, not}
use Rattle.std.proofs.lemmas.Fn.{filter_same}
use Rattle.ccr_base.specs.Names.{same_task}
use Rattle.ccr_ledger.specs.declared.cards.Runner.{Runner}
use Rattle.ccr_ledger.proofs.tasks.stop.Goals as goal

pub returns : goal.returns
returns c = filter_same _ (λ (r : Runner). not (same_task r.task c.args.task)) _ (λ x b f h. grind (arith, h)) _ _ c.retain.ensures.filtered
