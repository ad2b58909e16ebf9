use Rattle.std.proofs.Common.{arith, not}
use Rattle.std.proofs.lemmas.Fn.{filter_same}
use Rattle.ccr_base.specs.Names.{has_task}
use Rattle.ccr_model.proofs.firings.remove_all.Goals as goal

pub returns : goal.returns
returns c = filter_same _ (λ task. not (has_task c.args.gone.now task)) _ (λ x b f h. grind (arith, h)) _ _ c.retain.ensures.filtered
