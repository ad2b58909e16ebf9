use Rattle.std.proofs.Common.{arith}
use Rattle.std.proofs.lemmas.Fn.{filter_same}
use Rattle.ccr_model.specs.Sites.{yields_at}
use Rattle.ccr_model.proofs.sites.yielded_at.Goals as goal

pub returns : goal.returns
returns c = grind (arith, filter_same _ (λ task. yields_at c.args.events.now c.args.site task) _ (λ x b f h. grind (arith, h)) _ _ c.retain.ensures.filtered)
