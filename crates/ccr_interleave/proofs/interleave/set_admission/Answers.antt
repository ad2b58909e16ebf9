use Rattle.std.proofs.Common.{ap, ◌∙◌}
use Rattle.std.specs.Map.{keys_of}
use Rattle.ccr_base.specs.Names.{same_task}
use Rattle.indexmap.proofs.CallerLemmas.{keys-insert_entry-present}
use Rattle.ccr_interleave.proofs.interleave.set_admission.Goals as goal

pub returns-clause-keys : goal.returns-clause-keys
returns-clause-keys c = ap keys_of c.in-Ok.ensures.entries ∙ keys-insert_entry-present same_task c.args.fired.now c.args.task c.args.admission c.requires
