use Rattle.std.proofs.Common.{subst}
use Rattle.std.proofs.lemmas.Result.{IfOk-weaker}
use Rattle.ccr_wiring.specs.declared.parts.Parts.{Parts}
use Rattle.ccr_steady.specs.Agreement.{Agrees}
use Rattle.ccr_commands.proofs.load.agreed_counts.Goals as goal

pub returns-clause-counts : goal.returns-clause-counts
returns-clause-counts c = IfOk-weaker c.agreed.result _ _ (λ told agrees. c.generated_wirings_agree.ensures c.args.size c.requires.many told (subst (λ (w : Parts). Agrees w told) c.requires.generated agrees)) c.agreed.ensures
