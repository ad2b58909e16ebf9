use Rattle.std.proofs.Common.{◌≡◌, ◌++◌, sym, subst}
use Rattle.std.specs.Prelude.{OnOk}
use Rattle.ccr_steady.specs.declared.agreement.Agreed.{Agreed}
use Rattle.ccr_commands.specs.Steady.{agreed_text}
use Rattle.ccr_commands.proofs.steady.put_agreed.Goals as goal

pub returns-in-Counts : goal.returns-in-Counts
returns-in-Counts c = subst (λ (found : Agreed). OnOk c.put_counts.result (c.put_counts.new.out ≡ c.args.out.now ++ agreed_text found)) (sym c.in-Counts.is) c.put_counts.ensures
