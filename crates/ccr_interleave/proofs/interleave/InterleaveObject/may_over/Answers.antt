use Rattle.std.proofs.Common.{sym, ◌∙◌}
use Rattle.ccr_interleave.proofs.TableSteps.{admitted-known}
use Rattle.ccr_interleave.proofs.interleave.InterleaveObject.may_over.Goals as goal

pub returns : goal.returns
returns c = rw (← c.self.view_is) (c.is_admitted.ensures ∙ rw (c.copied.ensures, c.get.ensures.value) (sym (admitted-known _ _ _ _ c.self.invariant c.args.root)))
