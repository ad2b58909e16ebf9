use Rattle.ccr_interleave.proofs.TableSteps.{none-tied}
use Rattle.ccr_interleave.proofs.interleave.InterleaveObject.new.Goals as goal

pub invariant_of-result : goal.invariant_of-result
invariant_of-result c = rw (c.new.ensures.empty, c.new-2.ensures.items) none-tied
