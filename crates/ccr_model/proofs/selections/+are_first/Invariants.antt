use Rattle.std.proofs.Common.{length}
use Rattle.ccr_model.proofs.selections.+are_first.Given as goal

abbrev pub decreases-are_first : goal.decreases-are_first
decreases-are_first l = length l.messages.now
