use Rattle.std.proofs.Common.{length}
use Rattle.ccr_model.proofs.selections.+are_split.Given as goal

abbrev pub decreases-are_split : goal.decreases-are_split
decreases-are_split l = length l.first.now
