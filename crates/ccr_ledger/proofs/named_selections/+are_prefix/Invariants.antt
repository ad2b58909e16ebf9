use Rattle.std.proofs.Common.{length}
use Rattle.ccr_ledger.proofs.named_selections.+are_prefix.Given as goal

abbrev pub decreases-are_prefix : goal.decreases-are_prefix
decreases-are_prefix l = length l.oldest.now
