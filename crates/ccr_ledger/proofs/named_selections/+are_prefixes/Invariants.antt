use Rattle.std.proofs.Common.{length}
use Rattle.ccr_ledger.proofs.named_selections.+are_prefixes.Given as goal

abbrev pub decreases-are_prefixes : goal.decreases-are_prefixes
decreases-are_prefixes l = length l.first.now
