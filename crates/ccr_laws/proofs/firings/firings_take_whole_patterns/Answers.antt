use Rattle.ccr_laws.proofs.WholePatterns.{whole_pattern}
use Rattle.ccr_laws.proofs.firings.firings_take_whole_patterns.Goals as goal

pub returns : goal.returns
returns c = whole_pattern
