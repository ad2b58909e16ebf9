use Rattle.std.proofs.Common.{◌≡◌, length, []}
use Rattle.ccr_wiretext.specs.Patterns.{causes}
use Rattle.ccr_wiretext.proofs.patterns.causes.Given as goal

-- the causes so far and those of the words that are left
abbrev pub invariant-causes : goal.invariant-causes
invariant-causes l = causes l.names l.found.items l.words ≡ causes l.fn.names [] l.fn.words

abbrev pub decreases-causes : goal.decreases-causes
decreases-causes l = length l.words
