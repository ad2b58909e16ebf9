use Rattle.std.proofs.Common.{◌≡◌, ◌++◌, length}
use Rattle.ccr_space.specs.Shows.{acts_shown}
use Rattle.ccr_space.proofs.space.showing.history_of.Given as goal

abbrev pub invariant-acts : goal.invariant-acts
invariant-acts l = l.history ++ acts_shown l.left ≡ acts_shown l.fn.acts

abbrev pub decreases-acts : goal.decreases-acts
decreases-acts l = length l.left
