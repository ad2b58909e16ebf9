use Rattle.std.proofs.Common.{map}
use Rattle.ccr_wiretext.specs.Spelling.{branch_words}
use Rattle.ccr_wiretext.specs.Values.{IsPatternValued}
use Rattle.ccr_wiretext.proofs.PartsPut.{AreLinesPut}
use Rattle.ccr_wiretext.proofs.writing.put_branches.Given as goal

-- the branches so far are written
abbrev pub invariant-loop-branch : goal.invariant-loop-branch
invariant-loop-branch l = AreLinesPut (map (branch_words l.parts)) (λ branch. IsPatternValued branch.pattern) l.branches l.branch-index l.fn.out.items l.out.items
