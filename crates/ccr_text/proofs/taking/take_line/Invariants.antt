use Rattle.std.proofs.Common.{map, length}
use Rattle.ccr_text.proofs.FirstLine.{IsTaken}
use Rattle.ccr_text.proofs.taking.take_line.Given as goal

-- the words so far and those of the rest of the line
abbrev pub invariant-runs : goal.invariant-runs
invariant-runs l = IsTaken (map (λ word. word.now) l.words.items) l.clean l.rest l.text

abbrev pub decreases-runs : goal.decreases-runs
decreases-runs l = length l.rest
