use Rattle.std.proofs.Common.{◌≡◌, ◌+◌, ◌++◌, ◌≤◌, length}
use Rattle.ccr_text.specs.Lines.{split_text, numbered, lines_of}
use Rattle.ccr_text.proofs.lines.split_lines.Given as goal

-- the lines so far and those of the rest are all
abbrev pub invariant-lines : goal.invariant-lines
invariant-lines l = (l.lines ++ numbered (l.number + 1) (split_text l.rest) ≡ lines_of l.text) × (l.number + length l.rest ≤ length l.text)

abbrev pub decreases-lines : goal.decreases-lines
decreases-lines l = length l.rest
