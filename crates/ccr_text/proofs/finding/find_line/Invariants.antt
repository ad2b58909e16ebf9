use Rattle.std.proofs.Common.{◌≡◌, ◌+◌, ◌-◌, ◌≤◌, length}
use Rattle.ccr_text.specs.Lines.{split_text, begin_from}
use Rattle.ccr_text.proofs.finding.find_line.Given as goal

-- the lines so far don't begin with the word
abbrev pub invariant-lines : goal.invariant-lines
invariant-lines l =
    (begin_from l.word (length l.text - length l.rest) l.number (split_text l.rest) ≡ begin_from l.word 0 0 (split_text l.text)) ×
    (l.number + length (split_text l.rest) ≡ length (split_text l.text)) ×
    (l.number + length l.rest ≤ length l.text)

abbrev pub decreases-lines : goal.decreases-lines
decreases-lines l = length l.rest
