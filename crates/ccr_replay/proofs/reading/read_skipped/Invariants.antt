use Rattle.std.proofs.Common.{◌≡◌, ◌+◌, ◌≤◌, length}
use Rattle.ccr_text.specs.Lines.{split_text, numbered}
use Rattle.ccr_replay.specs.Reading.{skipped_lines}
use Rattle.ccr_replay.proofs.reading.read_skipped.Given as goal

-- the lines that are left are skipped where all are
abbrev pub invariant-lines : goal.invariant-lines
invariant-lines l = (skipped_lines (numbered (l.number + 1) (split_text l.rest)) ≡ skipped_lines (numbered (l.before + 1) (split_text l.text)))
    × (l.number + length l.rest ≤ l.before + length l.text)

abbrev pub decreases-lines : goal.decreases-lines
decreases-lines l = length l.rest
