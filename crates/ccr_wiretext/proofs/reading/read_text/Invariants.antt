use Rattle.std.proofs.Common.{◌≡◌, ◌+◌, ◌≤◌, length}
use Rattle.ccr_text.specs.Lines.{split_text, numbered}
use Rattle.ccr_wiretext.specs.Reading.{reading_after, reading_text}
use Rattle.ccr_wiretext.proofs.reading.read_text.Given as goal

-- what is left is read from what is declared so far
abbrev pub invariant-lines : goal.invariant-lines
invariant-lines l = record {
  read : reading_after l.reader l.last (numbered (l.last + 1) (split_text l.rest)) ≡ reading_text l.text;
  few : l.last + length l.rest ≤ length l.text;
}

abbrev pub decreases-lines : goal.decreases-lines
decreases-lines l = length l.rest
