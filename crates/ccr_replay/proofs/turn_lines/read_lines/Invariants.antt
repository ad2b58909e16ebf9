use Rattle.std.proofs.Common.{◌≡◌, ◌+◌, ◌≤◌, length}
use Rattle.ccr_text.specs.Lines.{split_text, numbered}
use Rattle.ccr_replay.specs.Turns.{onto, reading_turns, turns_on}
use Rattle.ccr_replay.proofs.turn_lines.read_lines.Given as goal

-- the turns so far and those of the rest are all
abbrev pub invariant-lines : goal.invariant-lines
invariant-lines l = (onto l.turns (turns_on l.actors (numbered (l.number + 1) (split_text l.rest))) ≡ reading_turns l.text l.lines_before l.actors)
    × (l.number + length l.rest ≤ l.lines_before + length l.text)

abbrev pub decreases-lines : goal.decreases-lines
decreases-lines l = length l.rest
