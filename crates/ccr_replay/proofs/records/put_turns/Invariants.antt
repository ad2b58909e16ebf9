use Rattle.std.proofs.Common.{◌≡◌, ◌++◌, map, take}
use Rattle.ccr_text.specs.Spelling.{text_of}
use Rattle.ccr_replay.specs.Records.{turn_words}
use Rattle.ccr_replay.proofs.records.put_turns.Given as goal

abbrev pub invariant-loop-turn : goal.invariant-loop-turn
invariant-loop-turn l = l.out ≡ l.fn.out ++ text_of (map turn_words (take l.turn-index l.turns))
