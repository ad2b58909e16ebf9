use Rattle.std.proofs.Common.{◌≡◌, ◌+◌, ◌≤◌, ◌==◌, take, filter, length}
use Rattle.ccr_replay.proofs.reading.line_at.Given as goal

abbrev pub invariant-loop-byte : goal.invariant-loop-byte
invariant-loop-byte l = record { count : l.line ≡ length (filter (λ b. b == 10) (take l.byte-index (take l.index l.text))) + 1; bound : l.line ≤ l.byte-index + 1 }
