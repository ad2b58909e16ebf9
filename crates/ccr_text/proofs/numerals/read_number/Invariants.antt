use Rattle.std.proofs.Common.{◌≡◌, drop, Some}
use Rattle.ccr_text.proofs.Digits.{read_after}
use Rattle.ccr_text.proofs.numerals.read_number.Given as goal

abbrev pub invariant-loop-byte : goal.invariant-loop-byte
invariant-loop-byte l = read_after (Some l.number) (drop l.byte-index l.word) ≡ read_after (Some 0) l.word
