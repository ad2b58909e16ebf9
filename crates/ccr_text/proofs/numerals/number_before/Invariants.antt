use Rattle.std.proofs.Common.{◌≡◌, Some, length}
use Rattle.ccr_text.specs.Exact.{first_part}
use Rattle.ccr_text.proofs.Digits.{read_after}
use Rattle.ccr_text.proofs.Exact.{other_parts}
use Rattle.ccr_text.proofs.numerals.number_before.Given as goal

-- the digits so far, and what is left
abbrev pub invariant-digits : goal.invariant-digits
invariant-digits l = record {
  read : read_after (Some l.number) (first_part l.separator l.rest) ≡ read_after (Some 0) (first_part l.separator l.bytes);
  others : other_parts l.separator l.rest ≡ other_parts l.separator l.bytes;
}

abbrev pub decreases-digits : goal.decreases-digits
decreases-digits l = length l.rest
