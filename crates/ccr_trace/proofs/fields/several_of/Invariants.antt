use Rattle.std.proofs.Common.{◌≡◌, ◌≤◌, take, length}
use Rattle.ccr_trace.specs.Pieces.{pieces}
use Rattle.ccr_trace.specs.Fields.{each, exact_number}
use Rattle.ccr_trace.proofs.Each.{behind_found}
use Rattle.ccr_trace.proofs.fields.several_of.Given as goal

-- the numbers so far and those of the pieces that are left
abbrev pub invariant-parts : goal.invariant-parts
invariant-parts l = record {
  read : behind_found (take l.count l.numbers) (each exact_number l.parts) ≡ each exact_number (pieces 44 l.word);
  few : l.count ≤ 8;
  room : length l.numbers ≡ 8;
}

abbrev pub decreases-parts : goal.decreases-parts
decreases-parts l = length l.parts
