use Rattle.std.proofs.Common.{◌∷◌, ℕ}
use Rattle.std.specs.Prelude.{flat_map, decimal}
use Rattle.ccr_wiretext.specs.Values.{IsNumeral}
use Rattle.ccr_wiretext.proofs.PartsPut.{ArePut}
use Rattle.ccr_wiretext.proofs.words.put_further.Given as goal

-- the numbers so far are written
abbrev pub invariant-loop-number : goal.invariant-loop-number
invariant-loop-number l = ArePut (flat_map (λ (number : ℕ). 44 ∷ decimal number)) IsNumeral l.numbers l.number-index l.fn.out.items l.out.items
