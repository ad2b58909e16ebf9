use Rattle.std.proofs.Common.{◌≡◌, length}
use Rattle.ccr_runs.specs.Directories.{AreNumbers}
use Rattle.ccr_runs.proofs.directory.numbers_of.Given as goal

-- the numbers so far
abbrev pub invariant-loop-number : goal.invariant-loop-number
invariant-loop-number l = (length l.numbers.items ≡ l.number) × AreNumbers l.places l.sort l.numbers.items
