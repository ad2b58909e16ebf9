use Rattle.std.proofs.Common.{◌≡◌, length}
use Rattle.ccr_runs.specs.Directories.{AreRows}
use Rattle.ccr_runs.proofs.directory.rows_of.Given as goal

-- the rows so far
abbrev pub invariant-loop-branch : goal.invariant-loop-branch
invariant-loop-branch l = (length l.rows.items ≡ l.branch) × AreRows l.places l.rows.items
