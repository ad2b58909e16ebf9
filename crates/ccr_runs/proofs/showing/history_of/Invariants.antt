use Rattle.std.proofs.Common.{◌≡◌, take}
use Rattle.ccr_runs.specs.Visible.{visible}
use Rattle.ccr_runs.proofs.showing.history_of.Given as goal

abbrev pub invariant-loop-entry : goal.invariant-loop-entry
invariant-loop-entry l = l.history ≡ visible (take l.entry-index l.entries)
