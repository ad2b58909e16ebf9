use Rattle.std.proofs.Common.{◌≡◌, drop}
use Rattle.ccr_base.specs.Lists.{are_apart}
use Rattle.ccr_wiring.specs.Repeats.{open_numbers}
use Rattle.ccr_wiring.proofs.repeats.are_open_apart.Given as goal

-- none so far stands again
abbrev pub invariant-loop-index : goal.invariant-loop-index
invariant-loop-index l = are_apart (open_numbers (drop l.index l.listed)) ≡ are_apart (open_numbers l.listed)
