use Rattle.std.proofs.Common.{◌≡◌, drop}
use Rattle.ccr_base.specs.Lists.{has_number}
use Rattle.ccr_wiring.specs.Repeats.{open_numbers}
use Rattle.ccr_wiring.proofs.repeats.has_open.Given as goal

-- none so far has the number
abbrev pub invariant-loop-part : goal.invariant-loop-part
invariant-loop-part l = has_number (open_numbers (drop l.part-index l.listed)) l.number ≡ has_number (open_numbers l.listed) l.number
