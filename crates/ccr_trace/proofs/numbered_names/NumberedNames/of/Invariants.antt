use Rattle.std.proofs.Common.{◌≡◌, take}
use Rattle.ccr_trace.proofs.Numbered.{seen}
use Rattle.ccr_trace.proofs.numbered_names.NumberedNames.of.Given as goal

abbrev pub invariant-loop-name : goal.invariant-loop-name
invariant-loop-name l = l.numbers ≡ seen (take l.name-index l.names)
