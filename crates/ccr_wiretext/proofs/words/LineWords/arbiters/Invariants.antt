use Rattle.std.proofs.Common.{◌≡◌, ◌++◌, map, take}
use Rattle.ccr_wiring.specs.PartNames.{arbiter_name}
use Rattle.ccr_wiretext.proofs.words.LineWords.arbiters.Given as goal

abbrev pub invariant-loop-arbiter : goal.invariant-loop-arbiter
invariant-loop-arbiter l = l.self ≡ l.fn.self ++ map (arbiter_name l.parts) (take l.arbiter-index l.arbiters)
