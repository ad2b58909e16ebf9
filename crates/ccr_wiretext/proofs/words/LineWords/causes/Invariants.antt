use Rattle.std.proofs.Common.{◌≡◌, ◌++◌, map, take}
use Rattle.ccr_wiring.specs.PartNames.{cause_name}
use Rattle.ccr_wiretext.proofs.words.LineWords.causes.Given as goal

abbrev pub invariant-loop-cause : goal.invariant-loop-cause
invariant-loop-cause l = l.self ≡ l.fn.self ++ map (cause_name l.parts) (take l.cause-index l.causes)
