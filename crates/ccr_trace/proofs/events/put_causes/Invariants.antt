use Rattle.std.proofs.Common.{◌≡◌, ◌++◌, map, take}
use Rattle.ccr_trace.specs.Words.{name_at, cause_names}
use Rattle.ccr_trace.specs.HistoryText.{behind}
use Rattle.ccr_trace.proofs.events.put_causes.Given as goal

abbrev pub invariant-loop-cause : goal.invariant-loop-cause
invariant-loop-cause l = l.out ≡ l.fn.out ++ behind (map (name_at (cause_names l.parts)) (take l.cause-index l.causes))
