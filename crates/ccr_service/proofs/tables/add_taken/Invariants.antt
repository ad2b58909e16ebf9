use Rattle.std.proofs.Common.{drop}
use Rattle.indexmap.specs.IndexMap.{get}
use Rattle.ccr_service.specs.Telling.{same_request, AreTakenBefore}
use Rattle.ccr_service.proofs.tables.add_taken.Given as goal

-- what is told now, and by the names still to come, is what is told in the end
abbrev pub invariant-loop-name : goal.invariant-loop-name
invariant-loop-name l = AreTakenBefore (drop l.name-index l.names) l.names l.task (get same_request l.fn.table) (get same_request l.table)
