use Rattle.std.proofs.Common.{◌≡◌, drop}
use Rattle.std.specs.Option.{option_or}
use Rattle.indexmap.specs.IndexMap.{get}
use Rattle.ccr_model.specs.Fates.{taker}
use Rattle.ccr_service.specs.declared.tables.RequestId.{RequestId}
use Rattle.ccr_service.specs.Telling.{same_request, name_of}
use Rattle.ccr_service.proofs.tables.takers.Given as goal

-- who took a message so far, or takes it among the events still to come
abbrev pub invariant-loop-event : goal.invariant-loop-event
invariant-loop-event l = (request : RequestId) → option_or (get same_request l.table request) (taker (drop l.event-index l.events) (name_of request)) ≡ taker l.events (name_of request)
