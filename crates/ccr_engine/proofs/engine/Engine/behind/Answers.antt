use Rattle.ccr_engine.proofs.Reading.{IsRead-behind}
use Rattle.ccr_engine.proofs.Runs.{IsSound-attempts}
use Rattle.ccr_engine.proofs.engine.Engine.behind.Goals as goal

pub desk_of-requires-clause-legal : goal.desk_of-requires-clause-legal
desk_of-requires-clause-legal c = rw c.in_ok-indices.ensures c.requires.legal

pub desk_of-requires-clause-attempts : goal.desk_of-requires-clause-attempts
desk_of-requires-clause-attempts c = IsSound-attempts _ c.requires

pub invariant_of-result : goal.invariant_of-result
invariant_of-result c = IsRead-behind c.args.wiring.now c.in_ok-indices.indices c.args.closer c.args.events.now _ c.in_ok-desk.desk c.requires c.in_ok-indices.ensures c.in_ok-told.ensures c.in_ok-desk.ensures
