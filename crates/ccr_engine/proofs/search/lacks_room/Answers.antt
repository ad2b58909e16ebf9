use Rattle.std.proofs.Common.{◌∙◌, sym}
use Rattle.ccr_engine.proofs.Blocking.{entered_blocked, blocks_entered}
use Rattle.ccr_engine.proofs.search.lacks_room.Goals as goal

pub returns-in_ok-enter-clause-entered : goal.returns-in_ok-enter-clause-entered
returns-in_ok-enter-clause-entered c = λ is. entered_blocked c.args.blocked.now c.enter.new.self c.in-Some.queue c.in_ok-enter.ensures.others c.args.index c.in_ok-enter.ensures.members

pub returns-in_ok-enter-clause-blocks : goal.returns-in_ok-enter-clause-blocks
returns-in_ok-enter-clause-blocks c = blocks_entered c.args.blocked.now c.enter.new.self c.in-Some.queue c.in_ok-enter.ensures.others c.args.index c.in_ok-enter.ensures.members c.args.wiring.now c.args.ledger.now c.args.spot c.requires.blocked c.requires.at (sym c.branch_queue.ensures ∙ c.in-Some.is) (sym c.room.ensures ∙ c.if-room.false) c.in_ok-enter.ensures.least
