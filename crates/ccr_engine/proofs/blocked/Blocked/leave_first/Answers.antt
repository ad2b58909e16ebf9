use Rattle.std.proofs.Common.{◌<◌, length, sym, subst}
use Rattle.ccr_engine.specs.Ready.{IsLeastFirst}
use Rattle.ccr_engine.proofs.Blocking.{row_set}
use Rattle.ccr_engine.proofs.blocked.Blocked.leave_first.Goals as goal

pub returns-clause-least : goal.returns-clause-least
returns-clause-least c =
    let low : c.args.queue < length c.self.inside.queues.items = rw c.self.view_is c.requires.within in
    subst IsLeastFirst (sym (row_set c.self.inside.queues.items c.args.queue c.leave_first.new.self low)) c.leave_first.ensures.least
