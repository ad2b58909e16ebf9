use Rattle.std.proofs.Common.{◌<◌, ℕ, List, length, sym, subst}
use Rattle.std.specs.Prelude.{OnOk}
use Rattle.ccr_engine.specs.Ready.{IsLeastFirst}
use Rattle.ccr_engine.proofs.Blocking.{row_set}
use Rattle.ccr_engine.proofs.blocked.Blocked.enter.Goals as goal

pub returns-clause-least : goal.returns-clause-least
returns-clause-least c =
    let low : c.args.queue < length c.self.inside.queues.items = rw c.self.view_is c.requires.within in
    subst (λ (ns : List ℕ). OnOk c.enter.result (IsLeastFirst ns)) (sym (row_set c.self.inside.queues.items c.args.queue c.enter.new.self low)) c.enter.ensures.least
