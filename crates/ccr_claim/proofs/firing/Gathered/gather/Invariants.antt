use Rattle.std.proofs.Common.{◌++◌, List, take}
use Rattle.ccr_base.specs.declared.messages.Msg.{Msg}
use Rattle.ccr_claim.specs.Firings.{IsOf}
use Rattle.ccr_claim.proofs.firing.Gathered.gather.Given as goal

abbrev pub invariant-loop-message : goal.invariant-loop-message
invariant-loop-message l = (before : List Msg) → IsOf before l.fn.self → IsOf (before ++ take l.message-index l.messages) l.self
