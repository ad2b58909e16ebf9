use Rattle.ccr_claim.specs.Attempts.{attempt_after}
use Rattle.ccr_claim.specs.Settling.{steps}
use Rattle.ccr_claim.proofs.HandsAreOwed.{stands, stops}
use Rattle.ccr_claim.proofs.laws.attempts_stop.Goals as goal

pub returns : goal.returns
returns c = λ plan task lack answers may. stops plan task (steps plan task lack answers) (attempt_after plan task lack answers) (stands plan task lack answers may)
