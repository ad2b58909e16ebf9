use Rattle.ccr_claim.specs.Attempts.{attempt_after}
use Rattle.ccr_claim.specs.Settling.{steps}
use Rattle.ccr_claim.proofs.HandsAreOwed.{stands, gave_up, fired}
use Rattle.ccr_claim.proofs.laws.attempts_settle.Goals as goal

pub returns-clause-gave_up : goal.returns-clause-gave_up
returns-clause-gave_up c = λ plan task lack answers may why. gave_up plan task (steps plan task lack answers) (attempt_after plan task lack answers) why (stands plan task lack answers may)

pub returns-clause-fired : goal.returns-clause-fired
returns-clause-fired c = λ plan task lack answers may waiting dropped. fired plan task (steps plan task lack answers) (attempt_after plan task lack answers) waiting dropped (stands plan task lack answers may)
