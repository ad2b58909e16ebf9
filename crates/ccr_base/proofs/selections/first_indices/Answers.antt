use Rattle.std.proofs.Common.{arith}
use Rattle.std.proofs.lemmas.Grind.{common_steps}
use Rattle.ccr_base.proofs.Indices.{take-indices_from, skip-indices_from}
use Rattle.ccr_base.proofs.selections.first_indices.Goals as goal
use Rattle.ccr_base.proofs.selections.first_indices.Goals.{then-holds+in_ok-push, else-holds}

pub loop-index-preserved : goal.loop-index-preserved
loop-index-preserved g c =
    let step = g.met.T.Seen.one_more in
    elim c.if-holds.branch [ then-holds+in_ok-push w ↦ grind (arith, common_steps, take-indices_from, step) | else-holds w ↦ grind (arith, common_steps, skip-indices_from, step) ]
