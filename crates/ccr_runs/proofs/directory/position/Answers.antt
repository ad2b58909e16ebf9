use Rattle.std.proofs.Common.{arith, sym, ◌∙◌}
use Rattle.ccr_runs.proofs.Directories.{position_at_end, position_here}
use Rattle.ccr_runs.proofs.directory.position.Goals as goal
use Rattle.ccr_runs.proofs.directory.position.Goals.{then-loop-number-test+else-not-same_place, else-loop-number-test}

pub returns : goal.returns
returns c =
    elim c.loop-number-test.branch [
      | then-loop-number-test+else-not-same_place w ↦
          omega (arith, position_here c.args.place c.args.places.now c.loop-number.number _ (omega arith) (sym w.same_place.ensures ∙ w.if-not-same_place.false))
      | else-loop-number-test w ↦
          omega (arith, position_at_end c.args.place c.args.places.now c.loop-number.number (omega arith))
    ]
