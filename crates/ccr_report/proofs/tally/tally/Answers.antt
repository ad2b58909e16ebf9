use Rattle.std.proofs.Common.{arith, take}
use Rattle.std.specs.Prelude.{◌==◌}
use Rattle.std.proofs.lemmas.Grind.{common_steps}
use Rattle.std.proofs.lemmas.List.Sums.{count_by-le-length}
use Rattle.ccr_report.proofs.tally.tally.Goals as goal

pub count_one-requires : goal.count_one-requires
count_one-requires c = λ k l. grind (arith, common_steps, c.loop-number.invariant.counts k, count_by-le-length (λ other. other == k) (take c.loop-number.number-index c.args.numbers.now))
