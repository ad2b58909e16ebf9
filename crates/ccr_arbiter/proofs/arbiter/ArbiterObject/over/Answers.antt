use Rattle.std.proofs.Common.{◌<◌, arith, IsOk}
use Rattle.std.proofs.lemmas.Grind.{common_steps}
use Rattle.indexmap.specs.IndexSet.{spare}
use Rattle.ccr_arbiter.proofs.Names.{length-lt_from_missing, may_over-parts}
use Rattle.ccr_arbiter.proofs.arbiter.ArbiterObject.over.Goals as goal

pub prove-unreachable-requires : goal.prove-unreachable-requires
prove-unreachable-requires c =
    let may = may_over-parts c.self.inside.fired.keys c.self.inside.over.keys c.args.root (rw (← c.self.view_is) at c.requires) in
    let kept = c.self.invariant in
    let fewer = length-lt_from_missing c.self.inside.over.keys c.self.inside.fired.keys c.args.root kept.distinct kept.among may.0 may.1 in
    let free : 0 < spare c.self.inside.over = omega (arith, fewer, kept.fits) in
    let noted : IsOk c.insert-noted.result = c.insert-noted.ensures.succeeds free in
    grind (arith, common_steps)
