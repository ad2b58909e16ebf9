use Rattle.std.proofs.Common.{length, ap, arith}
use Rattle.ccr_engine.proofs.SpotIndices.{site_stands, site_fits, no_such_site, no_such_branch}
use Rattle.ccr_engine.proofs.indices.SpotIndices.of_site.Goals as goal

pub returns-in_default : goal.returns-in_default
returns-in_default c = rw (← c.self.view_is) (no_such_site c.self.inside.wiring.now c.args.branch c.args.site (grind arith))

pub overflow_add-result : goal.overflow_add-result
overflow_add-result c =
    let low = site_fits c.self.inside.wiring.now c.args.branch c.args.site c.in-Some._port c.in-Some-of_branch.index (grind arith) (grind arith) in
    let same = ap length c.spots-spots.ensures.spots in
    grind (arith, low, same)

pub overflow_add-result-in-Some-of_branch : goal.overflow_add-result-in-Some-of_branch
overflow_add-result-in-Some-of_branch c =
    let low = site_fits c.self.inside.wiring.now c.args.branch c.args.site c.in-Some._port c.in-Some-of_branch.index (grind arith) (grind arith) in
    let same = ap length c.spots-spots.ensures.spots in
    grind (arith, low, same)

pub returns-in-Some-of_branch : goal.returns-in-Some-of_branch
returns-in-Some-of_branch c = rw (← c.self.view_is) (site_stands c.self.inside.wiring.now c.args.branch c.args.site c.in-Some._port c.in-Some-of_branch.index (grind arith) (grind arith))

pub returns-in-None : goal.returns-in-None
returns-in-None c = rw (← c.self.view_is) (no_such_branch c.self.inside.wiring.now c.args.branch c.args.site (grind arith))
