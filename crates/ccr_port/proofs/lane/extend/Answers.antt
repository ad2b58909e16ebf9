use Rattle.std.proofs.Common.{◌∙◌, arith}
use Rattle.ccr_port.proofs.LaneLinks.{behind-pushed, before-pushed}
use Rattle.ccr_port.proofs.lane.extend.Goals as goal

pub loop-links-preserved : goal.loop-links-preserved
loop-links-preserved c = rw c.in_ok-push.ensures.items (record {
  behind = λ f q. behind-pushed c.loop-links.links.items f q ∙ c.loop-links.invariant.behind f q;
  before = λ l q. before-pushed c.loop-links.links.items l q ∙ c.loop-links.invariant.before l q;
  grown = grind arith;
})
