use Rattle.std.proofs.Common.{◌∙◌}
use Rattle.ccr_space.proofs.Histories.{one_added}
use Rattle.ccr_space.proofs.space.showing.history_of.Goals as goal

pub acts-preserved : goal.acts-preserved
acts-preserved c =
    one_added c.acts.history c.add.new.history c.acts.left c.next.new.self c.in-Some.act c.in_ok-add.ensures c.in-Some.ensures.first c.in-Some.ensures.rest ∙ c.acts.invariant
