use Rattle.std.proofs.Common.{◌≡◌, ℕ, not, ◌&&◌, List, subst}
use Rattle.std.specs.Prelude.{◌==◌}
use Rattle.ccr_base.specs.Lists.{has_number}
use Rattle.ccr_engine.proofs.NumberSets.{left, least_first}
use Rattle.ccr_engine.proofs.number_set.NumberSet.leave.Goals as goal

pub returns-clause-members : goal.returns-clause-members
returns-clause-members c = subst (λ (ks : List ℕ). (q : ℕ) → has_number c.remove.new.self.keys q ≡ not (q == c.args.number) && has_number ks q) c.self.view_is (left c.self.inside.numbers c.remove.new.self c.args.number c.remove.ensures.updates)

pub returns-clause-least : goal.returns-clause-least
returns-clause-least c = least_first c.remove.new.self.keys c.remove.ensures.ordered
