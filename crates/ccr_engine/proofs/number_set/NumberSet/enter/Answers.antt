use Rattle.std.proofs.Common.{◌≡◌, ℕ, ◌||◌, List, subst}
use Rattle.std.specs.Prelude.{◌==◌}
use Rattle.ccr_base.specs.Lists.{has_number}
use Rattle.ccr_engine.proofs.NumberSets.{entered, least_first}
use Rattle.ccr_engine.proofs.number_set.NumberSet.enter.Goals as goal

pub returns-clause-members : goal.returns-clause-members
returns-clause-members c = subst (λ (ks : List ℕ). (q : ℕ) → has_number c.insert.new.self.keys q ≡ (q == c.args.number) || has_number ks q) c.self.view_is (entered c.self.inside.numbers c.insert.new.self c.args.number c.in_ok-insert.ensures.updates)

pub returns-clause-least : goal.returns-clause-least
returns-clause-least c = least_first c.insert.new.self.keys c.in_ok-insert.ensures.ordered
