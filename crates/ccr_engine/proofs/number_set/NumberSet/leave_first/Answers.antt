use Rattle.ccr_engine.proofs.NumberSets.{least_first}
use Rattle.ccr_engine.proofs.number_set.NumberSet.leave_first.Goals as goal

pub returns-clause-least : goal.returns-clause-least
returns-clause-least c = least_first c.pop_first.new.self.keys c.pop_first.ensures.ordered
