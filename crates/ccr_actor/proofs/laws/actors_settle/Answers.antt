use Rattle.ccr_actor.proofs.HandsSettle.{all_settle, short_settles}
use Rattle.ccr_actor.proofs.laws.actors_settle.Goals as goal

pub returns-clause-hand : goal.returns-clause-hand
returns-clause-hand c = all_settle

pub returns-clause-short : goal.returns-clause-short
returns-clause-short c = short_settles
