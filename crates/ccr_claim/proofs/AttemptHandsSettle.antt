-- What an attempt is left with in hand settles, whether it is given up or has fired.
use Rattle.std.proofs.Common.{List, [], ◌∷◌, ◌++◌, map, reverse, Option, Some, None, refl}
use Rattle.ccr_base.specs.declared.names.TaskId.{TaskId}
use Rattle.ccr_base.specs.declared.tasks.Cut.{Cut}
use Rattle.ccr_base.specs.declared.tasks.Task.{Task}
use Rattle.ccr_claim.specs.declared.asks.Asked.{Asked}
use Rattle.ccr_claim.specs.declared.plan.ClaimPlan.{ClaimPlan}
use Rattle.ccr_claim.specs.declared.plan.Had.{Had}
use Rattle.ccr_claim.specs.Asks.{AreSettling}
use Rattle.ccr_claim.specs.Attempts.{Phase, booking, claiming, free_ask, consume_ask, unbook_ask, cut_ask, put_asks, release, firing_hand}

frees-settle : (task : TaskId) (had : List Had) (more : List Asked) → AreSettling more → AreSettling (map (free_ask task) had ++ more)
frees-settle task [] more all = all
frees-settle task (h ∷ had) more all = (refl, frees-settle task had more all)

consumes-settle : (task : TaskId) (had : List Had) (more : List Asked) → AreSettling more → AreSettling (map (consume_ask task) had ++ more)
consumes-settle task [] more all = all
consumes-settle task (h ∷ had) more all = (refl, consumes-settle task had more all)

cuts-settle : (cuts : List Cut) (more : List Asked) → AreSettling more → AreSettling (map cut_ask cuts ++ more)
cuts-settle [] more all = all
cuts-settle (cut ∷ cuts) more all = (refl, cuts-settle cuts more all)

put-settles : (task : Option Task) → AreSettling (put_asks task)
put-settles None = tt
put-settles (Some task) = (refl, tt)

pub release_settles : (plan : ClaimPlan) (task : TaskId) (phase : Phase) → AreSettling (release plan task phase)
release_settles plan task booking = tt
release_settles plan task (claiming left had) = frees-settle task (reverse had) (unbook_ask plan.queue task ∷ []) (refl, tt)

pub firing_settles : (task : TaskId) (had : List Had) (fired : Option Task) (cuts : List Cut) → AreSettling (firing_hand task had fired cuts)
firing_settles task had fired cuts = consumes-settle task had (map cut_ask cuts ++ put_asks fired) (cuts-settle cuts (put_asks fired) (put-settles fired))
