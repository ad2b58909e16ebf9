use Rattle.std.proofs.Common.{◌≡◌, ◌≢◌, ◌≤◌, ℕ}
use Rattle.ccr_actor.specs.Following.{Follows}
use Rattle.ccr_dispatch.specs.ToRest.{Adds}
use Rattle.ccr_dispatch.specs.Ranks.{owed_by, steps_left}
use Rattle.ccr_dispatch.proofs.to_rest.settle.Given as goal

abbrev pub invariant-asks : goal.invariant-asks
invariant-asks g l =
    Follows (g.N.Net.wiring l.net) l.actor.actor (g.N.Net.steps l.net l.actor.actor) l.actor
    × (g.N.Net.wiring l.net ≡ g.N.Net.wiring l.fn.net) × (l.actor.actor ≡ l.fn.actor.actor)
    × Adds (g.N.Net.steps l.fn.net l.fn.actor.actor) (g.N.Net.steps l.net l.fn.actor.actor) l.steps
    × ((other : ℕ) → other ≢ l.fn.actor.actor → g.N.Net.steps l.net other ≡ g.N.Net.steps l.fn.net other)
    × (steps_left l.actor ≤ steps_left l.fn.actor)

abbrev pub decreases-asks : goal.decreases-asks
decreases-asks g l = owed_by l.actor
