use Rattle.std.proofs.Common.{◌≡◌, ◌≢◌, ℕ, []}
use Rattle.ccr_actor.specs.Following.{Follows}
use Rattle.ccr_dispatch.specs.ToRest.{Adds}
use Rattle.ccr_dispatch.specs.Ranks.{steps_left}
use Rattle.ccr_dispatch.proofs.to_rest.drive.Given as goal

abbrev pub invariant-steps : goal.invariant-steps
invariant-steps g l =
    Follows (g.N.Net.wiring l.net) l.actor.actor (g.N.Net.steps l.net l.actor.actor) l.actor
    × (g.N.Net.wiring l.net ≡ g.N.Net.wiring l.fn.net) × (l.actor.actor ≡ l.fn.actor.actor)
    × Adds (g.N.Net.steps l.fn.net l.fn.actor.actor) (g.N.Net.steps l.net l.fn.actor.actor) l.steps
    × ((other : ℕ) → other ≢ l.fn.actor.actor → g.N.Net.steps l.net other ≡ g.N.Net.steps l.fn.net other)
    × (l.actor.state.hand ≡ [])

abbrev pub decreases-steps : goal.decreases-steps
decreases-steps g l = steps_left l.actor
