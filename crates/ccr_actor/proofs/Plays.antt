-- The end of a play that suspends its task.
use Rattle.std.proofs.Common.{◌≡◌, List, [], None, refl}
use Rattle.ccr_handler.specs.declared.segments.Play.{Play}
use Rattle.ccr_handler.specs.declared.segments.PlayEnd.{PlayEnd}
use Rattle.ccr_handler.specs.declared.segments.PlayEnd.TheVariants as plays
use Rattle.ccr_base.specs.declared.messages.Sent.{Sent}
use Rattle.ccr_base.specs.declared.tasks.Task.{Task}
use Rattle.ccr_actor.specs.Actors.{play_ask}
use Rattle.ccr_actor.specs.Inside.{how_over, suspend_ask}

-- a play that has no post left, and doesn't end its task, suspends it
pub suspends : (task : Task) (play : Play) (posts : List Sent) (end : PlayEnd) → play.end ≡ end → posts ≡ [] → how_over end ≡ None → play_ask task play posts ≡ suspend_ask task play
suspends task play posts plays.Done at none is = cc is
suspends task play posts (plays.Failed value) at none is = cc is
suspends task play posts (plays.Yield site) at none is = rw (none, at) refl
