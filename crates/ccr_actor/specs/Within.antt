-- What an actor's counts stay within, while it isn't short.
use Rattle.std.specs.Prelude.{◌≡◌, ◌<◌, ◌^◌, ℕ, [], length}
use Rattle.ccr_base.specs.Bounds.{most_empty_rounds}
use Rattle.ccr_claim.specs.Attempts.{booking}
use Rattle.ccr_actor.specs.Actors.{most_taken, State, Work, lines, round, taking, playing, posting, shedding, resting, spots_left}
use Rattle.ccr_actor.specs.Courses.{IsBounded}

-- a worker in a round has taken fewer tasks than it may, and made fewer empty rounds; a play has fewer posts than numbers
abbrev pub IsPaced : Work → ℕ → ℕ → Type 0
IsPaced (lines index sents) taken empty = Unit {0}
IsPaced round taken empty = (taken < most_taken) × (empty < most_empty_rounds)
IsPaced (taking left queue more) taken empty = (taken < most_taken) × (empty < most_empty_rounds)
IsPaced (playing task index play) taken empty = (length play.posts < 2 ^ 32) × (empty < most_empty_rounds)
IsPaced (posting task index play sent) taken empty = (length play.posts < 2 ^ 32) × (empty < most_empty_rounds)
IsPaced (shedding task) taken empty = empty < most_empty_rounds
IsPaced resting taken empty = Unit {0}

-- and a drive has had fewer firings, a run of admissions fewer admissions; an attempt is under way only at a spot that is driven
pub record IsWithin (state : State) : Type 0 where
  pub bounded : IsBounded state
  pub paced : IsPaced state.work state.taken state.empty
  pub driven : spots_left state ≡ [] → state.phase ≡ booking
