-- What is left to do after a history, and when nothing is.
use Rattle.std.specs.Prelude.{ℕ, ◌+◌, Bool, false, not, ◌&&◌, ◌||◌, nat_lt, List, [], ◌∷◌, length}
use Rattle.std.specs.List.{slice_get, list_any}
use Rattle.std.specs.Option.{option_map_or}
use Rattle.ccr_base.specs.declared.names.TaskId.{TaskId}
use Rattle.ccr_wiring.specs.declared.parts.Parts.{Parts}
use Rattle.ccr_wiring.specs.declared.parts.PosterPart.{PosterPart}
use Rattle.ccr_wiring.specs.declared.parts.ArbiterPart.{ArbiterPart}
use Rattle.ccr_wiring.specs.declared.parts.QueuePart.{QueuePart}
use Rattle.ccr_wiring.specs.Wirings.{spots}
use Rattle.ccr_model.specs.declared.history.Event.{Event}
use Rattle.ccr_model.specs.Posts.{posts_of_poster}
use Rattle.ccr_model.specs.Firings.{fired}
use Rattle.ccr_model.specs.Tasks.{waiting, queued, running}
use Rattle.ccr_model.specs.Live.{is_none_of}
use Rattle.ccr_model.specs.Enough.{can_fire}
use Rattle.ccr_model.specs.Rules.{may_admit, may_put}

-- whether one of the posters, of which the first has this number, has a line of its script left
abbrev pub has_line_left : List Event → ℕ → List PosterPart → Bool
has_line_left history number [] = false
has_line_left history number (poster ∷ posters) = nat_lt (posts_of_poster history number) (length poster.posts) || has_line_left history (number + 1) posters

-- whether the oldest of the waiting tasks may enter
abbrev pub can_admit : Parts → List Event → List TaskId → Bool
can_admit wiring history tasks = option_map_or (may_admit wiring history) (slice_get tasks 0) false

-- whether one of the domains, by the numbers of the arbiters, of which the first has this one, can admit a task
abbrev pub has_admission : Parts → List Event → ℕ → List ArbiterPart → Bool
has_admission wiring history number [] = false
has_admission wiring history number (arbiter ∷ arbiters) = can_admit wiring history (waiting wiring history number) || has_admission wiring history (number + 1) arbiters

-- whether one of the queues, of which the first has this number, has a queued task
abbrev pub has_queued : Parts → List Event → ℕ → List QueuePart → Bool
has_queued wiring history number [] = false
has_queued wiring history number (queue ∷ queues) = not (is_none_of (queued wiring history number)) || has_queued wiring history (number + 1) queues

-- whether nothing is left: no poster has a line left, no spot can fire, no domain can admit, no task may be put, none runs, and none is queued
unfoldable pub is_still : Parts → List Event → Bool
is_still wiring history =
    not (has_line_left history 0 wiring.posters)
    && not (list_any (can_fire wiring history) (spots wiring))
    && not (has_admission wiring history 0 wiring.arbiters)
    && not (list_any (may_put wiring history) (fired history))
    && is_none_of (running history)
    && not (has_queued wiring history 0 wiring.queues)
