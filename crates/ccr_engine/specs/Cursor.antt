-- Which spots, posters, domains and queues are to be asked.
use Rattle.std.specs.Prelude.{◌≡◌, ℕ, ◌+◌, ◌&&◌, Bool, true, false, nat_le, List, [], ◌∷◌, length, Option, option_map}
use Rattle.ccr_base.specs.declared.names.Spot.{Spot}
use Rattle.ccr_wiring.specs.declared.parts.Parts.{Parts}
use Rattle.ccr_wiring.specs.declared.parts.PosterPart.{PosterPart}
use Rattle.ccr_wiring.specs.Wirings.{spots}
use Rattle.std.specs.List.{slice_get}
use Rattle.ccr_base.specs.Lists.{has_number}
use Rattle.ccr_model.specs.declared.history.Event.{Event}
use Rattle.ccr_model.specs.declared.history.Event.TheVariants.{Start}
use Rattle.ccr_model.specs.Enough.{can_take}
use Rattle.ccr_model.specs.Live.{is_live}
use Rattle.ccr_model.specs.Order.{admit_first}
use Rattle.ccr_model.specs.Posts.{posts_of_poster}
use Rattle.ccr_model.specs.Tasks.{waiting, queued}
use Rattle.ccr_engine.specs.Numbered.{passes_at}
use Rattle.ccr_engine.specs.Blocked.{is_blocked}

-- whether the spot can fire, room aside
abbrev pub could_fire : Parts → List Event → Spot → Bool
could_fire wiring history spot = is_live wiring history spot && can_take wiring history spot

-- no spot can fire, room aside, but those at the touched indices and those at the blocked ones
abbrev pub IsStill : Parts → List Event → List ℕ → List (List ℕ) → Type 0
IsStill wiring history touched blocked = (index : ℕ) → has_number touched index ≡ false → is_blocked blocked index ≡ false → passes_at (could_fire wiring history) (spots wiring) index ≡ false

-- of the posters, of which the first has this number, none has a line left
abbrev pub are_done : List Event → ℕ → List PosterPart → Bool
are_done history number [] = true
are_done history number (poster ∷ posters) = nat_le (length poster.posts) (posts_of_poster history number) && are_done history (number + 1) posters

-- the admission of the domain's oldest waiting task, where it may enter
abbrev pub admission : Parts → List Event → ℕ → Option Event
admission wiring history domain = admit_first wiring history (waiting wiring history domain)

-- the start of the queue's oldest task, by the closer
abbrev pub start_at : Parts → ℕ → List Event → ℕ → Option Event
start_at wiring closer history queue = option_map (λ task. Start task closer) (slice_get (queued wiring history queue) 0)
