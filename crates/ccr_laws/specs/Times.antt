-- How often branches fire.
use Rattle.std.specs.Prelude.{ℕ, ◌==◌, ◌&&◌, List, length}
use Rattle.ccr_base.specs.declared.names.Spot.TheVariants.{Branch}
use Rattle.ccr_wiring.specs.declared.parts.Parts.{Parts}
use Rattle.ccr_model.specs.declared.history.Event.{Event}
use Rattle.ccr_wiring.specs.Wirings.{Placement}
use Rattle.ccr_model.specs.Firings.{fired_at}
use Rattle.ccr_model.specs.Tasks.{fired_by, is_teardown}

-- how often this branch fired
abbrev pub times_fired : List Event → ℕ → ℕ
times_fired history branch = length (fired_at history (Branch branch))

-- how often the branches of the domain fired, all together; a choice is its own domain
abbrev pub times_any_fired : Parts → List Event → ℕ → ℕ
times_any_fired wiring history domain = length (fired_by wiring (λ (s : Placement). s.domain == domain) history)

-- how often its teardown branches fired, all together
abbrev pub times_torn_down : Parts → List Event → ℕ → ℕ
times_torn_down wiring history domain = length (fired_by wiring (λ (s : Placement). (s.domain == domain) && is_teardown s.branch.group) history)
