-- A branch that is live after an event was so before.
use Rattle.std.proofs.Common.{◌≡◌, ℕ, true, List, [], ◌∷◌, ◌++◌, refl}
use Rattle.std.specs.Prelude.{Bool}
use Rattle.ccr_base.specs.declared.policies.Group.{Group}
use Rattle.ccr_base.specs.declared.policies.Group.TheVariants as groups
use Rattle.ccr_wiring.specs.declared.parts.Parts.{Parts}
use Rattle.ccr_model.specs.declared.history.Event.{Event}
use Rattle.ccr_model.specs.Firings.{Firing, fired_where}
use Rattle.ccr_model.specs.Live.{is_none_of, is_live_in}
use Rattle.ccr_model.proofs.Cutting.{fired_where-append}
use Rattle.ccr_model.proofs.TaskLists.{none_before}

none_fired_before : (test : Firing → Bool) (h : List Event) (e : Event) → is_none_of (fired_where test (h ++ e ∷ [])) ≡ true → is_none_of (fired_where test h) ≡ true
none_fired_before test h e is = none_before (fired_where test h) (fired_where test (e ∷ [])) (rw (fired_where-append test h (e ∷ [])) at is)

-- a branch that is live was live before
pub live_before : (w : Parts) (h : List Event) (e : Event) (n a : ℕ) (g : Group) → is_live_in w (h ++ e ∷ []) n a g ≡ true → is_live_in w h n a g ≡ true
live_before w h e n a groups.Always is = refl
live_before w h e n a groups.Once is = none_fired_before _ h e is
live_before w h e n a groups.Choice is = none_fired_before _ h e is
live_before w h e n a groups.Concurrent is = none_fired_before _ h e is
live_before w h e n a groups.Exclusive is = none_fired_before _ h e is
live_before w h e n a groups.Teardown is = none_fired_before _ h e is
