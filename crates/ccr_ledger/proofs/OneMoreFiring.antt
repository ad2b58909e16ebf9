-- One more firing among those that pass a test.
use Rattle.std.proofs.Common.{◌≡◌, Bool, true, false, List, [], ◌∷◌, ◌++◌, map, refl, ap, ◌∙◌}
use Rattle.std.specs.Prelude.{if◌then◌else◌}
use Rattle.ccr_base.specs.declared.names.TaskId.{TaskId}
use Rattle.ccr_base.specs.declared.names.MsgId.{MsgId}
use Rattle.ccr_base.specs.declared.names.Spot.{Spot}
use Rattle.ccr_model.specs.declared.history.Event.{Event}
use Rattle.ccr_model.specs.declared.history.Event.TheVariants.{Fire}
use Rattle.ccr_model.specs.Firings.{Firing, fired_where}
use Rattle.ccr_model.proofs.Cutting.{fired_where-append}

-- one more firing, if it passes
pub fired_where-fire : (test : Firing → Bool) (h : List Event) (t : TaskId) (s : Spot) (ms : List MsgId) (cs : List TaskId) → fired_where test (h ++ Fire t s ms cs ∷ []) ≡ fired_where test h ++ (if test (record { task = t; spot = s; messages = ms; cuts = cs }) then t ∷ [] else [])
fired_where-fire test h t s ms cs = fired_where-append test h (Fire t s ms cs ∷ []) ∙ ap (λ ts. fired_where test h ++ ts) (of_test (test (record { task = t; spot = s; messages = ms; cuts = cs })))
  where
    of_test : (b : Bool) → map (λ (g : Firing). g.task) (if b then (record { task = t; spot = s; messages = ms; cuts = cs }) ∷ [] else []) ≡ (if b then t ∷ [] else [])
    of_test true = refl
    of_test false = refl
