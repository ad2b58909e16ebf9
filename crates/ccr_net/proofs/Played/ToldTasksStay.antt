-- What a history tells of tasks that fired stays, and so do the lists of whole tasks that objects keep.
use Rattle.std.proofs.Common.{◌≡◌, true, List, [], ◌∷◌, ◌++◌, length, map, inl, inr, refl, ap, ◌∙◌}
use Rattle.ccr_base.specs.declared.names.TaskId.{TaskId}
use Rattle.ccr_base.specs.declared.names.Spot.{Spot}
use Rattle.ccr_base.specs.Names.{same_spot, has_task}
use Rattle.ccr_wiring.specs.declared.parts.Parts.{Parts}
use Rattle.ccr_model.specs.declared.history.Event.{Event}
use Rattle.ccr_wiring.specs.Wirings.{next_site}
use Rattle.ccr_model.specs.Firings.{Firing, firing_named, fired_at, spot_of, yielded}
use Rattle.ccr_model.specs.Sites.{suspended, yields_at, yielded_at}
use Rattle.ccr_base.proofs.Options.{some_of, some_map}
use Rattle.ccr_model.proofs.TaskLists.{has_task-drop}
use Rattle.ccr_model.proofs.TasksLeft.{of_filter}
use Rattle.ccr_model.proofs.FiredTasks.{IsFired}
use Rattle.ccr_model.proofs.Members.{Among}
use Rattle.ccr_model.proofs.Stable.{play_of-append}
use Rattle.ccr_runs.specs.Views.{view, suspended_view}
use Rattle.ccr_net.proofs.Parts.WorkMatches.{view-stays}
pub use Rattle.std.proofs.lemmas.List.{map-append as map_behind}

-- ---- lists

pub map_on : {X Y : Type 0} (f g : X → Y) (xs : List X) → ((x : X) → Among x xs → f x ≡ g x) → map f xs ≡ map g xs
map_on f g [] same = refl
map_on f g (x ∷ xs) same = ap (λ y. y ∷ map f xs) (same x (inl refl)) ∙ ap (λ ys. g x ∷ ys) (map_on f g xs (λ y is. same y (inr is)))

-- ---- tasks that fired

pub suspended_view-stays : (w : Parts) (h more : List Event) (t : TaskId) → IsFired h t → suspended_view w (h ++ more) t ≡ suspended_view w h t
suspended_view-stays w h more t fires = λ j. record (view-stays w h more t fires j) { causes = (play_of-append w h more t fires.0 fires.1 j).causes }

-- lists of them, by anything that names them
pub views-stay : {X : Type 0} (name : X → TaskId) (w : Parts) (h more : List Event) (xs : List X) → ((x : X) → Among x xs → IsFired h (name x)) → map (λ x. view w (h ++ more) (name x)) xs ≡ map (λ x. view w h (name x)) xs
views-stay name w h more xs fires = map_on (λ x. view w (h ++ more) (name x)) (λ x. view w h (name x)) xs (λ x is. view-stays w h more (name x) (fires x is))

pub suspended_views-stay : (w : Parts) (h more : List Event) (ts : List TaskId) → ((t : TaskId) → Among t ts → IsFired h t) → map (suspended_view w (h ++ more)) ts ≡ map (suspended_view w h) ts
suspended_views-stay w h more ts fires = map_on (suspended_view w (h ++ more)) (suspended_view w h) ts (λ t is. suspended_view-stays w h more t (fires t is))

-- who is suspended has fired
pub suspended_fired : (h : List Event) (site : Spot) (t : TaskId) → has_task (suspended h site) t ≡ true → IsFired h t
suspended_fired h site t is =
    let yields = of_filter (yields_at h site) (yielded h) t (has_task-drop (length (fired_at h site)) (yielded_at h site) t is) in
    let at = some_of (λ spot. same_spot (next_site spot) site) (spot_of h t) yields.1 in
    some_map (λ (f : Firing). f.spot) (firing_named h t) at.0 at.1
