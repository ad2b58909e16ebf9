-- A task of an open handler plays nothing, and keeps the causes that it started with.
use Rattle.std.proofs.Common.{◌≡◌, ℕ, zero, suc, Bool, true, false, ◌||◌, List, [], ◌∷◌, Option, Some, None, refl, sym, ap, subst, ◌∙◌}
use Rattle.std.specs.Prelude.{option_and_then, option_map, if◌then◌else◌}
use Rattle.std.specs.List.{list_any, slice_get}
use Rattle.std.specs.Option.{option_map_or}
use Rattle.ccr_base.specs.declared.names.TaskId.{TaskId}
use Rattle.ccr_base.specs.declared.names.Spot.{Spot}
use Rattle.ccr_base.specs.declared.handlers.Action.{Action}
use Rattle.ccr_base.specs.declared.handlers.Action.TheVariants.{Post, Fail, Add, Remove, Await}
use Rattle.ccr_base.proofs.Booleans.{neither}
use Rattle.ccr_base.proofs.Options.{some_then}
use Rattle.ccr_handler.specs.declared.segments.Play.{Play}
use Rattle.ccr_handler.specs.Playing.{after_await, actions_from, play}
use Rattle.ccr_wiring.specs.declared.parts.Parts.{Parts}
use Rattle.ccr_wiring.specs.Groups.{is_no_await}
use Rattle.ccr_wiring.specs.Openness.{open_handler}
use Rattle.ccr_wiring.specs.Valid.{IsValid}
use Rattle.ccr_wiring.specs.Wirings.{Placement, placement, actions_of, actions_at, exception_port, branch_of, segment_of}
use Rattle.ccr_wiring.proofs.Soundness.{sound}
use Rattle.ccr_model.specs.declared.history.Event.{Event}
use Rattle.ccr_model.specs.Firings.{Firing, firing_named, spot_of}
use Rattle.ccr_model.specs.Rules.{open_ports}
use Rattle.ccr_model.specs.TaskData.{Load, load_of, load_at, placement_of, play_at, play_of, no_load, no_play}

await_left : (action : Action) (actions : List Action) → list_any is_no_await (action ∷ actions) ≡ false → list_any is_no_await actions ≡ false
await_left action actions awaits = (neither (is_no_await action) (list_any is_no_await actions) awaits).1

behind_awaits : (actions : List Action) → list_any is_no_await actions ≡ false → list_any is_no_await (after_await actions) ≡ false
behind_awaits [] awaits = refl
behind_awaits (Await port ∷ actions) awaits = await_left (Await port) actions awaits
behind_awaits (Post port expr ∷ actions) awaits = behind_awaits actions (await_left (Post port expr) actions awaits)
behind_awaits (Fail expr ∷ actions) awaits = behind_awaits actions (await_left (Fail expr) actions awaits)
behind_awaits (Add cause ∷ actions) awaits = behind_awaits actions (await_left (Add cause) actions awaits)
behind_awaits (Remove cause ∷ actions) awaits = behind_awaits actions (await_left (Remove cause) actions awaits)

segment_awaits : (segment : ℕ) (actions : List Action) → list_any is_no_await actions ≡ false → list_any is_no_await (actions_from segment actions) ≡ false
segment_awaits zero actions awaits = awaits
segment_awaits (suc segment) actions awaits = behind_awaits (actions_from segment actions) (segment_awaits segment actions awaits)

-- what a row of awaits does
record IsIdlePlay (causes : List ℕ) (p : Play) : Type 0 where
  posts : p.posts ≡ []
  same : p.causes ≡ causes

awaits_play : (port_of : ℕ → Option ℕ) (values : List (List ℕ)) (site : ℕ) (causes : List ℕ) (actions : List Action) → list_any is_no_await actions ≡ false → IsIdlePlay causes (play port_of values site causes actions)
awaits_play port_of values site causes [] awaits = record { posts = refl; same = refl }
awaits_play port_of values site causes (Await port ∷ actions) awaits = record { posts = refl; same = refl }
awaits_play port_of values site causes (Post port expr ∷ actions) awaits = absurd (let is : true ≡ false = (neither true (list_any is_no_await actions) awaits).0 in cc)
awaits_play port_of values site causes (Fail expr ∷ actions) awaits = absurd (let is : true ≡ false = (neither true (list_any is_no_await actions) awaits).0 in cc)
awaits_play port_of values site causes (Add cause ∷ actions) awaits = absurd (let is : true ≡ false = (neither true (list_any is_no_await actions) awaits).0 in cc)
awaits_play port_of values site causes (Remove cause ∷ actions) awaits = absurd (let is : true ≡ false = (neither true (list_any is_no_await actions) awaits).0 in cc)

idle_at : (w : Parts) → IsValid w → (branch segment : ℕ) (s : Placement) (ports : List ℕ) (load : Load) → placement w branch ≡ Some s → open_handler w s.branch.handler ≡ Some ports → IsIdlePlay load.causes (play_at w branch segment load)
idle_at w valid branch segment s ports load sits opened =
    let silent = ((sound w valid).open_handlers s.branch.handler ports opened).silent in
    let own : actions_at w branch ≡ actions_of w s.branch.handler = ap (λ o. option_map_or (λ (r : Placement). actions_of w r.branch.handler) o []) sits in
    subst (λ acts. IsIdlePlay load.causes (play (exception_port w) load.values segment load.causes (actions_from segment acts))) (sym own)
    (awaits_play (exception_port w) load.values segment load.causes (actions_from segment (actions_of w s.branch.handler)) (segment_awaits segment (actions_of w s.branch.handler) silent))

idle_of : (w : Parts) → IsValid w → (h : List Event) (t : TaskId) (ports : List ℕ) → open_ports w h t ≡ Some ports → IsIdlePlay (load_of w h t).causes (play_of w h t)
idle_of w valid h t ports is = by (spot_of h t) (some_then (λ (s : Placement). open_handler w s.branch.handler) (placement_of w h t) ports is)
  where
    by : (o : Option Spot) → (s : Placement) × (option_and_then (λ spot. placement w (branch_of spot)) o ≡ Some s) × (open_handler w s.branch.handler ≡ Some ports)
        → IsIdlePlay (option_map_or (λ spot. load_at w h (branch_of spot) (segment_of spot) t) o no_load).causes (option_map_or (λ spot. play_at w (branch_of spot) (segment_of spot) (load_at w h (branch_of spot) (segment_of spot) t)) o no_play)
    by None found = absurd (let is : None ≡ Some found.0 = found.1 in cc)
    by (Some spot) found = idle_at w valid (branch_of spot) (segment_of spot) found.0 ports (load_at w h (branch_of spot) (segment_of spot) t) found.1 found.2

-- its causes at the end are those at the start
pub open_causes : (w : Parts) → IsValid w → (h : List Event) (t : TaskId) (ports : List ℕ) → open_ports w h t ≡ Some ports → (play_of w h t).causes ≡ (load_of w h t).causes
open_causes w valid h t ports is = (idle_of w valid h t ports is).same

-- its play posts nothing
pub open_posts : (w : Parts) → IsValid w → (h : List Event) (t : TaskId) (ports : List ℕ) → open_ports w h t ≡ Some ports → (play_of w h t).posts ≡ []
open_posts w valid h t ports is = (idle_of w valid h t ports is).posts
