-- A spot could fire, room aside, exactly where it lives and the engine has a selection there.
use Rattle.std.proofs.Common.{◌≡◌, ◌∙◌, Bool, true, false, ◌&&◌, List, [], Option, Some, None, refl, ap, sym}
use Rattle.std.specs.Prelude.{is_some}
use Rattle.std.specs.Option.{option_map_or}
use Rattle.ccr_base.specs.declared.names.Spot.{Spot}
use Rattle.ccr_base.specs.declared.names.Spot.TheVariants.{Branch, Site}
use Rattle.ccr_wiring.specs.declared.parts.Parts.{Parts}
use Rattle.ccr_wiring.specs.Wirings.{Placement, placement, policy_of}
use Rattle.ccr_model.specs.declared.history.Event.{Event}
use Rattle.ccr_model.specs.Live.{is_live, has_room, has_room_in}
use Rattle.ccr_model.specs.Selection.{engine_selection}
use Rattle.ccr_model.specs.Enough.{can_take}
use Rattle.ccr_model.proofs.CanFire.{is_some-if, is_some-map, some_fire_at}
use Rattle.ccr_engine.specs.Cursor.{could_fire}

-- the wiring without its queues: none of them holds a firing back
abbrev unqueued : Parts → Parts
unqueued w = record w { queues = [] }

always_room : (w : Parts) (h : List Event) (s : Spot) → has_room (unqueued w) h s ≡ true
always_room w h (Site n k) = refl
always_room w h (Branch n) = of_placement (placement (unqueued w) n)
  where
    of_placement : (o : Option Placement) → option_map_or (λ (s : Placement). has_room_in (unqueued w) h s.branch.queue (policy_of (unqueued w) s.branch.queue)) o true ≡ true
    of_placement None = refl
    of_placement (Some s) = refl

-- there a spot fires exactly where it can
fires_so : (w : Parts) (h : List Event) (s : Spot) → (is_live w h s && has_room w h s) && is_some (engine_selection w h s) ≡ (is_live w h s && has_room w h s) && can_take w h s
fires_so w h s = sym (is_some-if (is_live w h s && has_room w h s) _ ∙ ap (λ b. (is_live w h s && has_room w h s) && b) (is_some-map _ (engine_selection w h s))) ∙ some_fire_at w 0 h s

unheld : (live room chosen enough : Bool) → room ≡ true → (live && room) && chosen ≡ (live && room) && enough → live && chosen ≡ live && enough
unheld true true chosen enough is same = same
unheld true false chosen enough is same = absurd (cc)
unheld false room chosen enough is same = refl

pub could_choose : (w : Parts) (h : List Event) (s : Spot) → is_live w h s && is_some (engine_selection w h s) ≡ could_fire w h s
could_choose w h (Branch n) = unheld (is_live w h (Branch n)) (has_room (unqueued w) h (Branch n)) (is_some (engine_selection w h (Branch n))) (can_take w h (Branch n)) (always_room w h (Branch n)) (fires_so (unqueued w) h (Branch n))
could_choose w h (Site n k) = unheld (is_live w h (Site n k)) true (is_some (engine_selection w h (Site n k))) (can_take w h (Site n k)) refl (fires_so w h (Site n k))
