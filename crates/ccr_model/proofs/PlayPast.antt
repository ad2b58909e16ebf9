-- A segment past the end of every handler does nothing.
use Rattle.std.proofs.Common.{◌≡◌, ℕ, ◌≤◌, [], Option, Some, None, refl, arith}
use Rattle.std.specs.Option.{option_map_or}
use Rattle.ccr_handler.specs.declared.segments.PlayEnd.TheVariants.{Done}
use Rattle.ccr_handler.specs.Playing.{actions_from, play}
use Rattle.ccr_wiring.specs.declared.parts.Parts.{Parts}
use Rattle.ccr_wiring.specs.Valid.{IsValid}
use Rattle.ccr_wiring.specs.Wirings.{Placement, placement, actions_of, exception_port}
use Rattle.ccr_wiring.proofs.Soundness.{sound}
use Rattle.ccr_model.specs.TaskData.{Load, play_at}
use Rattle.ccr_handler.proofs.LaterSegments.{actions_from-past, actions_from-none}

pub play_at-past : (wiring : Parts) → IsValid wiring → (branch segment : ℕ) (load : Load) → 16 ≤ segment → play_at wiring branch segment load ≡ record { posts = []; end = Done; causes = load.causes }
play_at-past wiring valid branch segment load past = of_placement (placement wiring branch)
  where
    of_placement : (o : Option Placement) → play (exception_port wiring) load.values segment load.causes (actions_from segment (option_map_or (λ (s : Placement). actions_of wiring s.branch.handler) o [])) ≡ record { posts = []; end = Done; causes = load.causes }
    of_placement None = rw (actions_from-none segment) refl
    of_placement (Some s) =
        let few = (sound wiring valid).few_actions s.branch.handler in
        rw (actions_from-past segment (actions_of wiring s.branch.handler) (omega arith)) refl
