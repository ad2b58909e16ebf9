-- An engine that keeps its history.
use Rattle.std.specs.Prelude.{◌≡◌, Option, IfSome}
use Rattle.std.specs.Global.{Box}
use Rattle.ccr_engine.specs.Engine.{Engine, IsSound}

-- the engine seen is sound, and the one kept, if any, stands at the end of its history
pub record IsMade (seen : Engine) (kept : Option (Box Engine)) : Type 0 where
  pub sound : IsSound seen
  pub so_far : IfSome kept (λ made. made.value ≡ seen)
