-- The actions of a segment.
use Rattle.std.proofs.Common.{◌≡◌, ℕ, zero, suc, ◌-◌, ◌≤◌, Bool, true, false, List, [], ◌∷◌, length, refl, arith}
use Rattle.std.specs.Prelude.{if◌then◌else◌}
use Rattle.ccr_base.specs.declared.handlers.Action.{Action}
use Rattle.ccr_handler.specs.Playing.{is_await, after_await, actions_from}

after_await-shorter : (actions : List Action) → length (after_await actions) ≤ length actions - 1
after_await-shorter [] = omega arith
after_await-shorter (action ∷ actions) = of_test (is_await action) (after_await-shorter actions)
  where
    of_test : (b : Bool) → length (after_await actions) ≤ length actions - 1 → length (if b then actions else after_await actions) ≤ length (action ∷ actions) - 1
    of_test true less = omega arith
    of_test false less = omega arith

pub actions_from-shorter : (segment : ℕ) (actions : List Action) → length (actions_from segment actions) ≤ length actions - segment
actions_from-shorter zero actions = omega arith
actions_from-shorter (suc segment) actions = omega (arith, after_await-shorter (actions_from segment actions), actions_from-shorter segment actions)

none_left : (actions : List Action) → length actions ≤ 0 → actions ≡ []
none_left [] few = refl
none_left (action ∷ actions) few = absurd (omega arith)

-- there are no more segments than actions
pub actions_from-past : (segment : ℕ) (actions : List Action) → length actions ≤ segment → actions_from segment actions ≡ []
actions_from-past segment actions past = none_left (actions_from segment actions) (omega (arith, actions_from-shorter segment actions))

-- no actions have no later segment
pub actions_from-none : (segment : ℕ) → actions_from segment [] ≡ []
actions_from-none segment = actions_from-past segment [] (omega arith)
