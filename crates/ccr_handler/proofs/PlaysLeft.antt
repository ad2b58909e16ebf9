-- Playing action by action.
use Rattle.std.proofs.Common.{◌≡◌, ℕ, List, Option, drop}
use Rattle.ccr_base.specs.declared.messages.Sent.{Sent}
use Rattle.ccr_base.specs.declared.handlers.Action.{Action}
use Rattle.ccr_handler.specs.Playing.{play, with_posts}

-- behind these posts, the actions from this index on play over the causes now what all play over the causes at the start
abbrev pub PlaysLeft : (ℕ → Option ℕ) → List (List ℕ) → ℕ → List ℕ → List Action → ℕ → List Sent → List ℕ → Type 0
PlaysLeft port_of values segment causes actions i posts now = with_posts posts (play port_of values segment now (drop i actions)) ≡ play port_of values segment causes actions
