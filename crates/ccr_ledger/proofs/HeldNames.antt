-- Messages that are held have names of their own.
use Rattle.std.proofs.Common.{◌≡◌, ℕ, ◌+◌, ◌≤◌, false, not, List, [], arith}
use Rattle.std.specs.Prelude.{◌==◌}
use Rattle.ccr_base.specs.declared.names.MsgId.{MsgId}
use Rattle.ccr_base.specs.declared.messages.Msg.{Msg}
use Rattle.ccr_base.specs.Names.{has_message}
use Rattle.ccr_wiring.specs.declared.parts.Parts.{Parts}
use Rattle.ccr_model.specs.declared.history.Event.{Event}
use Rattle.ccr_model.specs.Posts.{posts, taken, held}
use Rattle.ccr_model.specs.Legal.{IsLegal}
use Rattle.ccr_model.proofs.PostNames.{times, posted_once}
use Rattle.ccr_model.proofs.TakenOnce.{times-filter, times-two}
use Rattle.ccr_base.proofs.Booleans.{not_false}

-- the messages that two ports hold have no name in common
pub held_alone : (w : Parts) (h : List Event) → IsLegal w h → (p q : ℕ) (name : MsgId) → (p == q) ≡ false → times name (held h p) + times name (held h q) ≤ 1
held_alone w h legal p q name other = omega (
  arith,
  posted_once w h legal name,
  times-two name (λ (m : Msg). not (has_message (taken h) m.id)) p q (not_false (p == q) other) (posts h),
  times-filter name (λ (m : Msg). not (has_message (taken h) m.id)) (posts h),
)
