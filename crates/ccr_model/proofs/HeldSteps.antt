-- What a port holds after one more event.
use Rattle.std.proofs.Common.{◌≡◌, ℕ, false, not, List, [], ◌∷◌, ◌++◌, filter, arith}
use Rattle.std.specs.Prelude.{◌==◌, if◌then◌else◌, Option}
use Rattle.std.proofs.lemmas.Grind.{common_steps}
use Rattle.ccr_base.specs.declared.names.TaskId.{TaskId}
use Rattle.ccr_base.specs.declared.names.MsgId.{MsgId}
use Rattle.ccr_base.specs.declared.messages.Msg.{Msg}
use Rattle.ccr_base.specs.declared.names.Spot.{Spot}
use Rattle.ccr_model.specs.declared.history.Event.{Event}
use Rattle.ccr_model.specs.declared.history.Event.TheVariants.{Post, Fire, Admit, Put, Start, End}
use Rattle.ccr_model.specs.declared.history.EndHow.{EndHow}
use Rattle.ccr_base.specs.Names.{has_message}
use Rattle.ccr_model.specs.Posts.{held, taken, posted}
use Rattle.ccr_model.proofs.MessageNames.{left_both}

pub held-post : (h : List Event) (m : Msg) (p : ℕ) → has_message (taken h) m.id ≡ false → held (h ++ Post m ∷ []) p ≡ held h p ++ (if m.port == p then m ∷ [] else [])
held-post h m p fresh = grind (arith, common_steps)

pub held-fire : (h : List Event) (t : TaskId) (s : Spot) (ms : List MsgId) (cs : List TaskId) (p : ℕ) → held (h ++ Fire t s ms cs ∷ []) p ≡ filter (λ m. not (has_message ms m.id)) (held h p)
held-fire h t s ms cs p = grind (arith, common_steps, left_both (taken h) ms (posted h p))

pub held-admit : (h : List Event) (t : TaskId) (p : ℕ) → held (h ++ Admit t ∷ []) p ≡ held h p
held-admit h t p = grind (arith, common_steps)

pub held-put : (h : List Event) (t : TaskId) (d : Option TaskId) (p : ℕ) → held (h ++ Put t d ∷ []) p ≡ held h p
held-put h t d p = grind (arith, common_steps)

pub held-start : (h : List Event) (t : TaskId) (a p : ℕ) → held (h ++ Start t a ∷ []) p ≡ held h p
held-start h t a p = grind (arith, common_steps)

pub held-end : (h : List Event) (t : TaskId) (how : EndHow) (p : ℕ) → held (h ++ End t how ∷ []) p ≡ held h p
held-end h t how p = grind (arith, common_steps)
