use Rattle.std.proofs.Common.{◌≡◌, take}
use Rattle.std.specs.Prelude.{filter, not}
use Rattle.ccr_base.specs.declared.messages.Msg.{Msg}
use Rattle.ccr_base.specs.Names.{has_message}
use Rattle.ccr_model.specs.Posts.{posted}
use Rattle.ccr_model.specs.Views.{seen}
use Rattle.ccr_model.proofs.posts.held.Given as goal

abbrev pub invariant-loop-event : goal.invariant-loop-event
invariant-loop-event l = seen l.messages.items ≡ filter (λ (message : Msg). not (has_message l.taken.items message.id)) (posted (take l.event-index l.events) l.port)
