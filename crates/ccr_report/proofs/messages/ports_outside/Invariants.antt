use Rattle.std.proofs.Common.{◌≡◌, take, filter, not}
use Rattle.std.specs.HashSet.{contains}
use Rattle.ccr_base.specs.declared.messages.Msg.{Msg}
use Rattle.ccr_base.specs.Names.{same_message}
use Rattle.ccr_model.specs.Posts.{posts}
use Rattle.ccr_report.specs.Counting.{ports_of}
use Rattle.ccr_report.proofs.messages.ports_outside.Given as goal

abbrev pub invariant-loop-event : goal.invariant-loop-event
invariant-loop-event l = l.ports.items ≡ ports_of (filter (λ (message : Msg). not (contains same_message l.taken message.id)) (posts (take l.event-index l.events)))
