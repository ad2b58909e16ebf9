use Rattle.std.proofs.Common.{◌≡◌, drop}
use Rattle.ccr_model.specs.Posts.{message_named}
use Rattle.ccr_model.proofs.posts.message_named.Given as goal

abbrev pub invariant-loop-event : goal.invariant-loop-event
invariant-loop-event l = message_named l.events l.name ≡ message_named (drop l.event-index l.events) l.name
