use Rattle.std.proofs.Common.{◌≡◌, ◌≤◌, take}
use Rattle.ccr_model.specs.Posts.{posts_of_tasks}
use Rattle.ccr_model.proofs.posts.posts_of_tasks.Given as goal

abbrev pub invariant-loop-event : goal.invariant-loop-event
invariant-loop-event l = record { count : l.count ≡ posts_of_tasks (take l.event-index l.events); bound : l.count ≤ l.event-index }
