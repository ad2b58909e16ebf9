use Rattle.std.proofs.Common.{◌≡◌, drop}
use Rattle.std.specs.Prelude.{option_map}
use Rattle.std.specs.Option.{option_or}
use Rattle.std.specs.Borrow.{Bor}
use Rattle.indexmap.specs.IndexMap.{get}
use Rattle.ccr_base.specs.declared.names.TaskId.{TaskId}
use Rattle.ccr_base.specs.declared.messages.Msg.{Msg}
use Rattle.ccr_base.specs.Names.{same_task}
use Rattle.ccr_service.specs.Telling.{first_post}
use Rattle.ccr_service.proofs.tables.posts.Given as goal

-- what a task posted first so far, or posts first in the events still to come
abbrev pub invariant-loop-event : goal.invariant-loop-event
invariant-loop-event l = (task : TaskId) → option_or (option_map (λ (m : Bor Msg). m.now) (get same_task l.table task)) (first_post (drop l.event-index l.events) task) ≡ first_post l.events task
