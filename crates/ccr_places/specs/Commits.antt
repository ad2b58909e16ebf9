-- The note of a commit, at an arbiter or at a site.
use Rattle.std.specs.Prelude.{List, map}
use Rattle.ccr_base.specs.declared.names.TaskId.{TaskId}
use Rattle.ccr_base.specs.declared.names.MsgId.{MsgId}
use Rattle.ccr_base.specs.declared.tasks.Task.{Task}
use Rattle.ccr_base.specs.declared.tasks.Cut.{Cut}
use Rattle.ccr_base.specs.declared.tasks.Commit.{Commit}
use Rattle.ccr_base.specs.declared.tasks.Commit.TheVariants.{Fired as CommitFired, Dead as CommitDead}
use Rattle.ccr_places.specs.declared.notes.Note.{Note}
use Rattle.ccr_places.specs.declared.notes.Note.TheVariants.{Fired, Dead}

-- the tasks that were cut
abbrev pub cut_tasks : List Cut → List TaskId
cut_tasks cuts = map (λ (cut : Cut). cut.task) cuts

-- what is noted of the task's firing with these messages, where this was the answer
abbrev pub commit_note : Task → List MsgId → Commit → Note
commit_note task messages (CommitFired handed cuts) = Fired task.id task.spot messages (cut_tasks cuts)
commit_note task messages (CommitDead by) = Dead task.id task.spot by
