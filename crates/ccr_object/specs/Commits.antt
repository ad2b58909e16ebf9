-- What a commit replies and notes.
use Rattle.std.specs.Prelude.{List, []}
use Rattle.ccr_claim.specs.declared.asks.Reply.{Reply}
use Rattle.ccr_claim.specs.declared.asks.Reply.TheVariants as replies
use Rattle.ccr_places.specs.declared.notes.Note.{Note}
use Rattle.ccr_places.specs.declared.notes.Note.TheVariants as notes
use Rattle.ccr_base.specs.declared.names.TaskId.{TaskId}
use Rattle.ccr_base.specs.declared.names.MsgId.{MsgId}
use Rattle.ccr_base.specs.declared.names.Spot.{Spot}
use Rattle.ccr_base.specs.declared.tasks.Task.{Task}
use Rattle.ccr_base.specs.declared.tasks.Cut.{Cut}
use Rattle.ccr_base.specs.declared.tasks.Commit.{Commit}
use Rattle.ccr_base.specs.declared.tasks.Commit.TheVariants.{Fired, Dead}
use Rattle.ccr_places.specs.Commits.{cut_tasks}

-- how the outcome of a commit is told
abbrev pub commit_reply : Commit → Reply
commit_reply (Fired task cuts) = replies.Fired task cuts
commit_reply (Dead by) = replies.Dead by

-- the tasks that the commit cuts
abbrev pub cuts_of : Commit → List Cut
cuts_of (Fired task cuts) = cuts
cuts_of (Dead by) = []

-- how the outcome of a commit is noted
abbrev pub noted : TaskId → Spot → List MsgId → Commit → Note
noted id spot messages (Fired task cuts) = notes.Fired id spot messages (cut_tasks cuts)
noted id spot messages (Dead by) = notes.Dead id spot by

-- the answer to a commit
abbrev pub committed : Task → List MsgId → Commit → Reply × Note
committed task messages commit = (commit_reply commit, noted task.id task.spot messages commit)
