-- The object of an Interleave counts the cuts of a commit as the answer lists them.
use Rattle.std.proofs.Common.{◌≡◌, length, refl, Option, Some, None}
use Rattle.ccr_base.specs.declared.names.TaskId.{TaskId}
use Rattle.ccr_base.specs.declared.tasks.Task.{Task}
use Rattle.ccr_places.specs.Interleaves.{InterleaveTasks}
use Rattle.ccr_interleave.specs.Replies.{commit_reply, cut_count}
use Rattle.ccr_object.specs.Commits.{cuts_of}

pub cuts_counted : (kept : InterleaveTasks) (task : Task) → length (cuts_of (commit_reply kept task)) ≡ cut_count kept task
cuts_counted kept task = by kept.state.teardown refl
  where
    by : (fired : Option TaskId) → kept.state.teardown ≡ fired → length (cuts_of (commit_reply kept task)) ≡ cut_count kept task
    by None e = rw e refl
    by (Some earlier) e = rw e refl
