-- What a receiver or a choice answers to a commit.
use Rattle.std.specs.Prelude.{[], Some}
use Rattle.std.specs.Option.{option_map_or}
use Rattle.ccr_base.specs.declared.names.TaskId.{TaskId}
use Rattle.ccr_base.specs.declared.tasks.Task.{Task}
use Rattle.ccr_base.specs.declared.tasks.By.TheVariants.{Fired as ByFired}
use Rattle.ccr_base.specs.declared.tasks.Commit.{Commit}
use Rattle.ccr_base.specs.declared.tasks.Commit.TheVariants.{Fired, Dead}
use Rattle.ccr_places.specs.Arbiters.{ArbiterState, retired_by, after_firing}

-- dead by the firing that retired its branches, else fired: the task is handed back, and nothing is cut
abbrev pub commit_reply : ArbiterState → Task → Commit
commit_reply arbiter task = option_map_or (λ (earlier : TaskId). Dead (ByFired earlier)) (retired_by arbiter) (Fired (Some task) [])

-- where its branches are retired it stays as it was
abbrev pub after_commit : ArbiterState → Task → ArbiterState
after_commit arbiter task = option_map_or (λ (earlier : TaskId). arbiter) (retired_by arbiter) (after_firing arbiter task.id)
