-- What a site keeps of its suspended tasks, and how the first of them goes on.
use Rattle.std.specs.Prelude.{ℕ, List, [], ◌∷◌, ◌++◌, map, drop, length, nat_lt, Some, if◌then◌else◌}
use Rattle.ccr_base.specs.declared.names.TaskId.{TaskId}
use Rattle.ccr_base.specs.declared.tasks.Task.{Task}
use Rattle.ccr_base.specs.declared.tasks.By.TheVariants.{NoneWaiting}
use Rattle.ccr_base.specs.declared.tasks.Commit.{Commit}
use Rattle.ccr_base.specs.declared.tasks.Commit.TheVariants.{Fired, Dead}
use Rattle.ccr_cause.specs.Causes.{union}
use Rattle.ccr_places.specs.Sites.{SiteState}

-- a site with its suspended tasks, first suspended first
pub record SiteTasks : Type 0 where
  pub branch : ℕ
  pub site : ℕ
  pub suspended : List Task
  pub fired : List TaskId

-- the site as its notes tell it: the tasks by their names
abbrev pub site_state : SiteTasks → SiteState
site_state site = record { branch = site.branch; site = site.site; suspended = map (λ (task : Task). task.id) site.suspended; fired = site.fired }

-- a site where no task was suspended
abbrev pub start : ℕ → ℕ → SiteTasks
start branch site = record { branch = branch; site = site; suspended = []; fired = [] }

-- the task goes on for the suspended one: its root, arbiter and queue, its values followed by the task's, its causes
-- followed by those of the task that it lacks
abbrev pub resumed : Task → Task → Task
resumed suspended task = record {
  id = task.id;
  root = suspended.root;
  spot = task.spot;
  arbiter = suspended.arbiter;
  queue = suspended.queue;
  values = suspended.values ++ task.values;
  causes = union suspended.causes task.causes;
}

-- the task is suspended last
abbrev pub after_suspend : SiteTasks → Task → SiteTasks
after_suspend site task = record site { suspended = site.suspended ++ task ∷ [] }

-- dead where nobody is suspended, else fired: the first suspended goes on, and nothing is cut
abbrev pub reply_of : List Task → Task → Commit
reply_of [] task = Dead NoneWaiting
reply_of (first ∷ others) task = Fired (Some (resumed first task)) []

-- what a resuming task is told: it fired, if one is suspended, else it is dead
abbrev pub commit_reply : SiteTasks → Task → Commit
commit_reply site task = reply_of site.suspended task

-- where somebody is suspended, the first is taken out and the task has fired; else it stays as it was
abbrev pub after_commit : SiteTasks → Task → SiteTasks
after_commit site task = if nat_lt 0 (length site.suspended) then record site { suspended = drop 1 site.suspended; fired = site.fired ++ task.id ∷ [] } else site
