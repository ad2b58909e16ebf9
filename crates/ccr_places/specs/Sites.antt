-- What an await site keeps, and its steps. The tasks stand here by their names; the site's object keeps them whole.
use Rattle.std.specs.Prelude.{◌≡◌, ⊤, ℕ, Bool, not, ◌&&◌, List, [], ◌∷◌, ◌++◌, drop, fold, Option, Some, None}
use Rattle.ccr_base.specs.declared.names.TaskId.{TaskId}
use Rattle.ccr_base.specs.declared.names.Spot.TheVariants.{Site}
use Rattle.ccr_base.specs.declared.tasks.Task.{Task}
use Rattle.ccr_base.specs.declared.tasks.By.{By}
use Rattle.ccr_base.specs.declared.tasks.By.TheVariants.{NoneWaiting}
use Rattle.ccr_base.specs.Names.{same_spot, has_task}
use Rattle.ccr_places.specs.declared.notes.Note.{Note}
use Rattle.ccr_places.specs.declared.notes.Note.TheVariants.{Fired, Dead, Suspend}

-- the site's branch and its number there, the tasks that are suspended, first suspended first, and the tasks that fired
pub record SiteState : Type 0 where
  pub branch : ℕ
  pub site : ℕ
  pub suspended : List TaskId
  pub fired : List TaskId

-- a site where no task was suspended
abbrev pub start : ℕ → ℕ → SiteState
start branch site = record { branch = branch; site = site; suspended = []; fired = [] }

-- why the site can't fire
abbrev pub dead_by : SiteState → Option By
dead_by state = if_none state.suspended
  where
    if_none : List TaskId → Option By
    if_none [] = Some NoneWaiting
    if_none (task ∷ tasks) = None

-- a task at this site, whose name is new here
abbrev pub may_commit : SiteState → Task → Bool
may_commit state task = same_spot (Site state.branch state.site) task.spot && not (has_task state.fired task.id)

-- the task is suspended last
abbrev pub after_suspend : SiteState → TaskId → SiteState
after_suspend state task = record state { suspended = state.suspended ++ task ∷ [] }

-- the task has fired, and goes on for the one that was suspended first
abbrev pub after_firing : SiteState → TaskId → SiteState
after_firing state task = record state { suspended = drop 1 state.suspended; fired = state.fired ++ task ∷ [] }

-- what the site keeps after a note of its own
abbrev pub after : SiteState → Note → SiteState
after state (Suspend task) = after_suspend state task
after state (Fired task spot messages cuts) = after_firing state task
after state _ = state

-- what the site keeps after all these notes
abbrev pub kept : SiteState → List Note → SiteState
kept state notes = fold after state notes

-- the notes that the site may give
abbrev pub IsGiven : SiteState → Note → Type 0
IsGiven state (Suspend task) = ⊤
IsGiven state (Fired task spot messages cuts) = (dead_by state ≡ None) × (cuts ≡ [])
IsGiven state (Dead task spot by) = dead_by state ≡ Some by
IsGiven state _ = ⊥
