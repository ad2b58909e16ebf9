-- The event that one thread puts first.
use Rattle.std.specs.Prelude.{◌≡◌, ℕ, zero, suc, ◌+◌, ◌^◌, max, ◌==◌, ◌&&◌, List, [], ◌∷◌, ◌++◌, find, Option, Some, None, option_map, if◌then◌else◌}
use Rattle.std.specs.List.{slice_get}
use Rattle.std.specs.Option.{option_or}
use Rattle.ccr_base.specs.declared.names.TaskId.{TaskId}
use Rattle.ccr_base.specs.declared.names.MsgId.TheVariants.{Script, Task}
use Rattle.ccr_base.specs.declared.messages.Sent.{Sent}
use Rattle.ccr_base.specs.declared.names.Spot.{Spot}
use Rattle.ccr_handler.specs.declared.segments.Play.{Play}
use Rattle.ccr_handler.specs.declared.segments.PlayEnd.{PlayEnd}
use Rattle.ccr_handler.specs.declared.segments.PlayEnd.TheVariants as plays
use Rattle.ccr_wiring.specs.declared.parts.Parts.{Parts}
use Rattle.ccr_wiring.specs.declared.parts.PosterPart.{PosterPart}
use Rattle.ccr_wiring.specs.declared.parts.ArbiterPart.{ArbiterPart}
use Rattle.ccr_wiring.specs.declared.parts.QueuePart.{QueuePart}
use Rattle.ccr_model.specs.declared.history.Event.{Event}
use Rattle.ccr_model.specs.declared.history.Event.TheVariants.{Post, Fire, Admit, Put, Start, End}
use Rattle.ccr_model.specs.declared.history.EndHow.{EndHow}
use Rattle.ccr_model.specs.declared.history.EndHow.TheVariants as ends
use Rattle.ccr_model.specs.Posts.{posts_of_poster, posts_of_task}
use Rattle.ccr_wiring.specs.Wirings.{spots}
use Rattle.ccr_model.specs.Firings.{fired}
use Rattle.ccr_model.specs.TaskData.{play_of}
use Rattle.ccr_model.specs.Tasks.{waiting, queued, running}
use Rattle.ccr_model.specs.Live.{is_live, has_room}
use Rattle.ccr_model.specs.Selection.{engine_selection, names_of}
use Rattle.ccr_model.specs.Rules.{cuts_at, may_admit, may_put, drop_at, has_budget}

-- the post with this index in the poster's script
abbrev pub script_post : ℕ → ℕ → Sent → Event
script_post actor index sent = Post (record { id = Script actor index; port = sent.port; value = sent.value; causes = sent.causes })

-- of the posters, of which the first has this number, the next line of the first that has one left
abbrev pub post_from : List Event → ℕ → List PosterPart → Option Event
post_from history number [] = None
post_from history number (poster ∷ posters) =
    option_or
    (option_map (script_post number (posts_of_poster history number)) (slice_get poster.posts (posts_of_poster history number)))
    (post_from history (number + 1) posters)

-- one above the actor's greatest attempt, or 0
abbrev pub next_attempt : ℕ → List TaskId → ℕ
next_attempt actor [] = 0
next_attempt actor (task ∷ tasks) = if task.actor == actor then max (task.attempt + 1) (next_attempt actor tasks) else next_attempt actor tasks

-- the next attempt of who finishes a run, behind a history that is gone on from, at most: as many are left for what is to come
abbrev pub most_attempts : ℕ
most_attempts = 2 ^ 31

-- the firing at the spot, where it is live, has room and has a selection
abbrev pub fire_at : Parts → ℕ → List Event → Spot → Option Event
fire_at wiring closer history spot =
    if is_live wiring history spot && has_room wiring history spot
    then
    option_map
    (λ messages. Fire (record { actor = closer; attempt = next_attempt closer (fired history) }) spot (names_of messages) (cuts_at wiring history spot))
    (engine_selection wiring history spot)
    else None

-- at the first of the spots that can fire
abbrev pub fire_from : Parts → ℕ → List Event → List Spot → Option Event
fire_from wiring closer history [] = None
fire_from wiring closer history (spot ∷ more) = option_or (fire_at wiring closer history spot) (fire_from wiring closer history more)

-- the admission of the first task, where it may enter
abbrev pub admit_first : Parts → List Event → List TaskId → Option Event
admit_first wiring history [] = None
admit_first wiring history (task ∷ tasks) = if may_admit wiring history task then Some (Admit task) else None

-- of the domains, by the numbers of the arbiters, of which the first has this one, the first that has a task to admit; for a number that is no domain's none waits
abbrev pub admit_from : Parts → List Event → ℕ → List ArbiterPart → Option Event
admit_from wiring history number [] = None
admit_from wiring history number (arbiter ∷ arbiters) = option_or (admit_first wiring history (waiting wiring history number)) (admit_from wiring history (number + 1) arbiters)

-- the put of the task that fired first, of those that may be put
abbrev pub put_first : Parts → List Event → Option Event
put_first wiring history = option_map (λ task. Put task (drop_at wiring history task)) (find (may_put wiring history) (fired history))

-- the end that the play asks for
abbrev pub how_of : PlayEnd → EndHow
how_of plays.Done = ends.Done
how_of (plays.Failed value) = ends.Failed value
how_of (plays.Yield site) = ends.Yield

-- the post with this index in the task's play
abbrev pub task_post : TaskId → ℕ → Sent → Event
task_post task index sent = Post (record { id = Task task index; port = sent.port; value = sent.value; causes = sent.causes })

-- the next post while the budget lasts, else shed; the end of the play where no post is left
abbrev pub run_with : Parts → List Event → TaskId → Play → Option Sent → Event
run_with wiring history task play None = End task (how_of play.end)
run_with wiring history task play (Some sent) = if has_budget wiring history then task_post task (posts_of_task history task) sent else End task ends.Shed

-- the next event of a running task
abbrev pub run_task : Parts → List Event → TaskId → Event
run_task wiring history task = run_with wiring history task (play_of wiring history task) (slice_get (play_of wiring history task).posts (posts_of_task history task))

-- of the queues, of which the first has this number, the oldest task of the first that has one
abbrev pub start_from : Parts → ℕ → List Event → ℕ → List QueuePart → Option Event
start_from wiring closer history number [] = None
start_from wiring closer history number (queue ∷ queues) =
    option_or
    (option_map (λ task. Start task closer) (slice_get (queued wiring history number) 0))
    (start_from wiring closer history (number + 1) queues)

-- the event that one thread puts first: a post, else a firing, an admission, a put, a running task's next event, a start; the closer fires and starts
abbrev pub first : Parts → ℕ → List Event → Option Event
first wiring closer history =
    option_or (post_from history 0 wiring.posters)
    (option_or (fire_from wiring closer history (spots wiring))
    (option_or (admit_from wiring history 0 wiring.arbiters)
    (option_or (put_first wiring history)
    (option_or (option_map (run_task wiring history) (slice_get (running history) 0))
    (start_from wiring closer history 0 wiring.queues)))))

-- the history with this event behind it
abbrev pub with_first : List Event → Option Event → List Event
with_first history None = history
with_first history (Some event) = history ++ event ∷ []

-- the history after at most so many more events in the order
abbrev pub finished_in : ℕ → Parts → ℕ → List Event → List Event
finished_in zero wiring closer history = history
finished_in (suc steps) wiring closer history = finished_in steps wiring closer (with_first history (first wiring closer history))

-- each of the events is the one that comes first after the past and those before it
abbrev pub IsOrderedAfter : Parts → ℕ → List Event → List Event → Type 0
IsOrderedAfter wiring closer past [] = Unit {0}
IsOrderedAfter wiring closer past (event ∷ events) = (first wiring closer past ≡ Some event) × IsOrderedAfter wiring closer (past ++ event ∷ []) events

-- the history goes on in the order until nothing comes first
pub record IsFinished (wiring : Parts) (closer : ℕ) (history finished : List Event) : Type 0 where
  pub more : List Event
  pub begins : finished ≡ history ++ more
  pub ordered : IsOrderedAfter wiring closer history more
  pub ended : first wiring closer finished ≡ None
