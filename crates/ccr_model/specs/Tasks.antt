-- Who is where: each is a filter of the history.
use Rattle.std.specs.Prelude.{ℕ, Bool, false, not, ◌==◌, ◌&&◌, nat_lt, List, [], ◌∷◌, ◌++◌, length, filter, flat_map, if◌then◌else◌}
use Rattle.std.specs.List.{list_any}
use Rattle.std.specs.Option.{option_map_or}
use Rattle.ccr_base.specs.declared.names.TaskId.{TaskId}
use Rattle.ccr_base.specs.declared.names.Spot.{Spot}
use Rattle.ccr_base.specs.declared.names.Spot.TheVariants.{Branch, Site}
use Rattle.ccr_wiring.specs.declared.parts.Parts.{Parts}
use Rattle.ccr_model.specs.declared.history.Event.{Event}
use Rattle.ccr_model.specs.declared.history.Event.TheVariants.{Start}
use Rattle.ccr_base.specs.Names.{same_task, without}
use Rattle.ccr_model.specs.Posts.{posts_of_task}
use Rattle.ccr_wiring.specs.Wirings.{Placement, placement}
pub use Rattle.ccr_base.specs.Groups.{is_teardown, is_concurrent}
pub use Rattle.ccr_wiring.specs.Groups.{is_interleave}
use Rattle.ccr_model.specs.Firings.{fired_where, cut, ever_admitted, put, dropped, started, ended, last_segments}
use Rattle.ccr_model.specs.Sites.{root_of}
use Rattle.ccr_model.specs.TaskData.{placement_of, play_of}

-- whether the spot is a branch whose placement passes the test
abbrev pub is_branch_where : Parts → (Placement → Bool) → Spot → Bool
is_branch_where wiring test (Branch branch) = option_map_or test (placement wiring branch) false
is_branch_where wiring test (Site branch site) = false

-- the tasks that such branches fired, in order
abbrev pub fired_by : Parts → (Placement → Bool) → List Event → List TaskId
fired_by wiring test history = fired_where (λ f. is_branch_where wiring test f.spot) history

-- the tasks that branches of this domain of Interleaves fired, neither admitted nor cut
abbrev pub waiting : Parts → List Event → ℕ → List TaskId
waiting wiring history domain = without (fired_by wiring (λ s. is_interleave s.kind && (s.domain == domain)) history) (ever_admitted history ++ cut history)

-- whether the task's branch is on the queue
abbrev pub is_for_queue : Parts → List Event → ℕ → TaskId → Bool
is_for_queue wiring history queue task = option_map_or (λ (s : Placement). s.branch.queue == queue) (placement_of wiring history task) false

-- the tasks put into the queue, in the order of their puts
abbrev pub put_into : Parts → List Event → ℕ → List TaskId
put_into wiring history queue = filter (is_for_queue wiring history queue) (put history)

-- the tasks put into the queue, neither started nor dropped
abbrev pub queued : Parts → List Event → ℕ → List TaskId
queued wiring history queue = filter (is_for_queue wiring history queue) (without (put history) (started history ++ dropped history))

-- the tasks that started and have not ended, by their starts
abbrev pub running : List Event → List TaskId
running history = without (started history) (ended history)

-- the task that the event starts, where this actor starts it
abbrev pub started_as : ℕ → Event → List TaskId
started_as actor (Start task by) = if by == actor then task ∷ [] else []
started_as actor _ = []

-- the tasks that the actor started, not ended
abbrev pub running_by : List Event → ℕ → List TaskId
running_by history actor = without (flat_map (started_as actor) history) (ended history)

-- whether some segment of the root ended done, failed or shed, or was dropped
abbrev pub is_over : List Event → TaskId → Bool
is_over history root = list_any (λ task. same_task (root_of history task) root) (last_segments history)

-- whether the task's branch is of an arbiter of the domain
abbrev pub is_of_domain : Parts → List Event → ℕ → TaskId → Bool
is_of_domain wiring history domain task = option_map_or (λ (s : Placement). s.domain == domain) (placement_of wiring history task) false

-- the roots of the domain that were admitted and aren't over
abbrev pub admitted : Parts → List Event → ℕ → List TaskId
admitted wiring history domain = filter (λ task. is_of_domain wiring history domain task && not (is_over history task)) (ever_admitted history)

-- the tasks that branches fired for the queue, neither started, dropped nor cut
abbrev pub coming : Parts → List Event → ℕ → List TaskId
coming wiring history queue = without (fired_by wiring (λ s. s.branch.queue == queue) history) (started history ++ dropped history ++ cut history)

-- whether a post of the task's play is left
abbrev pub has_post_left : Parts → List Event → TaskId → Bool
has_post_left wiring history task = nat_lt (posts_of_task history task) (length (play_of wiring history task).posts)

-- the running tasks that have a post left
abbrev pub unfinished : Parts → List Event → List TaskId
unfinished wiring history = filter (has_post_left wiring history) (running history)

-- how many running tasks have a post left
abbrev pub count_unfinished : Parts → List Event → ℕ
count_unfinished wiring history = length (unfinished wiring history)
