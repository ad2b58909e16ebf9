-- Which event is allowed after which history: one definition a rule, true where the rule lets it pass.
use Rattle.std.specs.Prelude.{ℕ, ◌+◌, ◌-◌, Bool, true, false, not, ◌==◌, ◌&&◌, ◌||◌, nat_lt, nat_le, List, [], length, Option, Some, None, option_and_then, if◌then◌else◌}
use Rattle.std.specs.List.{slice_get, list_all, list_any}
use Rattle.std.specs.Option.{option_map_or}
use Rattle.ccr_base.specs.Bounds.{most_actors}
use Rattle.ccr_base.specs.Lists.{has_number, are_apart}
use Rattle.ccr_base.specs.declared.names.TaskId.{TaskId}
use Rattle.ccr_base.specs.declared.names.MsgId.{MsgId}
use Rattle.ccr_base.specs.declared.names.MsgId.TheVariants.{Script, Task}
use Rattle.ccr_base.specs.declared.messages.Msg.{Msg}
use Rattle.ccr_base.specs.declared.messages.Sent.{Sent}
use Rattle.ccr_base.specs.declared.names.Spot.{Spot}
use Rattle.ccr_base.specs.declared.names.Spot.TheVariants.{Branch, Site}
use Rattle.ccr_handler.specs.declared.segments.PlayEnd.{PlayEnd}
use Rattle.ccr_handler.specs.declared.segments.PlayEnd.TheVariants as plays
use Rattle.ccr_wiring.specs.declared.parts.Parts.{Parts}
use Rattle.ccr_wiring.specs.declared.parts.PosterPart.{PosterPart}
use Rattle.ccr_base.specs.declared.policies.Group.{Group}
use Rattle.ccr_base.specs.declared.policies.Policy.{Policy}
use Rattle.ccr_base.specs.declared.policies.Policy.TheVariants.{Discard}
use Rattle.ccr_model.specs.declared.history.Event.{Event}
use Rattle.ccr_model.specs.declared.history.Event.TheVariants.{Post, Fire, Admit, Put, Start, End}
use Rattle.ccr_model.specs.declared.history.EndHow.{EndHow}
use Rattle.ccr_model.specs.declared.history.EndHow.TheVariants as ends
use Rattle.ccr_model.specs.declared.rule.Rule.{Rule}
use Rattle.ccr_model.specs.declared.rule.Rule.TheVariants as rules
use Rattle.ccr_base.specs.Names.{same_task, has_task, same_lists, same_options}
use Rattle.ccr_base.specs.Values.{same_value}
use Rattle.ccr_model.specs.Posts.{posts_of_poster, posts_of_task, posts_of_tasks}
use Rattle.ccr_wiring.specs.Actors.{is_behind_posters}
use Rattle.ccr_wiring.specs.Openness.{open_poster, open_handler}
use Rattle.ccr_wiring.specs.Wirings.{Placement, placement, policy_of, exception_port}
use Rattle.ccr_model.specs.Firings.{fired, cut, ever_admitted, put, spot_of}
use Rattle.ccr_model.specs.TaskData.{placement_of, load_of, play_of}
use Rattle.ccr_model.specs.Tasks.{is_interleave, is_teardown, is_concurrent, waiting, queued, running, running_by, admitted, has_post_left, count_unfinished}
use Rattle.ccr_model.specs.Live.{is_live, has_room, is_none_of}
use Rattle.ccr_model.specs.Selection.{is_selection}

-- whether the message is the post, but for its name
abbrev pub is_post : Msg → Sent → Bool
is_post message sent = (message.port == sent.port) && same_value message.value sent.value && same_lists (λ c d. c == d) message.causes sent.causes

-- a value has 1 to 8 numbers
abbrev pub is_value : List ℕ → Bool
is_value value = nat_le 1 (length value) && nat_le (length value) 8

-- whether an open poster may post it: to one of these ports, with causes of the wiring, none twice
abbrev pub is_outside_post : Parts → List ℕ → Msg → Bool
is_outside_post wiring ports message =
    has_number ports message.port
    && is_value message.value
    && list_all (λ cause. nat_lt cause (length wiring.causes)) message.causes
    && are_apart message.causes

-- whether it is this line of the poster's script
abbrev pub is_line_of : Parts → ℕ → ℕ → Msg → Bool
is_line_of wiring actor index message = option_map_or (is_post message) (option_and_then (λ (p : PosterPart). slice_get p.posts index) (slice_get wiring.posters actor)) false

-- rule 1: it is the poster's next line, or the next post of an open poster
abbrev pub is_script_line : Parts → List Event → ℕ → ℕ → Msg → Bool
is_script_line wiring history actor index message =
    (index == posts_of_poster history actor)
    && (is_line_of wiring actor index message
    || option_map_or (λ ports. is_outside_post wiring ports message) (open_poster wiring actor) false)

-- the ports to which the task may post from outside, where its handler is open
abbrev pub open_ports : Parts → List Event → TaskId → Option (List ℕ)
open_ports wiring history task = option_and_then (λ (s : Placement). open_handler wiring s.branch.handler) (placement_of wiring history task)

-- whether it tells a failure to the exception port of one of these causes
abbrev pub is_exception : Parts → List ℕ → Msg → Bool
is_exception wiring causes message =
    same_lists (λ c d. c == d) message.causes []
    && list_any (λ cause. option_map_or (λ port. port == message.port) (exception_port wiring cause) false) causes

-- whether a task with these causes and ports may post it: to one of the ports with the causes, or a failure that it tells
abbrev pub is_open_post_with : Parts → List ℕ → List ℕ → Msg → Bool
is_open_post_with wiring causes ports message =
    is_value message.value
    && ((has_number ports message.port && same_lists (λ c d. c == d) message.causes causes)
    || is_exception wiring causes message)

-- whether a task of an open handler may post it: with the causes that it started with
abbrev pub is_open_post : Parts → List Event → TaskId → List ℕ → Msg → Bool
is_open_post wiring history task ports message = is_open_post_with wiring (load_of wiring history task).causes ports message

-- rule 2: it is the next post of the running task's play, or the next post of a running task of an open handler
abbrev pub is_play_post : Parts → List Event → TaskId → ℕ → Msg → Bool
is_play_post wiring history task index message =
    has_task (running history) task
    && (index == posts_of_task history task)
    && (option_map_or (is_post message) (slice_get (play_of wiring history task).posts index) false
    || option_map_or (λ ports. is_open_post wiring history task ports message) (open_ports wiring history task) false)

-- rule 3: tasks have made fewer posts than the budget
abbrev pub has_budget : Parts → List Event → Bool
has_budget wiring history = nat_lt (posts_of_tasks history) wiring.budget

-- rule 4: no task of this name fired, and its actor is at most 32
abbrev pub is_new : List Event → TaskId → Bool
is_new history task = not (has_task (fired history) task) && nat_le task.actor most_actors

-- rule 8: the tasks that a firing at the spot cuts
abbrev pub cuts_at : Parts → List Event → Spot → List TaskId
cuts_at wiring history (Branch branch) = option_map_or (λ (s : Placement). if is_teardown s.branch.group then waiting wiring history s.domain else []) (placement wiring branch) []
cuts_at wiring history (Site branch site) = []

-- whether the task is the first of the list
abbrev pub is_first : List TaskId → TaskId → Bool
is_first tasks task = option_map_or (same_task task) (slice_get tasks 0) false

-- rule 9: it is the oldest waiting task of its domain of Interleaves
abbrev pub is_oldest_waiting : Parts → List Event → TaskId → Bool
is_oldest_waiting wiring history task = option_map_or (λ (s : Placement). is_first (waiting wiring history s.domain) task) (placement_of wiring history task) false

-- whether a concurrent branch fired the task
abbrev pub is_concurrent_task : Parts → List Event → TaskId → Bool
is_concurrent_task wiring history task = option_map_or (λ (s : Placement). is_concurrent s.branch.group) (placement_of wiring history task) false

-- whether a task of the group may join these admitted roots: a concurrent one joins concurrent ones alone, any other none
abbrev pub may_join : Parts → List Event → Group → List TaskId → Bool
may_join wiring history group roots = if is_concurrent group then list_all (is_concurrent_task wiring history) roots else is_none_of roots

-- rule 10: it may join the roots of its domain that were admitted and aren't over
abbrev pub may_admit : Parts → List Event → TaskId → Bool
may_admit wiring history task =
    option_map_or (λ (s : Placement). may_join wiring history s.branch.group (admitted wiring history s.domain)) (placement_of wiring history task) false

-- whether tasks of the spot are put without an admission: those of sites, and of branches outside Interleaves
abbrev pub needs_no_admission : Parts → Spot → Bool
needs_no_admission wiring (Branch branch) = option_map_or (λ (s : Placement). not (is_interleave s.kind)) (placement wiring branch) false
needs_no_admission wiring (Site branch site) = true

-- rule 11: it fired, was neither put nor cut, and was admitted where it needs to be
abbrev pub may_put : Parts → List Event → TaskId → Bool
may_put wiring history task =
    not (has_task (put history) task)
    && not (has_task (cut history) task)
    && option_map_or (λ spot. needs_no_admission wiring spot || has_task (ever_admitted history) task) (spot_of history task) false

-- the oldest of the queued tasks, where a discard queue holds as many as its number or more
abbrev pub drop_by : Policy → List TaskId → Option TaskId
drop_by (Discard n) tasks = if nat_le n (length tasks) then slice_get tasks 0 else None
drop_by _ tasks = None

-- rule 12: the task that this put drops
abbrev pub drop_at : Parts → List Event → TaskId → Option TaskId
drop_at wiring history task = option_and_then (λ (s : Placement). drop_by (policy_of wiring s.branch.queue) (queued wiring history s.branch.queue)) (placement_of wiring history task)

-- rule 13: it is the oldest task of its queue
abbrev pub is_oldest_queued : Parts → List Event → TaskId → Bool
is_oldest_queued wiring history task = option_map_or (λ (s : Placement). is_first (queued wiring history s.branch.queue) task) (placement_of wiring history task) false

-- rule 14: the actor is no poster, is at most 32, and runs no task that it started
abbrev pub may_start : Parts → List Event → ℕ → Bool
may_start wiring history actor = is_behind_posters wiring actor && nat_le actor most_actors && is_none_of (running_by history actor)

-- whether the end is the one that the play asks for
abbrev pub ends_so : EndHow → PlayEnd → Bool
ends_so ends.Done plays.Done = true
ends_so (ends.Failed v) (plays.Failed u) = same_value v u
ends_so ends.Yield (plays.Yield site) = true
ends_so _ _ = false

-- whether the end is shed
abbrev pub is_shed : EndHow → Bool
is_shed ends.Shed = true
is_shed _ = false

-- whether the budget is used up by so many posts and one post for each other of so many tasks that have some left
abbrev pub is_used_up : ℕ → ℕ → ℕ → Bool
is_used_up budget posts tasks = nat_le budget (posts + (tasks - 1))

-- rule 16, shed: it has a post left to make, and the budget is used up by what tasks posted and one post for each other task that has some left
abbrev pub may_shed : Parts → List Event → TaskId → Bool
may_shed wiring history task = has_post_left wiring history task && is_used_up wiring.budget (posts_of_tasks history) (count_unfinished wiring history)

-- whether somebody outside may end so a task whose play ends so: done or failed at any time, as yield where an await comes next, never shed
abbrev pub may_choose : EndHow → PlayEnd → Bool
may_choose ends.Done end = true
may_choose (ends.Failed value) end = is_value value
may_choose ends.Yield end = ends_so ends.Yield end
may_choose ends.Shed end = false

-- rule 16: shed where it may be; else no post of its play is left and it ends as its play does, or as somebody outside chooses
abbrev pub may_end : Parts → List Event → TaskId → EndHow → Bool
may_end wiring history task how =
    if is_shed how then may_shed wiring history task
    else not (has_post_left wiring history task)
    && (ends_so how (play_of wiring history task).end
    || option_map_or (λ ports. may_choose how (play_of wiring history task).end) (open_ports wiring history task) false)

-- the number of the rule in docs/MODEL.md
abbrev pub number_of : Rule → ℕ
number_of rules.ScriptLine = 1
number_of rules.PlayPost = 2
number_of rules.Budget = 3
number_of rules.NewTask = 4
number_of rules.LiveSpot = 5
number_of rules.Selection = 6
number_of rules.Room = 7
number_of rules.DueCuts = 8
number_of rules.OldestWaiting = 9
number_of rules.Admission = 10
number_of rules.Ready = 11
number_of rules.DueDrop = 12
number_of rules.OldestQueued = 13
number_of rules.IdleActor = 14
number_of rules.Running = 15
number_of rules.Ending = 16

-- the rule, where its test fails; else what the other tests say
abbrev pub refused : Bool → Rule → Option Rule → Option Rule
refused true rule others = others
refused false rule others = Some rule

-- a post of a script is asked by rule 1, a post of a task by rules 2 and 3
abbrev pub refusal_of_post : Parts → List Event → Msg → MsgId → Option Rule
refusal_of_post wiring history message (Script actor index) = refused (is_script_line wiring history actor index message) rules.ScriptLine None
refusal_of_post wiring history message (Task task index) = refused (is_play_post wiring history task index message) rules.PlayPost (refused (has_budget wiring history) rules.Budget None)

-- the first rule that refuses the event after the history
abbrev pub refusal : Parts → List Event → Event → Option Rule
refusal wiring history (Post message) = refusal_of_post wiring history message message.id
refusal wiring history (Fire task spot messages cuts) =
    refused (is_new history task) rules.NewTask
    (refused (is_live wiring history spot) rules.LiveSpot
    (refused (is_selection wiring history spot messages) rules.Selection
    (refused (has_room wiring history spot) rules.Room
    (refused (same_lists same_task cuts (cuts_at wiring history spot)) rules.DueCuts None))))
refusal wiring history (Admit task) = refused (is_oldest_waiting wiring history task) rules.OldestWaiting (refused (may_admit wiring history task) rules.Admission None)
refusal wiring history (Put task dropped) = refused (may_put wiring history task) rules.Ready (refused (same_options same_task dropped (drop_at wiring history task)) rules.DueDrop None)
refusal wiring history (Start task actor) = refused (is_oldest_queued wiring history task) rules.OldestQueued (refused (may_start wiring history actor) rules.IdleActor None)
refusal wiring history (End task how) = refused (has_task (running history) task) rules.Running (refused (may_end wiring history task how) rules.Ending None)
