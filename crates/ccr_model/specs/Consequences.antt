-- What follows for each legal history, as tests of one history. A law says that each passes after each legal history.
use Rattle.std.specs.Prelude.{ℕ, ◌+◌, Bool, true, not, ◌==◌, ◌&&◌, ◌||◌, nat_le, List, [], ◌∷◌, ◌++◌, length, filter}
use Rattle.std.specs.List.{list_any, list_all}
use Rattle.ccr_base.specs.declared.names.TaskId.{TaskId}
use Rattle.ccr_base.specs.declared.names.MsgId.{MsgId}
use Rattle.ccr_wiring.specs.declared.parts.Parts.{Parts}
use Rattle.ccr_wiring.specs.declared.parts.ArbiterPart.{ArbiterPart}
use Rattle.ccr_wiring.specs.declared.parts.QueuePart.{QueuePart}
use Rattle.ccr_wiring.specs.declared.parts.Kind.{Kind}
use Rattle.ccr_wiring.specs.declared.parts.Kind.TheVariants as kinds
use Rattle.ccr_wiring.specs.Groups.{is_once}
use Rattle.ccr_model.specs.declared.history.Event.{Event}
use Rattle.ccr_base.specs.Names.{same_task, has_task, has_message, same_lists, without}
use Rattle.ccr_model.specs.Posts.{taken}
use Rattle.ccr_model.specs.Firings.{cut, put, dropped, started}
use Rattle.ccr_model.specs.Sites.{root_of}
use Rattle.ccr_model.specs.Tasks.{fired_by, is_teardown, is_for_queue, queued, running, admitted, is_of_domain}
use Rattle.ccr_model.specs.Rules.{is_concurrent_task}

-- no name stands twice
abbrev pub are_distinct : List MsgId → Bool
are_distinct [] = true
are_distinct (name ∷ names) = not (has_message names name) && are_distinct names

-- no task stands twice
abbrev pub are_distinct_tasks : List TaskId → Bool
are_distinct_tasks [] = true
are_distinct_tasks (task ∷ tasks) = not (has_task tasks task) && are_distinct_tasks tasks

-- no task stands in both lists
abbrev pub have_none_common : List TaskId → List TaskId → Bool
have_none_common tasks others = not (list_any (has_task others) tasks)

-- fires at most once: a choice, a once receiver and the teardowns of a domain together
abbrev pub has_one_firing : Parts → List Event → ℕ → Kind → Bool
has_one_firing wiring history domain kinds.Receive = nat_le (length (fired_by wiring (λ s. (s.domain == domain) && is_once s.branch.group) history)) 1
has_one_firing wiring history domain kinds.Choice = nat_le (length (fired_by wiring (λ s. s.domain == domain) history)) 1
has_one_firing wiring history domain kinds.Interleave = nat_le (length (fired_by wiring (λ s. (s.domain == domain) && is_teardown s.branch.group) history)) 1

-- exclusion: of the admitted roots that aren't over, all are concurrent or there is one
abbrev pub keeps_exclusion : Parts → List Event → ℕ → Bool
keeps_exclusion wiring history domain = list_all (is_concurrent_task wiring history) (admitted wiring history domain) || nat_le (length (admitted wiring history domain)) 1

-- exclusion: who runs is a segment of such a root
abbrev pub run_admitted : Parts → List Event → ℕ → Bool
run_admitted wiring history domain = list_all (λ task. has_task (admitted wiring history domain) (root_of history task)) (filter (is_of_domain wiring history domain) (running history))

-- whether the task is a segment of a root that a teardown branch fired
abbrev pub is_teardown_task : Parts → List Event → TaskId → Bool
is_teardown_task wiring history task = list_any (same_task (root_of history task)) (fired_by wiring (λ s. is_teardown s.branch.group) history)

-- after teardown: whether after a task that passes all pass
abbrev pub stay_last : (TaskId → Bool) → List TaskId → Bool
stay_last test [] = true
stay_last test (task ∷ tasks) = (not (test task) || list_all test tasks) && stay_last test tasks

-- after a teardown's firing no other branch of the domain fires, and once a segment of it started no task of another root starts
abbrev pub ends_by_teardown : Parts → List Event → ℕ → Bool
ends_by_teardown wiring history domain =
    stay_last (is_teardown_task wiring history) (fired_by wiring (λ s. s.domain == domain) history)
    && stay_last (is_teardown_task wiring history) (filter (is_of_domain wiring history domain) (started history))

-- the domains, by the numbers of the arbiters, of which the first has this one, fire and admit as they should
abbrev pub are_kept_from : Parts → List Event → ℕ → List ArbiterPart → Bool
are_kept_from wiring history number [] = true
are_kept_from wiring history number (arbiter ∷ arbiters) =
    has_one_firing wiring history number arbiter.kind
    && keeps_exclusion wiring history number
    && are_kept_from wiring history (number + 1) arbiters

-- in each of the domains of Interleaves only admitted roots run, and a teardown ends it
abbrev pub are_interleaved_from : Parts → List Event → ℕ → List ArbiterPart → Bool
are_interleaved_from wiring history number [] = true
are_interleaved_from wiring history number (arbiter ∷ arbiters) = interleaved arbiter.kind && are_interleaved_from wiring history (number + 1) arbiters
  where
    interleaved : Kind → Bool
    interleaved kinds.Interleave = run_admitted wiring history number && ends_by_teardown wiring history number
    interleaved _ = true

-- start order: what started and what is queued are what was put and not dropped, in the order of the puts
abbrev pub is_in_order : Parts → List Event → ℕ → Bool
is_in_order wiring history queue =
    same_lists same_task
    (filter (is_for_queue wiring history queue) (started history) ++ queued wiring history queue)
    (filter (is_for_queue wiring history queue) (without (put history) (dropped history)))

-- each of the queues, of which the first has this number, starts its tasks in the order of their puts
abbrev pub are_in_order_from : Parts → List Event → ℕ → List QueuePart → Bool
are_in_order_from wiring history number [] = true
are_in_order_from wiring history number (queue ∷ queues) = is_in_order wiring history number && are_in_order_from wiring history (number + 1) queues

-- all of these after one history
abbrev pub keeps_laws : Parts → List Event → Bool
keeps_laws wiring history =
    are_distinct (taken history) && are_kept_from wiring history 0 wiring.arbiters && are_interleaved_from wiring history 0 wiring.arbiters
    && have_none_common (started history) (cut history) && have_none_common (started history) (dropped history)
    && are_distinct_tasks (dropped history) && are_in_order_from wiring history 0 wiring.queues

-- after each of the events
abbrev pub keeps_laws_along : Parts → List Event → List Event → Bool
keeps_laws_along wiring past [] = keeps_laws wiring past
keeps_laws_along wiring past (event ∷ events) = keeps_laws wiring past && keeps_laws_along wiring (past ++ event ∷ []) events
