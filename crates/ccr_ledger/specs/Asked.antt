-- What the tables answer: each is a word of the model, asked of the tables.
use Rattle.std.specs.Prelude.{ℕ, Bool, true, false, not, ◌==◌, nat_lt, List, [], length, filter, Option, option_and_then, if◌then◌else◌}
use Rattle.std.specs.List.{list_any}
use Rattle.std.specs.Option.{option_map_or}
use Rattle.ccr_base.specs.declared.names.TaskId.{TaskId}
use Rattle.ccr_base.specs.declared.names.MsgId.{MsgId}
use Rattle.ccr_base.specs.declared.names.Spot.{Spot}
use Rattle.ccr_base.specs.declared.names.Spot.TheVariants.{Branch, Site}
use Rattle.ccr_base.specs.declared.messages.Msg.{Msg}
use Rattle.ccr_base.specs.declared.policies.Group.{Group}
use Rattle.ccr_base.specs.declared.policies.Group.TheVariants.{Once, Always, Choice}
use Rattle.ccr_base.specs.declared.policies.Policy.{Policy}
use Rattle.ccr_base.specs.declared.policies.Policy.TheVariants.{Throttle}
use Rattle.ccr_base.specs.Names.{same_task}
use Rattle.ccr_handler.specs.declared.segments.Play.{Play}
use Rattle.ccr_wiring.specs.declared.parts.Parts.{Parts}
use Rattle.ccr_wiring.specs.Openness.{open_handler}
use Rattle.ccr_wiring.specs.Wirings.{Placement, placement, site_port, policy_of, branch_of}
use Rattle.ccr_model.specs.TaskData.{no_play}
use Rattle.ccr_model.specs.Tasks.{is_teardown}
use Rattle.ccr_model.specs.Live.{is_none_of}
use Rattle.ccr_model.specs.Selection.{engine_selection_of, oldest, is_selection_of, are_oldest}
use Rattle.ccr_model.specs.Enough.{has_enough}
use Rattle.ccr_model.specs.Rules.{is_first, drop_by}
use Rattle.ccr_ledger.specs.Rows.{row}
use Rattle.ccr_ledger.specs.declared.cards.Card.{Card}
use Rattle.ccr_ledger.specs.declared.cards.Runner.{Runner}
use Rattle.ccr_ledger.specs.declared.cards.TaskStage.{TaskStage}
use Rattle.ccr_ledger.specs.declared.cards.TaskStage.TheVariants as stages
use Rattle.ccr_ledger.specs.Books.{Books, number, flag, card_at, suspended_at}

-- rule 4: whether the task fired
abbrev pub has_fired : Books → TaskId → Bool
has_fired books task = option_map_or (λ card. true) (card_at books.tasks task) false

-- rule 5: whether a branch of the group may fire once more
abbrev pub group_lives : Books → ℕ → ℕ → Group → Bool
group_lives books branch domain Always = true
group_lives books branch domain Once = not (flag books.spent branch)
group_lives books branch domain Choice = not (flag books.chosen domain)
group_lives books branch domain _ = not (flag books.torn domain)

-- whether the spot may fire once more
abbrev pub lives : Parts → Books → Spot → Bool
lives wiring books (Branch branch) = option_map_or (λ (s : Placement). group_lives books branch s.domain s.branch.group) (placement wiring branch) false
lives wiring books (Site branch site) = not (is_none_of (suspended_at books.suspended branch site))

-- rule 6: whether the ports hold enough for the spot
abbrev pub can_choose : Parts → Books → Spot → Bool
can_choose wiring books (Branch branch) = option_map_or (λ (s : Placement). has_enough (row books.ports) s.branch.pattern) (placement wiring branch) false
can_choose wiring books (Site branch site) = option_map_or (λ port. nat_lt 0 (length (row books.ports port))) (site_port wiring branch site) false

-- the selection that one thread makes at the spot
abbrev pub selection_at : Parts → Books → Spot → Option (List Msg)
selection_at wiring books (Branch branch) = option_and_then (λ (s : Placement). engine_selection_of (row books.ports) s.branch.pattern) (placement wiring branch)
selection_at wiring books (Site branch site) = option_and_then (λ port. oldest (row books.ports port)) (site_port wiring branch site)

-- whether the names are a selection at the spot
abbrev pub are_selected : Parts → Books → Spot → List MsgId → Bool
are_selected wiring books (Branch branch) names = option_map_or (λ (s : Placement). is_selection_of (row books.ports) s.branch.pattern names) (placement wiring branch) false
are_selected wiring books (Site branch site) names = option_map_or (λ port. are_oldest (row books.ports port) names) (site_port wiring branch site) false

-- rule 7: whether a queue of the policy lets a branch fire
abbrev pub queue_has_room : Books → ℕ → Policy → Bool
queue_has_room books queue (Throttle n) = nat_lt (number books.coming queue) n
queue_has_room books queue _ = true

-- whether the queue lets the spot fire
abbrev pub room : Parts → Books → Spot → Bool
room wiring books (Branch branch) = option_map_or (λ (s : Placement). queue_has_room books s.branch.queue (policy_of wiring s.branch.queue)) (placement wiring branch) true
room wiring books (Site branch site) = true

-- rule 8: the tasks that a firing at the spot cuts
abbrev pub cuts : Parts → Books → Spot → List TaskId
cuts wiring books (Branch branch) = option_map_or (λ (s : Placement). if is_teardown s.branch.group then row books.waiting s.domain else []) (placement wiring branch) []
cuts wiring books (Site branch site) = []

-- rule 9: whether the task is the oldest that waits in its domain
abbrev pub waits_first : Books → TaskId → Bool
waits_first books task = option_map_or (λ (card : Card). is_first (row books.waiting card.domain) task) (card_at books.tasks task) false

-- rule 10: whether the task of the card may be admitted
abbrev pub may_admit_card : Books → Card → Bool
may_admit_card books card = if card.concurrent then number books.alone card.domain == 0 else number books.admitted card.domain == 0

-- whether the task may be admitted; not one that never fired
abbrev pub may_admit_task : Books → TaskId → Bool
may_admit_task books task = option_map_or (may_admit_card books) (card_at books.tasks task) false

-- rule 11: whether the task may be put
abbrev pub is_ready_stage : TaskStage → Bool
is_ready_stage stages.Ready = true
is_ready_stage _ = false

-- whether the task may be put; not one that never fired
abbrev pub is_ready : Books → TaskId → Bool
is_ready books task = option_map_or (λ (card : Card). is_ready_stage card.stage) (card_at books.tasks task) false

-- rule 12: the task that a put of the task drops
abbrev pub drops : Parts → Books → TaskId → Option TaskId
drops wiring books task = option_and_then (λ (card : Card). drop_by (policy_of wiring card.queue) (row books.queued card.queue)) (card_at books.tasks task)

-- rule 13: whether the task is the oldest of its queue
abbrev pub queued_first : Books → TaskId → Bool
queued_first books task = option_map_or (λ (card : Card). is_first (row books.queued card.queue) task) (card_at books.tasks task) false

-- rule 14: whether the actor runs a task that it started
abbrev pub is_busy : Books → ℕ → Bool
is_busy books actor = list_any (λ (r : Runner). r.actor == actor) books.running

-- rule 15: whether the task runs
abbrev pub runs : Books → TaskId → Bool
runs books task = list_any (λ (r : Runner). same_task r.task task) books.running

-- the ports to which the task may post from outside, where its handler is open
abbrev pub open_ports_kept : Parts → Books → TaskId → Option (List ℕ)
open_ports_kept wiring books task =
    option_and_then (λ (card : Card). option_and_then (λ (s : Placement). open_handler wiring s.branch.handler) (placement wiring (branch_of card.spot))) (card_at books.tasks task)

-- the play of the task, and how many posts of it were made
abbrev pub play_in : Books → TaskId → Play
play_in books task = option_map_or (λ (card : Card). card.play) (card_at books.tasks task) no_play

-- how many posts the task made; none where it never fired
abbrev pub made_in : Books → TaskId → ℕ
made_in books task = option_map_or (λ (card : Card). card.made) (card_at books.tasks task) 0

-- whether a post of the task's play is left
abbrev pub has_more : Books → TaskId → Bool
has_more books task = option_map_or (λ (card : Card). nat_lt card.made (length card.play.posts)) (card_at books.tasks task) false

-- rule 16: how many running tasks have a post left
abbrev pub unfinished : Books → ℕ
unfinished books = length (filter (λ (r : Runner). has_more books r.task) books.running)

-- rule 3: whether tasks may post
abbrev pub budget_lasts : Parts → Books → Bool
budget_lasts wiring books = nat_lt books.task_posts wiring.budget
