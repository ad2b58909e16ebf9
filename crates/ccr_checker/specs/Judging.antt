-- Which event the tables refuse: the rules of ccr_model, asked of the tables.
use Rattle.std.specs.Prelude.{ℕ, Bool, false, not, ◌==◌, ◌&&◌, ◌||◌, nat_le, Option, None, option_and_then, if◌then◌else◌}
use Rattle.std.specs.List.{slice_get}
use Rattle.std.specs.Option.{option_map_or}
use Rattle.ccr_base.specs.Bounds.{most_actors}
use Rattle.ccr_base.specs.declared.names.TaskId.{TaskId}
use Rattle.ccr_base.specs.declared.names.MsgId.{MsgId}
use Rattle.ccr_base.specs.declared.names.MsgId.TheVariants.{Script, Task}
use Rattle.ccr_base.specs.declared.messages.Msg.{Msg}
use Rattle.ccr_base.specs.Names.{same_task, same_lists, same_options}
use Rattle.ccr_wiring.specs.declared.parts.Parts.{Parts}
use Rattle.ccr_wiring.specs.declared.parts.PosterPart.{PosterPart}
use Rattle.ccr_wiring.specs.Actors.{is_behind_posters}
use Rattle.ccr_wiring.specs.Openness.{open_poster}
use Rattle.ccr_model.specs.declared.history.Event.{Event}
use Rattle.ccr_model.specs.declared.history.Event.TheVariants.{Post, Fire, Admit, Put, Start, End}
use Rattle.ccr_model.specs.declared.history.EndHow.{EndHow}
use Rattle.ccr_model.specs.declared.rule.Rule.{Rule}
use Rattle.ccr_model.specs.declared.rule.Rule.TheVariants as rules
use Rattle.ccr_model.specs.Rules.{is_post, is_line_of, is_outside_post, is_open_post_with, may_choose, ends_so, is_shed, is_used_up, refused}
use Rattle.ccr_ledger.specs.Books.{Books, number}
use Rattle.ccr_ledger.specs.Asked.{has_fired, lives, are_selected, room, cuts, waits_first, may_admit_task, is_ready, drops, queued_first, is_busy, runs, play_in, made_in, has_more, unfinished, budget_lasts, open_ports_kept}

-- rule 1: it is the poster's next line, or the next post of an open poster
abbrev pub is_next_line : Parts → Books → ℕ → ℕ → Msg → Bool
is_next_line wiring books actor index message =
    (index == number books.script_posts actor)
    && (is_line_of wiring actor index message
    || option_map_or (λ ports. is_outside_post wiring ports message) (open_poster wiring actor) false)

-- rule 2: it is the next post of the running task's play, or the next post of a running task of an open handler
abbrev pub is_next_post : Parts → Books → TaskId → ℕ → Msg → Bool
is_next_post wiring books task index message =
    runs books task
    && (index == made_in books task)
    && (option_map_or (is_post message) (slice_get (play_in books task).posts index) false
    || option_map_or (λ ports. is_open_post_with wiring (play_in books task).causes ports message) (open_ports_kept wiring books task) false)

-- rule 4: no task of this name fired, and its actor is at most 32
abbrev pub is_unused : Books → TaskId → Bool
is_unused books task = not (has_fired books task) && nat_le task.actor most_actors

-- rule 14: the actor is no poster, is at most 32, and runs no task that it started
abbrev pub is_idle : Parts → Books → ℕ → Bool
is_idle wiring books actor = is_behind_posters wiring actor && nat_le actor most_actors && not (is_busy books actor)

-- rule 16, shed: it has a post left to make, and the budget is used up by what tasks posted and one post for each other task that has some left
abbrev pub sheds : Parts → Books → TaskId → Bool
sheds wiring books task = has_more books task && is_used_up wiring.budget books.task_posts (unfinished books)

-- rule 16: shed where it may be; else no post of its play is left and it ends as its play does, or as somebody outside chooses
abbrev pub is_ending : Parts → Books → TaskId → EndHow → Bool
is_ending wiring books task how =
    if is_shed how then sheds wiring books task
    else not (has_more books task)
    && (ends_so how (play_in books task).end
    || option_map_or (λ ports. may_choose how (play_in books task).end) (open_ports_kept wiring books task) false)

-- a post of a script is asked by rule 1, a post of a task by rules 2 and 3
abbrev pub refusal_of_post_in : Parts → Books → Msg → MsgId → Option Rule
refusal_of_post_in wiring books message (Script actor index) = refused (is_next_line wiring books actor index message) rules.ScriptLine None
refusal_of_post_in wiring books message (Task task index) = refused (is_next_post wiring books task index message) rules.PlayPost (refused (budget_lasts wiring books) rules.Budget None)

-- the first rule that refuses the event by the tables
abbrev pub refusal_in : Parts → Books → Event → Option Rule
refusal_in wiring books (Post message) = refusal_of_post_in wiring books message message.id
refusal_in wiring books (Fire task spot messages cut) =
    refused (is_unused books task) rules.NewTask
    (refused (lives wiring books spot) rules.LiveSpot
    (refused (are_selected wiring books spot messages) rules.Selection
    (refused (room wiring books spot) rules.Room
    (refused (same_lists same_task cut (cuts wiring books spot)) rules.DueCuts None))))
refusal_in wiring books (Admit task) = refused (waits_first books task) rules.OldestWaiting (refused (may_admit_task books task) rules.Admission None)
refusal_in wiring books (Put task dropped) = refused (is_ready books task) rules.Ready (refused (same_options same_task dropped (drops wiring books task)) rules.DueDrop None)
refusal_in wiring books (Start task actor) = refused (queued_first books task) rules.OldestQueued (refused (is_idle wiring books actor) rules.IdleActor None)
refusal_in wiring books (End task how) = refused (runs books task) rules.Running (refused (is_ending wiring books task how) rules.Ending None)
