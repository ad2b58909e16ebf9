-- Wrong events, each with its index and the rule that refuses it; fates and totals of the worked runs. The names say what each shows.
use Rattle.std.proofs.Common.{◌≡◌, [], ◌∷◌, Some, None, refl}
use Rattle.ccr_base.specs.declared.names.MsgId.TheVariants.{Script, Task}
use Rattle.ccr_base.specs.declared.names.Spot.TheVariants.{Branch, Site}
use Rattle.ccr_model.specs.declared.history.Event.TheVariants.{Post, Fire, Admit, Put, Start, End}
use Rattle.ccr_model.specs.declared.history.EndHow.TheVariants as ends
use Rattle.ccr_model.specs.declared.rule.Rule.TheVariants as rules
use Rattle.ccr_model.specs.declared.history.Fate.TheVariants as fates
use Rattle.ccr_model.specs.declared.history.TaskState.TheVariants as states
use Rattle.ccr_model.specs.Fates.{fate}
use Rattle.ccr_model.specs.Counts.{totals}
use Rattle.ccr_model.proofs.WorkedParts.{task, message}
use Rattle.ccr_model.proofs.WorkedRuns.{no_posts_wiring, no_posts_history, one_post_wiring, one_post_history, once_keeps_second_wiring, once_keeps_second_history, predicate_history, join_history, choice_wiring, choice_history, gather_wiring, gather_history, discard_wiring, discard_history, throttle_wiring, throttle_history, portset_history}
use Rattle.ccr_model.proofs.WorkedTasks.{interleave_groups_wiring, interleave_groups_history, teardown_cuts_wiring, teardown_cuts_history, budget_shed_wiring, budget_shed_history, causes_shed_history, await_wiring, await_history, await_teardown_waits_wiring, await_teardown_waits_history, cause_lists_history, sum_wraps_history, second_task_shed_wiring, causes_failed_history}
use Rattle.ccr_model.specs.Legal.{first_refusal}

value_not_the_posters : first_refusal one_post_wiring [] 0 (Post (message (Script 0 0) 0 8 ([])) ∷ Fire (task 1 0) (Branch 0) ((Script 0 0) ∷ []) ([]) ∷ Put (task 1 0) None ∷ Start (task 1 0) 1 ∷ End (task 1 0) ends.Done ∷ []) ≡ Some (0, rules.ScriptLine)
value_not_the_posters = refl

message_not_posted : first_refusal one_post_wiring [] 0 (Post (message (Script 0 0) 0 7 ([])) ∷ Fire (task 1 0) (Branch 0) ((Script 0 1) ∷ []) ([]) ∷ Put (task 1 0) None ∷ Start (task 1 0) 1 ∷ End (task 1 0) ends.Done ∷ []) ≡ Some (1, rules.Selection)
message_not_posted = refl

task_of_actor_33 : first_refusal one_post_wiring [] 0 (Post (message (Script 0 0) 0 7 ([])) ∷ Fire (task 33 0) (Branch 0) ((Script 0 0) ∷ []) ([]) ∷ Put (task 1 0) None ∷ Start (task 1 0) 1 ∷ End (task 1 0) ends.Done ∷ []) ≡ Some (1, rules.NewTask)
task_of_actor_33 = refl

cut_without_teardown : first_refusal one_post_wiring [] 0 (Post (message (Script 0 0) 0 7 ([])) ∷ Fire (task 1 0) (Branch 0) ((Script 0 0) ∷ []) ((task 1 0) ∷ []) ∷ Put (task 1 0) None ∷ Start (task 1 0) 1 ∷ End (task 1 0) ends.Done ∷ []) ≡ Some (1, rules.DueCuts)
cut_without_teardown = refl

fire_twice : first_refusal one_post_wiring [] 0 (Post (message (Script 0 0) 0 7 ([])) ∷ Fire (task 1 0) (Branch 0) ((Script 0 0) ∷ []) ([]) ∷ Fire (task 1 0) (Branch 0) ((Script 0 0) ∷ []) ([]) ∷ Put (task 1 0) None ∷ Start (task 1 0) 1 ∷ End (task 1 0) ends.Done ∷ []) ≡ Some (2, rules.NewTask)
fire_twice = refl

fire_missing : first_refusal one_post_wiring [] 0 (Post (message (Script 0 0) 0 7 ([])) ∷ Put (task 1 0) None ∷ Start (task 1 0) 1 ∷ End (task 1 0) ends.Done ∷ []) ≡ Some (1, rules.Ready)
fire_missing = refl

admit_without_interleave : first_refusal one_post_wiring [] 0 (Post (message (Script 0 0) 0 7 ([])) ∷ Fire (task 1 0) (Branch 0) ((Script 0 0) ∷ []) ([]) ∷ Admit (task 1 0) ∷ Put (task 1 0) None ∷ Start (task 1 0) 1 ∷ End (task 1 0) ends.Done ∷ []) ≡ Some (2, rules.OldestWaiting)
admit_without_interleave = refl

drop_without_discard : first_refusal one_post_wiring [] 0 (Post (message (Script 0 0) 0 7 ([])) ∷ Fire (task 1 0) (Branch 0) ((Script 0 0) ∷ []) ([]) ∷ Put (task 1 0) (Some (task 1 0)) ∷ Start (task 1 0) 1 ∷ End (task 1 0) ends.Done ∷ []) ≡ Some (2, rules.DueDrop)
drop_without_discard = refl

poster_starts : first_refusal one_post_wiring [] 0 (Post (message (Script 0 0) 0 7 ([])) ∷ Fire (task 1 0) (Branch 0) ((Script 0 0) ∷ []) ([]) ∷ Put (task 1 0) None ∷ Start (task 1 0) 0 ∷ End (task 1 0) ends.Done ∷ []) ≡ Some (3, rules.IdleActor)
poster_starts = refl

shed_without_posts : first_refusal one_post_wiring [] 0 (Post (message (Script 0 0) 0 7 ([])) ∷ Fire (task 1 0) (Branch 0) ((Script 0 0) ∷ []) ([]) ∷ Put (task 1 0) None ∷ Start (task 1 0) 1 ∷ End (task 1 0) ends.Shed ∷ []) ≡ Some (4, rules.Ending)
shed_without_posts = refl

end_twice : first_refusal one_post_wiring [] 0 (Post (message (Script 0 0) 0 7 ([])) ∷ Fire (task 1 0) (Branch 0) ((Script 0 0) ∷ []) ([]) ∷ Put (task 1 0) None ∷ Start (task 1 0) 1 ∷ End (task 1 0) ends.Done ∷ End (task 1 0) ends.Done ∷ []) ≡ Some (5, rules.Running)
end_twice = refl

once_receiver_fires_again : first_refusal once_keeps_second_wiring [] 0 (Post (message (Script 0 0) 0 7 ([])) ∷ Post (message (Script 0 1) 0 8 ([])) ∷ Fire (task 1 0) (Branch 0) ((Script 0 0) ∷ []) ([]) ∷ Fire (task 1 1) (Branch 0) ((Script 0 1) ∷ []) ([]) ∷ []) ≡ Some (3, rules.LiveSpot)
once_receiver_fires_again = refl

second_branch_of_a_choice : first_refusal choice_wiring [] 0 (Post (message (Script 0 0) 0 1 ([])) ∷ Post (message (Script 0 1) 1 2 ([])) ∷ Fire (task 1 0) (Branch 0) ((Script 0 0) ∷ []) ([]) ∷ Fire (task 1 1) (Branch 1) ((Script 0 1) ∷ []) ([]) ∷ []) ≡ Some (3, rules.LiveSpot)
second_branch_of_a_choice = refl

throttle_full_of_a_task_on_its_way : first_refusal throttle_wiring [] 0 (Post (message (Script 0 0) 0 1 ([])) ∷ Post (message (Script 0 1) 0 2 ([])) ∷ Post (message (Script 0 2) 0 3 ([])) ∷ Fire (task 1 0) (Branch 0) ((Script 0 0) ∷ []) ([]) ∷ Fire (task 1 1) (Branch 0) ((Script 0 1) ∷ []) ([]) ∷ []) ≡ Some (4, rules.Room)
throttle_full_of_a_task_on_its_way = refl

throttle_full_of_a_queued_task : first_refusal throttle_wiring [] 0 (Post (message (Script 0 0) 0 1 ([])) ∷ Post (message (Script 0 1) 0 2 ([])) ∷ Post (message (Script 0 2) 0 3 ([])) ∷ Fire (task 1 0) (Branch 0) ((Script 0 0) ∷ []) ([]) ∷ Put (task 1 0) None ∷ Fire (task 1 1) (Branch 0) ((Script 0 1) ∷ []) ([]) ∷ []) ≡ Some (5, rules.Room)
throttle_full_of_a_queued_task = refl

exclusive_beside_concurrent : first_refusal interleave_groups_wiring [] 0 (Post (message (Script 0 0) 0 1 ([])) ∷ Post (message (Script 0 1) 1 2 ([])) ∷ Post (message (Script 0 2) 2 3 ([])) ∷ Fire (task 1 0) (Branch 0) ((Script 0 0) ∷ []) ([]) ∷ Fire (task 1 1) (Branch 1) ((Script 0 1) ∷ []) ([]) ∷ Fire (task 1 2) (Branch 2) ((Script 0 2) ∷ []) ([]) ∷ Admit (task 1 0) ∷ Put (task 1 0) None ∷ Start (task 1 0) 1 ∷ Admit (task 1 1) ∷ []) ≡ Some (9, rules.Admission)
exclusive_beside_concurrent = refl

newest_starts_first : first_refusal discard_wiring [] 0 (Post (message (Script 0 0) 0 1 ([])) ∷ Post (message (Script 0 1) 0 2 ([])) ∷ Post (message (Script 0 2) 0 3 ([])) ∷ Post (message (Script 0 3) 0 4 ([])) ∷ Fire (task 1 0) (Branch 0) ((Script 0 0) ∷ []) ([]) ∷ Fire (task 1 1) (Branch 0) ((Script 0 1) ∷ []) ([]) ∷ Fire (task 1 2) (Branch 0) ((Script 0 2) ∷ []) ([]) ∷ Fire (task 1 3) (Branch 0) ((Script 0 3) ∷ []) ([]) ∷ Put (task 1 0) None ∷ Put (task 1 1) None ∷ Put (task 1 2) (Some (task 1 0)) ∷ Put (task 1 3) (Some (task 1 1)) ∷ Start (task 1 3) 1 ∷ []) ≡ Some (12, rules.OldestQueued)
newest_starts_first = refl

task_posts_another_value : first_refusal budget_shed_wiring [] 0 (Post (message (Script 0 0) 0 5 ([])) ∷ Fire (task 1 0) (Branch 0) ((Script 0 0) ∷ []) ([]) ∷ Put (task 1 0) None ∷ Start (task 1 0) 1 ∷ Post (message (Task (task 1 0) 0) 0 6 ([])) ∷ []) ≡ Some (4, rules.PlayPost)
task_posts_another_value = refl

task_posts_out_of_turn : first_refusal budget_shed_wiring [] 0 (Post (message (Script 0 0) 0 5 ([])) ∷ Fire (task 1 0) (Branch 0) ((Script 0 0) ∷ []) ([]) ∷ Put (task 1 0) None ∷ Start (task 1 0) 1 ∷ Post (message (Task (task 1 0) 1) 0 5 ([])) ∷ []) ≡ Some (4, rules.PlayPost)
task_posts_out_of_turn = refl

task_posts_before_its_start : first_refusal budget_shed_wiring [] 0 (Post (message (Script 0 0) 0 5 ([])) ∷ Fire (task 1 0) (Branch 0) ((Script 0 0) ∷ []) ([]) ∷ Put (task 1 0) None ∷ Start (task 1 0) 1 ∷ Post (message (Task (task 1 0) 0) 0 5 ([])) ∷ Fire (task 1 1) (Branch 0) ((Task (task 1 0) 0) ∷ []) ([]) ∷ Put (task 1 1) None ∷ End (task 1 0) ends.Done ∷ Start (task 1 1) 1 ∷ Post (message (Task (task 1 1) 0) 0 5 ([])) ∷ Fire (task 1 2) (Branch 0) ((Task (task 1 1) 0) ∷ []) ([]) ∷ Put (task 1 2) None ∷ End (task 1 1) ends.Done ∷ Start (task 1 2) 1 ∷ Post (message (Task (task 1 2) 0) 0 5 ([])) ∷ Fire (task 1 3) (Branch 0) ((Task (task 1 2) 0) ∷ []) ([]) ∷ Put (task 1 3) None ∷ End (task 1 2) ends.Done ∷ Post (message (Task (task 1 3) 0) 0 5 ([])) ∷ []) ≡ Some (18, rules.PlayPost)
task_posts_before_its_start = refl

task_posts_beyond_the_budget : first_refusal budget_shed_wiring [] 0 (Post (message (Script 0 0) 0 5 ([])) ∷ Fire (task 1 0) (Branch 0) ((Script 0 0) ∷ []) ([]) ∷ Put (task 1 0) None ∷ Start (task 1 0) 1 ∷ Post (message (Task (task 1 0) 0) 0 5 ([])) ∷ Fire (task 1 1) (Branch 0) ((Task (task 1 0) 0) ∷ []) ([]) ∷ Put (task 1 1) None ∷ End (task 1 0) ends.Done ∷ Start (task 1 1) 1 ∷ Post (message (Task (task 1 1) 0) 0 5 ([])) ∷ Fire (task 1 2) (Branch 0) ((Task (task 1 1) 0) ∷ []) ([]) ∷ Put (task 1 2) None ∷ End (task 1 1) ends.Done ∷ Start (task 1 2) 1 ∷ Post (message (Task (task 1 2) 0) 0 5 ([])) ∷ Fire (task 1 3) (Branch 0) ((Task (task 1 2) 0) ∷ []) ([]) ∷ Put (task 1 3) None ∷ End (task 1 2) ends.Done ∷ Start (task 1 3) 1 ∷ Post (message (Task (task 1 3) 0) 0 5 ([])) ∷ []) ≡ Some (19, rules.Budget)
task_posts_beyond_the_budget = refl

shed_with_budget_left : first_refusal budget_shed_wiring [] 0 (Post (message (Script 0 0) 0 5 ([])) ∷ Fire (task 1 0) (Branch 0) ((Script 0 0) ∷ []) ([]) ∷ Put (task 1 0) None ∷ Start (task 1 0) 1 ∷ End (task 1 0) ends.Shed ∷ []) ≡ Some (4, rules.Ending)
shed_with_budget_left = refl

done_with_a_post_left : first_refusal budget_shed_wiring [] 0 (Post (message (Script 0 0) 0 5 ([])) ∷ Fire (task 1 0) (Branch 0) ((Script 0 0) ∷ []) ([]) ∷ Put (task 1 0) None ∷ Start (task 1 0) 1 ∷ End (task 1 0) ends.Done ∷ []) ≡ Some (4, rules.Ending)
done_with_a_post_left = refl

gather_of_the_newer_first : first_refusal gather_wiring [] 0 (Post (message (Script 0 0) 0 1 ([])) ∷ Post (message (Script 0 1) 1 2 ([])) ∷ Post (message (Script 0 2) 1 3 ([])) ∷ Post (message (Script 0 3) 0 4 ([])) ∷ Fire (task 1 0) (Branch 0) ((Script 0 3) ∷ (Script 0 0) ∷ (Script 0 1) ∷ []) ([]) ∷ []) ≡ Some (4, rules.Selection)
gather_of_the_newer_first = refl

gather_of_the_second_port_first : first_refusal gather_wiring [] 0 (Post (message (Script 0 0) 0 1 ([])) ∷ Post (message (Script 0 1) 1 2 ([])) ∷ Post (message (Script 0 2) 1 3 ([])) ∷ Post (message (Script 0 3) 0 4 ([])) ∷ Fire (task 1 0) (Branch 0) ((Script 0 1) ∷ (Script 0 2) ∷ (Script 0 0) ∷ []) ([]) ∷ []) ≡ Some (4, rules.Selection)
gather_of_the_second_port_first = refl

gather_of_too_few : first_refusal gather_wiring [] 0 (Post (message (Script 0 0) 0 1 ([])) ∷ Post (message (Script 0 1) 1 2 ([])) ∷ Post (message (Script 0 2) 1 3 ([])) ∷ Post (message (Script 0 3) 0 4 ([])) ∷ Fire (task 1 0) (Branch 0) ((Script 0 0) ∷ (Script 0 3) ∷ []) ([]) ∷ []) ≡ Some (4, rules.Selection)
gather_of_too_few = refl

teardown_cuts_one_of_two : first_refusal teardown_cuts_wiring [] 0 (Post (message (Script 0 0) 0 1 ([])) ∷ Post (message (Script 0 1) 0 2 ([])) ∷ Post (message (Script 0 2) 1 3 ([])) ∷ Fire (task 1 0) (Branch 0) ((Script 0 0) ∷ []) ([]) ∷ Fire (task 1 1) (Branch 0) ((Script 0 1) ∷ []) ([]) ∷ Fire (task 1 2) (Branch 1) ((Script 0 2) ∷ []) ((task 1 0) ∷ []) ∷ []) ≡ Some (5, rules.DueCuts)
teardown_cuts_one_of_two = refl

teardown_cuts_nothing : first_refusal teardown_cuts_wiring [] 0 (Post (message (Script 0 0) 0 1 ([])) ∷ Post (message (Script 0 1) 0 2 ([])) ∷ Post (message (Script 0 2) 1 3 ([])) ∷ Fire (task 1 0) (Branch 0) ((Script 0 0) ∷ []) ([]) ∷ Fire (task 1 1) (Branch 0) ((Script 0 1) ∷ []) ([]) ∷ Fire (task 1 2) (Branch 1) ((Script 0 2) ∷ []) ([]) ∷ []) ≡ Some (5, rules.DueCuts)
teardown_cuts_nothing = refl

cut_task_is_put : first_refusal teardown_cuts_wiring [] 0 (Post (message (Script 0 0) 0 1 ([])) ∷ Post (message (Script 0 1) 0 2 ([])) ∷ Post (message (Script 0 2) 1 3 ([])) ∷ Fire (task 1 0) (Branch 0) ((Script 0 0) ∷ []) ([]) ∷ Fire (task 1 1) (Branch 0) ((Script 0 1) ∷ []) ([]) ∷ Fire (task 1 2) (Branch 1) ((Script 0 2) ∷ []) ((task 1 0) ∷ (task 1 1) ∷ []) ∷ Put (task 1 0) None ∷ []) ≡ Some (6, rules.Ready)
cut_task_is_put = refl

done_at_an_await : first_refusal await_wiring [] 0 (Post (message (Script 0 0) 0 1 ([])) ∷ Post (message (Script 0 1) 2 2 ([])) ∷ Post (message (Script 0 2) 1 3 ([])) ∷ Fire (task 1 0) (Branch 0) ((Script 0 0) ∷ []) ([]) ∷ Fire (task 1 1) (Branch 1) ((Script 0 1) ∷ []) ([]) ∷ Admit (task 1 0) ∷ Put (task 1 0) None ∷ Start (task 1 0) 1 ∷ End (task 1 0) ends.Done ∷ []) ≡ Some (8, rules.Ending)
done_at_an_await = refl

resumed_before_its_yield : first_refusal await_wiring [] 0 (Post (message (Script 0 0) 0 1 ([])) ∷ Post (message (Script 0 1) 2 2 ([])) ∷ Post (message (Script 0 2) 1 3 ([])) ∷ Fire (task 1 0) (Branch 0) ((Script 0 0) ∷ []) ([]) ∷ Fire (task 1 1) (Branch 1) ((Script 0 1) ∷ []) ([]) ∷ Admit (task 1 0) ∷ Put (task 1 0) None ∷ Start (task 1 0) 1 ∷ Fire (task 1 2) (Site 0 0) ((Script 0 2) ∷ []) ([]) ∷ []) ≡ Some (8, rules.LiveSpot)
resumed_before_its_yield = refl

resumed_by_a_message_of_another_port : first_refusal await_wiring [] 0 (Post (message (Script 0 0) 0 1 ([])) ∷ Post (message (Script 0 1) 2 2 ([])) ∷ Post (message (Script 0 2) 1 3 ([])) ∷ Fire (task 1 0) (Branch 0) ((Script 0 0) ∷ []) ([]) ∷ Fire (task 1 1) (Branch 1) ((Script 0 1) ∷ []) ([]) ∷ Admit (task 1 0) ∷ Put (task 1 0) None ∷ Start (task 1 0) 1 ∷ End (task 1 0) ends.Yield ∷ Fire (task 1 2) (Site 0 0) ((Script 0 1) ∷ []) ([]) ∷ []) ≡ Some (9, rules.Selection)
resumed_by_a_message_of_another_port = refl

concurrent_beside_a_suspended_exclusive : first_refusal await_wiring [] 0 (Post (message (Script 0 0) 0 1 ([])) ∷ Post (message (Script 0 1) 2 2 ([])) ∷ Post (message (Script 0 2) 1 3 ([])) ∷ Fire (task 1 0) (Branch 0) ((Script 0 0) ∷ []) ([]) ∷ Fire (task 1 1) (Branch 1) ((Script 0 1) ∷ []) ([]) ∷ Admit (task 1 0) ∷ Put (task 1 0) None ∷ Start (task 1 0) 1 ∷ End (task 1 0) ends.Yield ∷ Admit (task 1 1) ∷ []) ≡ Some (9, rules.Admission)
concurrent_beside_a_suspended_exclusive = refl

teardown_beside_a_suspended_exclusive : first_refusal await_teardown_waits_wiring [] 0 (Post (message (Script 0 0) 0 1 ([])) ∷ Fire (task 1 0) (Branch 0) ((Script 0 0) ∷ []) ([]) ∷ Admit (task 1 0) ∷ Put (task 1 0) None ∷ Start (task 1 0) 1 ∷ Post (message (Task (task 1 0) 0) 2 1 ([])) ∷ Fire (task 1 1) (Branch 1) ((Task (task 1 0) 0) ∷ []) ([]) ∷ End (task 1 0) ends.Yield ∷ Admit (task 1 1) ∷ []) ≡ Some (8, rules.Admission)
teardown_beside_a_suspended_exclusive = refl

full_queue_drops_nothing : first_refusal discard_wiring [] 0 (Post (message (Script 0 0) 0 1 ([])) ∷ Post (message (Script 0 1) 0 2 ([])) ∷ Post (message (Script 0 2) 0 3 ([])) ∷ Post (message (Script 0 3) 0 4 ([])) ∷ Fire (task 1 0) (Branch 0) ((Script 0 0) ∷ []) ([]) ∷ Fire (task 1 1) (Branch 0) ((Script 0 1) ∷ []) ([]) ∷ Fire (task 1 2) (Branch 0) ((Script 0 2) ∷ []) ([]) ∷ Fire (task 1 3) (Branch 0) ((Script 0 3) ∷ []) ([]) ∷ Put (task 1 0) None ∷ Put (task 1 1) None ∷ Put (task 1 2) None ∷ []) ≡ Some (10, rules.DueDrop)
full_queue_drops_nothing = refl

full_queue_drops_the_newer : first_refusal discard_wiring [] 0 (Post (message (Script 0 0) 0 1 ([])) ∷ Post (message (Script 0 1) 0 2 ([])) ∷ Post (message (Script 0 2) 0 3 ([])) ∷ Post (message (Script 0 3) 0 4 ([])) ∷ Fire (task 1 0) (Branch 0) ((Script 0 0) ∷ []) ([]) ∷ Fire (task 1 1) (Branch 0) ((Script 0 1) ∷ []) ([]) ∷ Fire (task 1 2) (Branch 0) ((Script 0 2) ∷ []) ([]) ∷ Fire (task 1 3) (Branch 0) ((Script 0 3) ∷ []) ([]) ∷ Put (task 1 0) None ∷ Put (task 1 1) None ∷ Put (task 1 2) (Some (task 1 1)) ∷ []) ≡ Some (10, rules.DueDrop)
full_queue_drops_the_newer = refl

drop_below_the_limit : first_refusal discard_wiring [] 0 (Post (message (Script 0 0) 0 1 ([])) ∷ Post (message (Script 0 1) 0 2 ([])) ∷ Post (message (Script 0 2) 0 3 ([])) ∷ Post (message (Script 0 3) 0 4 ([])) ∷ Fire (task 1 0) (Branch 0) ((Script 0 0) ∷ []) ([]) ∷ Fire (task 1 1) (Branch 0) ((Script 0 1) ∷ []) ([]) ∷ Fire (task 1 2) (Branch 0) ((Script 0 2) ∷ []) ([]) ∷ Fire (task 1 3) (Branch 0) ((Script 0 3) ∷ []) ([]) ∷ Put (task 1 0) None ∷ Put (task 1 1) (Some (task 1 0)) ∷ []) ≡ Some (9, rules.DueDrop)
drop_below_the_limit = refl

start_of_no_task : first_refusal no_posts_wiring [] 0 (Start (task 1 0) 1 ∷ []) ≡ Some (0, rules.OldestQueued)
start_of_no_task = refl

end_of_no_task : first_refusal no_posts_wiring [] 0 (End (task 1 0) ends.Done ∷ []) ≡ Some (0, rules.Running)
end_of_no_task = refl

fire_of_an_empty_port : first_refusal no_posts_wiring [] 0 (Fire (task 1 0) (Branch 0) ((Script 0 0) ∷ []) ([]) ∷ []) ≡ Some (0, rules.Selection)
fire_of_an_empty_port = refl

second_shed_with_budget_left : first_refusal second_task_shed_wiring [] 0 (Post (message (Script 0 0) 0 1 ([])) ∷ Post (message (Script 0 1) 0 2 ([])) ∷ Fire (task 1 0) (Branch 0) ((Script 0 0) ∷ []) ([]) ∷ Fire (task 1 1) (Branch 0) ((Script 0 1) ∷ []) ([]) ∷ Put (task 1 0) None ∷ Put (task 1 1) None ∷ Start (task 1 0) 1 ∷ Start (task 1 1) 2 ∷ End (task 1 0) ends.Shed ∷ End (task 1 1) ends.Shed ∷ []) ≡ Some (9, rules.Ending)
second_shed_with_budget_left = refl

start_of_a_running_task : first_refusal second_task_shed_wiring [] 0 (Post (message (Script 0 0) 0 1 ([])) ∷ Post (message (Script 0 1) 0 2 ([])) ∷ Fire (task 1 0) (Branch 0) ((Script 0 0) ∷ []) ([]) ∷ Fire (task 1 1) (Branch 0) ((Script 0 1) ∷ []) ([]) ∷ Put (task 1 0) None ∷ Put (task 1 1) None ∷ Start (task 1 0) 1 ∷ Start (task 1 1) 2 ∷ Start (task 1 1) 3 ∷ []) ≡ Some (8, rules.OldestQueued)
start_of_a_running_task = refl

allowed_shed_while_another_may_spend_the_budget : first_refusal second_task_shed_wiring [] 0 (Post (message (Script 0 0) 0 1 ([])) ∷ Post (message (Script 0 1) 0 2 ([])) ∷ Fire (task 1 0) (Branch 0) ((Script 0 0) ∷ []) ([]) ∷ Fire (task 1 1) (Branch 0) ((Script 0 1) ∷ []) ([]) ∷ Put (task 1 0) None ∷ Put (task 1 1) None ∷ Start (task 1 0) 1 ∷ Start (task 1 1) 2 ∷ End (task 1 0) ends.Shed ∷ Post (message (Task (task 1 1) 0) 1 1 ([])) ∷ End (task 1 1) ends.Done ∷ []) ≡ None
allowed_shed_while_another_may_spend_the_budget = refl

allowed_shed_once_the_budget_is_spent : first_refusal second_task_shed_wiring [] 0 (Post (message (Script 0 0) 0 1 ([])) ∷ Post (message (Script 0 1) 0 2 ([])) ∷ Fire (task 1 0) (Branch 0) ((Script 0 0) ∷ []) ([]) ∷ Fire (task 1 1) (Branch 0) ((Script 0 1) ∷ []) ([]) ∷ Put (task 1 0) None ∷ Put (task 1 1) None ∷ Start (task 1 0) 1 ∷ Start (task 1 1) 2 ∷ Post (message (Task (task 1 0) 0) 1 1 ([])) ∷ End (task 1 1) ends.Shed ∷ End (task 1 0) ends.Done ∷ []) ≡ None
allowed_shed_once_the_budget_is_spent = refl

post_twice : first_refusal one_post_wiring [] 0 (Post (message (Script 0 0) 0 7 ([])) ∷ Post (message (Script 0 0) 0 7 ([])) ∷ []) ≡ Some (1, rules.ScriptLine)
post_twice = refl

post_of_no_poster : first_refusal one_post_wiring [] 0 (Post (message (Script 1 0) 0 7 ([])) ∷ []) ≡ Some (0, rules.ScriptLine)
post_of_no_poster = refl

put_twice : first_refusal one_post_wiring [] 0 (Post (message (Script 0 0) 0 7 ([])) ∷ Fire (task 1 0) (Branch 0) ((Script 0 0) ∷ []) ([]) ∷ Put (task 1 0) None ∷ Put (task 1 0) None ∷ []) ≡ Some (3, rules.Ready)
put_twice = refl

put_before_its_admission : first_refusal interleave_groups_wiring [] 0 (Post (message (Script 0 0) 0 1 ([])) ∷ Post (message (Script 0 1) 1 2 ([])) ∷ Post (message (Script 0 2) 2 3 ([])) ∷ Fire (task 1 0) (Branch 0) ((Script 0 0) ∷ []) ([]) ∷ Fire (task 1 1) (Branch 1) ((Script 0 1) ∷ []) ([]) ∷ Fire (task 1 2) (Branch 2) ((Script 0 2) ∷ []) ([]) ∷ Put (task 1 0) None ∷ []) ≡ Some (6, rules.Ready)
put_before_its_admission = refl

admit_out_of_turn : first_refusal interleave_groups_wiring [] 0 (Post (message (Script 0 0) 0 1 ([])) ∷ Post (message (Script 0 1) 1 2 ([])) ∷ Post (message (Script 0 2) 2 3 ([])) ∷ Fire (task 1 0) (Branch 0) ((Script 0 0) ∷ []) ([]) ∷ Fire (task 1 1) (Branch 1) ((Script 0 1) ∷ []) ([]) ∷ Fire (task 1 2) (Branch 2) ((Script 0 2) ∷ []) ([]) ∷ Admit (task 1 1) ∷ []) ≡ Some (6, rules.OldestWaiting)
admit_out_of_turn = refl

admit_too_early : first_refusal interleave_groups_wiring [] 0 (Post (message (Script 0 0) 0 1 ([])) ∷ Post (message (Script 0 1) 1 2 ([])) ∷ Post (message (Script 0 2) 2 3 ([])) ∷ Fire (task 1 0) (Branch 0) ((Script 0 0) ∷ []) ([]) ∷ Fire (task 1 1) (Branch 1) ((Script 0 1) ∷ []) ([]) ∷ Fire (task 1 2) (Branch 2) ((Script 0 2) ∷ []) ([]) ∷ Admit (task 1 0) ∷ Put (task 1 0) None ∷ Start (task 1 0) 1 ∷ End (task 1 0) ends.Done ∷ Admit (task 1 1) ∷ Put (task 1 1) None ∷ Start (task 1 1) 1 ∷ Admit (task 1 2) ∷ End (task 1 1) ends.Done ∷ Put (task 1 2) None ∷ Start (task 1 2) 1 ∷ End (task 1 2) ends.Done ∷ []) ≡ Some (13, rules.Admission)
admit_too_early = refl

fire_after_the_teardown : first_refusal teardown_cuts_wiring [] 0 (Post (message (Script 0 0) 0 1 ([])) ∷ Post (message (Script 0 1) 0 2 ([])) ∷ Post (message (Script 0 2) 1 3 ([])) ∷ Fire (task 1 0) (Branch 0) ((Script 0 0) ∷ []) ([]) ∷ Fire (task 1 2) (Branch 1) ((Script 0 2) ∷ []) ((task 1 0) ∷ []) ∷ Fire (task 1 1) (Branch 0) ((Script 0 1) ∷ []) ([]) ∷ []) ≡ Some (5, rules.LiveSpot)
fire_after_the_teardown = refl

cut_task_is_admitted : first_refusal teardown_cuts_wiring [] 0 (Post (message (Script 0 0) 0 1 ([])) ∷ Post (message (Script 0 1) 0 2 ([])) ∷ Post (message (Script 0 2) 1 3 ([])) ∷ Fire (task 1 0) (Branch 0) ((Script 0 0) ∷ []) ([]) ∷ Fire (task 1 2) (Branch 1) ((Script 0 2) ∷ []) ((task 1 0) ∷ []) ∷ Admit (task 1 0) ∷ []) ≡ Some (5, rules.OldestWaiting)
cut_task_is_admitted = refl

start_by_a_busy_actor : first_refusal second_task_shed_wiring [] 0 (Post (message (Script 0 0) 0 1 ([])) ∷ Post (message (Script 0 1) 0 2 ([])) ∷ Fire (task 1 0) (Branch 0) ((Script 0 0) ∷ []) ([]) ∷ Fire (task 1 1) (Branch 0) ((Script 0 1) ∷ []) ([]) ∷ Put (task 1 0) None ∷ Put (task 1 1) None ∷ Start (task 1 0) 1 ∷ Start (task 1 1) 1 ∷ []) ≡ Some (7, rules.IdleActor)
start_by_a_busy_actor = refl

start_by_actor_33 : first_refusal second_task_shed_wiring [] 0 (Post (message (Script 0 0) 0 1 ([])) ∷ Post (message (Script 0 1) 0 2 ([])) ∷ Fire (task 1 0) (Branch 0) ((Script 0 0) ∷ []) ([]) ∷ Fire (task 1 1) (Branch 0) ((Script 0 1) ∷ []) ([]) ∷ Put (task 1 0) None ∷ Put (task 1 1) None ∷ Start (task 1 0) 1 ∷ Start (task 1 1) 33 ∷ []) ≡ Some (7, rules.IdleActor)
start_by_actor_33 = refl

fate_with_a_dropped_task : fate discard_wiring discard_history (Script 0 0) ≡ Some (fates.Taken (task 1 0) states.Dropped)
fate_with_a_dropped_task = refl

fate_with_a_cut_task : fate teardown_cuts_wiring teardown_cuts_history (Script 0 0) ≡ Some (fates.Taken (task 1 0) states.Cut)
fate_with_a_cut_task = refl

fate_held : fate once_keeps_second_wiring once_keeps_second_history (Script 0 1) ≡ Some fates.Held
fate_held = refl

fate_with_a_waiting_task : fate await_teardown_waits_wiring await_teardown_waits_history (Task (task 1 0) 0) ≡ Some (fates.Taken (task 1 1) states.Waiting)
fate_with_a_waiting_task = refl

fate_with_a_suspended_task : fate await_wiring await_history (Script 0 0) ≡ Some (fates.Taken (task 1 0) (states.Ended ends.Yield))
fate_with_a_suspended_task = refl

fate_of_no_message : fate one_post_wiring one_post_history (Script 0 1) ≡ None
fate_of_no_message = refl

no_posts-totals : totals no_posts_history ≡ record { posted = 0; taken = 0; held = 0; fired = 0; done = 0; failed = 0; shed = 0; yielded = 0; cut = 0; dropped = 0; unended = 0 }
no_posts-totals = refl

one_post-totals : totals one_post_history ≡ record { posted = 1; taken = 1; held = 0; fired = 1; done = 1; failed = 0; shed = 0; yielded = 0; cut = 0; dropped = 0; unended = 0 }
one_post-totals = refl

once_keeps_second-totals : totals once_keeps_second_history ≡ record { posted = 2; taken = 1; held = 1; fired = 1; done = 1; failed = 0; shed = 0; yielded = 0; cut = 0; dropped = 0; unended = 0 }
once_keeps_second-totals = refl

predicate-totals : totals predicate_history ≡ record { posted = 4; taken = 2; held = 2; fired = 2; done = 2; failed = 0; shed = 0; yielded = 0; cut = 0; dropped = 0; unended = 0 }
predicate-totals = refl

join-totals : totals join_history ≡ record { posted = 4; taken = 2; held = 2; fired = 1; done = 1; failed = 0; shed = 0; yielded = 0; cut = 0; dropped = 0; unended = 0 }
join-totals = refl

discard-totals : totals discard_history ≡ record { posted = 4; taken = 4; held = 0; fired = 4; done = 2; failed = 0; shed = 0; yielded = 0; cut = 0; dropped = 2; unended = 0 }
discard-totals = refl

throttle-totals : totals throttle_history ≡ record { posted = 3; taken = 3; held = 0; fired = 3; done = 3; failed = 0; shed = 0; yielded = 0; cut = 0; dropped = 0; unended = 0 }
throttle-totals = refl

interleave_groups-totals : totals interleave_groups_history ≡ record { posted = 3; taken = 3; held = 0; fired = 3; done = 3; failed = 0; shed = 0; yielded = 0; cut = 0; dropped = 0; unended = 0 }
interleave_groups-totals = refl

teardown_cuts-totals : totals teardown_cuts_history ≡ record { posted = 4; taken = 3; held = 1; fired = 3; done = 1; failed = 0; shed = 0; yielded = 0; cut = 2; dropped = 0; unended = 0 }
teardown_cuts-totals = refl

budget_shed-totals : totals budget_shed_history ≡ record { posted = 4; taken = 4; held = 0; fired = 4; done = 3; failed = 0; shed = 1; yielded = 0; cut = 0; dropped = 0; unended = 0 }
budget_shed-totals = refl

causes_failed-totals : totals causes_failed_history ≡ record { posted = 3; taken = 1; held = 2; fired = 1; done = 0; failed = 1; shed = 0; yielded = 0; cut = 0; dropped = 0; unended = 0 }
causes_failed-totals = refl

await-totals : totals await_history ≡ record { posted = 4; taken = 3; held = 1; fired = 3; done = 2; failed = 0; shed = 0; yielded = 1; cut = 0; dropped = 0; unended = 0 }
await-totals = refl

await_teardown_waits-totals : totals await_teardown_waits_history ≡ record { posted = 2; taken = 2; held = 0; fired = 2; done = 0; failed = 0; shed = 0; yielded = 1; cut = 0; dropped = 0; unended = 1 }
await_teardown_waits-totals = refl

cause_lists-totals : totals cause_lists_history ≡ record { posted = 3; taken = 2; held = 1; fired = 1; done = 1; failed = 0; shed = 0; yielded = 0; cut = 0; dropped = 0; unended = 0 }
cause_lists-totals = refl

portset-totals : totals portset_history ≡ record { posted = 5; taken = 3; held = 2; fired = 1; done = 1; failed = 0; shed = 0; yielded = 0; cut = 0; dropped = 0; unended = 0 }
portset-totals = refl

choice-totals : totals choice_history ≡ record { posted = 2; taken = 1; held = 1; fired = 1; done = 1; failed = 0; shed = 0; yielded = 0; cut = 0; dropped = 0; unended = 0 }
choice-totals = refl

gather-totals : totals gather_history ≡ record { posted = 4; taken = 3; held = 1; fired = 1; done = 1; failed = 0; shed = 0; yielded = 0; cut = 0; dropped = 0; unended = 0 }
gather-totals = refl

causes_shed-totals : totals causes_shed_history ≡ record { posted = 1; taken = 1; held = 0; fired = 1; done = 0; failed = 0; shed = 1; yielded = 0; cut = 0; dropped = 0; unended = 0 }
causes_shed-totals = refl

sum_wraps-totals : totals sum_wraps_history ≡ record { posted = 3; taken = 2; held = 1; fired = 1; done = 1; failed = 0; shed = 0; yielded = 0; cut = 0; dropped = 0; unended = 0 }
sum_wraps-totals = refl
