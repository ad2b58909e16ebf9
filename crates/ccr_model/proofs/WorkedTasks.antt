-- Worked runs whose tasks post, fail, await or stand under an Interleave, checked by computation as in WorkedRuns.
use Rattle.std.proofs.Common.{◌≡◌, true, List, [], ◌∷◌, Some, None, refl}
use Rattle.ccr_base.specs.declared.names.MsgId.TheVariants.{Script, Task}
use Rattle.ccr_base.specs.declared.patterns.Pred.TheVariants.{Any}
use Rattle.ccr_base.specs.declared.patterns.Pattern.TheVariants.{Slots}
use Rattle.ccr_base.specs.declared.names.Spot.TheVariants.{Branch, Site}
use Rattle.ccr_base.specs.declared.handlers.Action.TheVariants.{Post as aPost, Fail as aFail, Add as aAdd, Remove as aRemove, Await as aAwait}
use Rattle.ccr_base.specs.declared.handlers.Expr.TheVariants.{Number, Arg, Sum, Count}
use Rattle.ccr_wiring.specs.declared.parts.Parts.{Parts}
use Rattle.ccr_base.specs.declared.policies.Policy.TheVariants.{Unbounded, Discard}
use Rattle.ccr_wiring.specs.declared.parts.Kind.TheVariants as kinds
use Rattle.ccr_base.specs.declared.policies.Group.TheVariants as groups
use Rattle.ccr_model.specs.declared.history.Event.{Event}
use Rattle.ccr_model.specs.declared.history.Event.TheVariants.{Post, Fire, Admit, Put, Start, End}
use Rattle.ccr_model.specs.declared.history.EndHow.TheVariants as ends
use Rattle.ccr_model.specs.Legal.{first_refusal, is_complete, is_covered}
use Rattle.ccr_model.specs.Order.{finished_in}
use Rattle.ccr_model.specs.Consequences.{keeps_laws_along}
use Rattle.ccr_model.proofs.WorkedParts.{task, message, sent, slot, queue, branch, arbiter, parts}

abbrev pub interleave_groups_wiring : Parts
interleave_groups_wiring = parts 10000 (queue Unbounded ∷ []) ([]) (([]) ∷ []) (arbiter kinds.Interleave (branch groups.Concurrent 0 0 (Slots (slot 0 1 Any ∷ [])) ∷ branch groups.Exclusive 0 0 (Slots (slot 1 1 Any ∷ [])) ∷ branch groups.Concurrent 0 0 (Slots (slot 2 1 Any ∷ [])) ∷ []) ∷ []) ((sent 0 1 ([]) ∷ sent 1 2 ([]) ∷ sent 2 3 ([]) ∷ []) ∷ [])

abbrev pub interleave_groups_history : List Event
interleave_groups_history = Post (message (Script 0 0) 0 1 ([])) ∷ Post (message (Script 0 1) 1 2 ([])) ∷ Post (message (Script 0 2) 2 3 ([])) ∷ Fire (task 1 0) (Branch 0) ((Script 0 0) ∷ []) ([]) ∷ Fire (task 1 1) (Branch 1) ((Script 0 1) ∷ []) ([]) ∷ Fire (task 1 2) (Branch 2) ((Script 0 2) ∷ []) ([]) ∷ Admit (task 1 0) ∷ Put (task 1 0) None ∷ Start (task 1 0) 1 ∷ End (task 1 0) ends.Done ∷ Admit (task 1 1) ∷ Put (task 1 1) None ∷ Start (task 1 1) 1 ∷ End (task 1 1) ends.Done ∷ Admit (task 1 2) ∷ Put (task 1 2) None ∷ Start (task 1 2) 1 ∷ End (task 1 2) ends.Done ∷ []

interleave_groups-legal : first_refusal interleave_groups_wiring [] 0 interleave_groups_history ≡ None
interleave_groups-legal = refl

interleave_groups-order : finished_in 19 interleave_groups_wiring 1 [] ≡ interleave_groups_history
interleave_groups-order = refl

interleave_groups-complete : is_complete interleave_groups_wiring interleave_groups_history ≡ true
interleave_groups-complete = refl

interleave_groups-covered : is_covered interleave_groups_wiring interleave_groups_history ≡ true
interleave_groups-covered = refl

interleave_groups-laws : keeps_laws_along interleave_groups_wiring [] interleave_groups_history ≡ true
interleave_groups-laws = refl

abbrev pub teardown_cuts_wiring : Parts
teardown_cuts_wiring = parts 10000 (queue Unbounded ∷ []) ([]) (([]) ∷ (aPost 0 (Number (9 ∷ [])) ∷ []) ∷ []) (arbiter kinds.Interleave (branch groups.Exclusive 0 0 (Slots (slot 0 1 Any ∷ [])) ∷ branch groups.Teardown 0 1 (Slots (slot 1 1 Any ∷ [])) ∷ []) ∷ []) ((sent 0 1 ([]) ∷ sent 0 2 ([]) ∷ sent 1 3 ([]) ∷ []) ∷ [])

abbrev pub teardown_cuts_history : List Event
teardown_cuts_history = Post (message (Script 0 0) 0 1 ([])) ∷ Post (message (Script 0 1) 0 2 ([])) ∷ Post (message (Script 0 2) 1 3 ([])) ∷ Fire (task 1 0) (Branch 0) ((Script 0 0) ∷ []) ([]) ∷ Fire (task 1 1) (Branch 0) ((Script 0 1) ∷ []) ([]) ∷ Fire (task 1 2) (Branch 1) ((Script 0 2) ∷ []) ((task 1 0) ∷ (task 1 1) ∷ []) ∷ Admit (task 1 2) ∷ Put (task 1 2) None ∷ Start (task 1 2) 1 ∷ Post (message (Task (task 1 2) 0) 0 9 ([])) ∷ End (task 1 2) ends.Done ∷ []

teardown_cuts-legal : first_refusal teardown_cuts_wiring [] 0 teardown_cuts_history ≡ None
teardown_cuts-legal = refl

teardown_cuts-order : finished_in 12 teardown_cuts_wiring 1 [] ≡ teardown_cuts_history
teardown_cuts-order = refl

teardown_cuts-complete : is_complete teardown_cuts_wiring teardown_cuts_history ≡ true
teardown_cuts-complete = refl

teardown_cuts-covered : is_covered teardown_cuts_wiring teardown_cuts_history ≡ true
teardown_cuts-covered = refl

teardown_cuts-laws : keeps_laws_along teardown_cuts_wiring [] teardown_cuts_history ≡ true
teardown_cuts-laws = refl

abbrev pub budget_shed_wiring : Parts
budget_shed_wiring = parts 3 (queue Unbounded ∷ []) ([]) ((aPost 0 (Arg 0) ∷ []) ∷ []) (arbiter kinds.Receive (branch groups.Always 0 0 (Slots (slot 0 1 Any ∷ [])) ∷ []) ∷ []) ((sent 0 5 ([]) ∷ []) ∷ [])

abbrev pub budget_shed_history : List Event
budget_shed_history = Post (message (Script 0 0) 0 5 ([])) ∷ Fire (task 1 0) (Branch 0) ((Script 0 0) ∷ []) ([]) ∷ Put (task 1 0) None ∷ Start (task 1 0) 1 ∷ Post (message (Task (task 1 0) 0) 0 5 ([])) ∷ Fire (task 1 1) (Branch 0) ((Task (task 1 0) 0) ∷ []) ([]) ∷ Put (task 1 1) None ∷ End (task 1 0) ends.Done ∷ Start (task 1 1) 1 ∷ Post (message (Task (task 1 1) 0) 0 5 ([])) ∷ Fire (task 1 2) (Branch 0) ((Task (task 1 1) 0) ∷ []) ([]) ∷ Put (task 1 2) None ∷ End (task 1 1) ends.Done ∷ Start (task 1 2) 1 ∷ Post (message (Task (task 1 2) 0) 0 5 ([])) ∷ Fire (task 1 3) (Branch 0) ((Task (task 1 2) 0) ∷ []) ([]) ∷ Put (task 1 3) None ∷ End (task 1 2) ends.Done ∷ Start (task 1 3) 1 ∷ End (task 1 3) ends.Shed ∷ []

budget_shed-legal : first_refusal budget_shed_wiring [] 0 budget_shed_history ≡ None
budget_shed-legal = refl

budget_shed-order : finished_in 21 budget_shed_wiring 1 [] ≡ budget_shed_history
budget_shed-order = refl

budget_shed-complete : is_complete budget_shed_wiring budget_shed_history ≡ true
budget_shed-complete = refl

budget_shed-covered : is_covered budget_shed_wiring budget_shed_history ≡ true
budget_shed-covered = refl

budget_shed-laws : keeps_laws_along budget_shed_wiring [] budget_shed_history ≡ true
budget_shed-laws = refl

abbrev pub causes_shed_wiring : Parts
causes_shed_wiring = parts 0 (queue Unbounded ∷ []) (1 ∷ 2 ∷ []) ((aFail (Arg 0) ∷ []) ∷ []) (arbiter kinds.Receive (branch groups.Always 0 0 (Slots (slot 0 1 Any ∷ [])) ∷ []) ∷ []) ((sent 0 4 (0 ∷ 1 ∷ []) ∷ []) ∷ [])

abbrev pub causes_shed_history : List Event
causes_shed_history = Post (message (Script 0 0) 0 4 (0 ∷ 1 ∷ [])) ∷ Fire (task 1 0) (Branch 0) ((Script 0 0) ∷ []) ([]) ∷ Put (task 1 0) None ∷ Start (task 1 0) 1 ∷ End (task 1 0) ends.Shed ∷ []

causes_shed-legal : first_refusal causes_shed_wiring [] 0 causes_shed_history ≡ None
causes_shed-legal = refl

causes_shed-order : finished_in 6 causes_shed_wiring 1 [] ≡ causes_shed_history
causes_shed-order = refl

causes_shed-complete : is_complete causes_shed_wiring causes_shed_history ≡ true
causes_shed-complete = refl

causes_shed-covered : is_covered causes_shed_wiring causes_shed_history ≡ true
causes_shed-covered = refl

causes_shed-laws : keeps_laws_along causes_shed_wiring [] causes_shed_history ≡ true
causes_shed-laws = refl

abbrev pub await_wiring : Parts
await_wiring = parts 10000 (queue Unbounded ∷ []) ([]) (([]) ∷ (aAwait 1 ∷ aPost 3 Sum ∷ []) ∷ []) (arbiter kinds.Interleave (branch groups.Exclusive 0 1 (Slots (slot 0 1 Any ∷ [])) ∷ branch groups.Concurrent 0 0 (Slots (slot 2 1 Any ∷ [])) ∷ []) ∷ []) ((sent 0 1 ([]) ∷ sent 2 2 ([]) ∷ sent 1 3 ([]) ∷ []) ∷ [])

abbrev pub await_history : List Event
await_history = Post (message (Script 0 0) 0 1 ([])) ∷ Post (message (Script 0 1) 2 2 ([])) ∷ Post (message (Script 0 2) 1 3 ([])) ∷ Fire (task 1 0) (Branch 0) ((Script 0 0) ∷ []) ([]) ∷ Fire (task 1 1) (Branch 1) ((Script 0 1) ∷ []) ([]) ∷ Admit (task 1 0) ∷ Put (task 1 0) None ∷ Start (task 1 0) 1 ∷ End (task 1 0) ends.Yield ∷ Fire (task 1 2) (Site 0 0) ((Script 0 2) ∷ []) ([]) ∷ Put (task 1 2) None ∷ Start (task 1 2) 1 ∷ Post (message (Task (task 1 2) 0) 3 4 ([])) ∷ End (task 1 2) ends.Done ∷ Admit (task 1 1) ∷ Put (task 1 1) None ∷ Start (task 1 1) 1 ∷ End (task 1 1) ends.Done ∷ []

await-legal : first_refusal await_wiring [] 0 await_history ≡ None
await-legal = refl

await-order : finished_in 19 await_wiring 1 [] ≡ await_history
await-order = refl

await-complete : is_complete await_wiring await_history ≡ true
await-complete = refl

await-covered : is_covered await_wiring await_history ≡ true
await-covered = refl

await-laws : keeps_laws_along await_wiring [] await_history ≡ true
await-laws = refl

abbrev pub await_teardown_waits_wiring : Parts
await_teardown_waits_wiring = parts 10000 (queue Unbounded ∷ []) ([]) (([]) ∷ (aPost 2 (Number (1 ∷ [])) ∷ aAwait 1 ∷ []) ∷ []) (arbiter kinds.Interleave (branch groups.Exclusive 0 1 (Slots (slot 0 1 Any ∷ [])) ∷ branch groups.Teardown 0 0 (Slots (slot 2 1 Any ∷ [])) ∷ []) ∷ []) ((sent 0 1 ([]) ∷ []) ∷ [])

abbrev pub await_teardown_waits_history : List Event
await_teardown_waits_history = Post (message (Script 0 0) 0 1 ([])) ∷ Fire (task 1 0) (Branch 0) ((Script 0 0) ∷ []) ([]) ∷ Admit (task 1 0) ∷ Put (task 1 0) None ∷ Start (task 1 0) 1 ∷ Post (message (Task (task 1 0) 0) 2 1 ([])) ∷ Fire (task 1 1) (Branch 1) ((Task (task 1 0) 0) ∷ []) ([]) ∷ End (task 1 0) ends.Yield ∷ []

await_teardown_waits-legal : first_refusal await_teardown_waits_wiring [] 0 await_teardown_waits_history ≡ None
await_teardown_waits-legal = refl

await_teardown_waits-order : finished_in 9 await_teardown_waits_wiring 1 [] ≡ await_teardown_waits_history
await_teardown_waits-order = refl

await_teardown_waits-complete : is_complete await_teardown_waits_wiring await_teardown_waits_history ≡ true
await_teardown_waits-complete = refl

await_teardown_waits-covered : is_covered await_teardown_waits_wiring await_teardown_waits_history ≡ true
await_teardown_waits-covered = refl

await_teardown_waits-laws : keeps_laws_along await_teardown_waits_wiring [] await_teardown_waits_history ≡ true
await_teardown_waits-laws = refl

abbrev pub cause_lists_wiring : Parts
cause_lists_wiring = parts 10000 (queue Unbounded ∷ []) (3 ∷ 3 ∷ 3 ∷ []) ((aRemove 0 ∷ aAdd 2 ∷ aPost 2 Count ∷ []) ∷ []) (arbiter kinds.Receive (branch groups.Always 0 0 (Slots (slot 0 1 Any ∷ slot 1 1 Any ∷ [])) ∷ []) ∷ []) ((sent 0 1 (0 ∷ []) ∷ sent 1 2 (1 ∷ 0 ∷ []) ∷ []) ∷ [])

abbrev pub cause_lists_history : List Event
cause_lists_history = Post (message (Script 0 0) 0 1 (0 ∷ [])) ∷ Post (message (Script 0 1) 1 2 (1 ∷ 0 ∷ [])) ∷ Fire (task 1 0) (Branch 0) ((Script 0 0) ∷ (Script 0 1) ∷ []) ([]) ∷ Put (task 1 0) None ∷ Start (task 1 0) 1 ∷ Post (message (Task (task 1 0) 0) 2 2 (1 ∷ 2 ∷ [])) ∷ End (task 1 0) ends.Done ∷ []

cause_lists-legal : first_refusal cause_lists_wiring [] 0 cause_lists_history ≡ None
cause_lists-legal = refl

cause_lists-order : finished_in 8 cause_lists_wiring 1 [] ≡ cause_lists_history
cause_lists-order = refl

cause_lists-complete : is_complete cause_lists_wiring cause_lists_history ≡ true
cause_lists-complete = refl

cause_lists-covered : is_covered cause_lists_wiring cause_lists_history ≡ true
cause_lists-covered = refl

cause_lists-laws : keeps_laws_along cause_lists_wiring [] cause_lists_history ≡ true
cause_lists-laws = refl

abbrev pub sum_wraps_wiring : Parts
sum_wraps_wiring = parts 10000 (queue Unbounded ∷ []) ([]) ((aPost 2 Sum ∷ []) ∷ []) (arbiter kinds.Receive (branch groups.Always 0 0 (Slots (slot 0 1 Any ∷ slot 1 1 Any ∷ [])) ∷ []) ∷ []) ((sent 0 18446744073709551615 ([]) ∷ sent 1 1 ([]) ∷ []) ∷ [])

abbrev pub sum_wraps_history : List Event
sum_wraps_history = Post (message (Script 0 0) 0 18446744073709551615 ([])) ∷ Post (message (Script 0 1) 1 1 ([])) ∷ Fire (task 1 0) (Branch 0) ((Script 0 0) ∷ (Script 0 1) ∷ []) ([]) ∷ Put (task 1 0) None ∷ Start (task 1 0) 1 ∷ Post (message (Task (task 1 0) 0) 2 0 ([])) ∷ End (task 1 0) ends.Done ∷ []

sum_wraps-legal : first_refusal sum_wraps_wiring [] 0 sum_wraps_history ≡ None
sum_wraps-legal = refl

sum_wraps-order : finished_in 8 sum_wraps_wiring 1 [] ≡ sum_wraps_history
sum_wraps-order = refl

sum_wraps-complete : is_complete sum_wraps_wiring sum_wraps_history ≡ true
sum_wraps-complete = refl

sum_wraps-covered : is_covered sum_wraps_wiring sum_wraps_history ≡ true
sum_wraps-covered = refl

sum_wraps-laws : keeps_laws_along sum_wraps_wiring [] sum_wraps_history ≡ true
sum_wraps-laws = refl

abbrev pub second_task_shed_wiring : Parts
second_task_shed_wiring = parts 1 (queue Unbounded ∷ []) ([]) ((aPost 1 (Number (1 ∷ [])) ∷ []) ∷ []) (arbiter kinds.Receive (branch groups.Always 0 0 (Slots (slot 0 1 Any ∷ [])) ∷ []) ∷ []) ((sent 0 1 ([]) ∷ sent 0 2 ([]) ∷ []) ∷ [])

abbrev pub second_task_shed_history : List Event
second_task_shed_history = Post (message (Script 0 0) 0 1 ([])) ∷ Post (message (Script 0 1) 0 2 ([])) ∷ Fire (task 1 0) (Branch 0) ((Script 0 0) ∷ []) ([]) ∷ Fire (task 1 1) (Branch 0) ((Script 0 1) ∷ []) ([]) ∷ Put (task 1 0) None ∷ Put (task 1 1) None ∷ Start (task 1 0) 1 ∷ Post (message (Task (task 1 0) 0) 1 1 ([])) ∷ End (task 1 0) ends.Done ∷ Start (task 1 1) 1 ∷ End (task 1 1) ends.Shed ∷ []

second_task_shed-legal : first_refusal second_task_shed_wiring [] 0 second_task_shed_history ≡ None
second_task_shed-legal = refl

second_task_shed-order : finished_in 12 second_task_shed_wiring 1 [] ≡ second_task_shed_history
second_task_shed-order = refl

second_task_shed-complete : is_complete second_task_shed_wiring second_task_shed_history ≡ true
second_task_shed-complete = refl

second_task_shed-covered : is_covered second_task_shed_wiring second_task_shed_history ≡ true
second_task_shed-covered = refl

second_task_shed-laws : keeps_laws_along second_task_shed_wiring [] second_task_shed_history ≡ true
second_task_shed-laws = refl

abbrev pub causes_failed_wiring : Parts
causes_failed_wiring = parts 2 (queue Unbounded ∷ []) (1 ∷ 2 ∷ []) ((aFail (Arg 0) ∷ []) ∷ []) (arbiter kinds.Receive (branch groups.Always 0 0 (Slots (slot 0 1 Any ∷ [])) ∷ []) ∷ []) ((sent 0 4 (0 ∷ 1 ∷ []) ∷ []) ∷ [])

abbrev pub causes_failed_history : List Event
causes_failed_history = Post (message (Script 0 0) 0 4 (0 ∷ 1 ∷ [])) ∷ Fire (task 1 0) (Branch 0) ((Script 0 0) ∷ []) ([]) ∷ Put (task 1 0) None ∷ Start (task 1 0) 1 ∷ Post (message (Task (task 1 0) 0) 1 4 ([])) ∷ Post (message (Task (task 1 0) 1) 2 4 ([])) ∷ End (task 1 0) (ends.Failed (4 ∷ [])) ∷ []

causes_failed-legal : first_refusal causes_failed_wiring [] 0 causes_failed_history ≡ None
causes_failed-legal = refl

causes_failed-order : finished_in 8 causes_failed_wiring 1 [] ≡ causes_failed_history
causes_failed-order = refl

causes_failed-complete : is_complete causes_failed_wiring causes_failed_history ≡ true
causes_failed-complete = refl

causes_failed-covered : is_covered causes_failed_wiring causes_failed_history ≡ true
causes_failed-covered = refl

causes_failed-laws : keeps_laws_along causes_failed_wiring [] causes_failed_history ≡ true
causes_failed-laws = refl

abbrev pub admitted_task_dropped_wiring : Parts
admitted_task_dropped_wiring = parts 10000 (queue (Discard 1) ∷ []) ([]) (([]) ∷ []) (arbiter kinds.Interleave (branch groups.Exclusive 0 0 (Slots (slot 0 1 Any ∷ [])) ∷ []) ∷ arbiter kinds.Receive (branch groups.Always 0 0 (Slots (slot 1 1 Any ∷ [])) ∷ []) ∷ []) ((sent 0 1 ([]) ∷ sent 0 2 ([]) ∷ sent 1 3 ([]) ∷ []) ∷ [])

abbrev pub admitted_task_dropped_history : List Event
admitted_task_dropped_history = Post (message (Script 0 0) 0 1 ([])) ∷ Post (message (Script 0 1) 0 2 ([])) ∷ Post (message (Script 0 2) 1 3 ([])) ∷ Fire (task 1 0) (Branch 0) ((Script 0 0) ∷ []) ([]) ∷ Fire (task 1 1) (Branch 0) ((Script 0 1) ∷ []) ([]) ∷ Fire (task 1 2) (Branch 1) ((Script 0 2) ∷ []) ([]) ∷ Admit (task 1 0) ∷ Put (task 1 0) None ∷ Put (task 1 2) (Some (task 1 0)) ∷ Admit (task 1 1) ∷ Put (task 1 1) (Some (task 1 2)) ∷ Start (task 1 1) 1 ∷ End (task 1 1) ends.Done ∷ []

admitted_task_dropped-legal : first_refusal admitted_task_dropped_wiring [] 0 admitted_task_dropped_history ≡ None
admitted_task_dropped-legal = refl

admitted_task_dropped-order : finished_in 14 admitted_task_dropped_wiring 1 [] ≡ admitted_task_dropped_history
admitted_task_dropped-order = refl

admitted_task_dropped-complete : is_complete admitted_task_dropped_wiring admitted_task_dropped_history ≡ true
admitted_task_dropped-complete = refl

admitted_task_dropped-covered : is_covered admitted_task_dropped_wiring admitted_task_dropped_history ≡ true
admitted_task_dropped-covered = refl

admitted_task_dropped-laws : keeps_laws_along admitted_task_dropped_wiring [] admitted_task_dropped_history ≡ true
admitted_task_dropped-laws = refl

abbrev pub argument_past_end_wiring : Parts
argument_past_end_wiring = parts 10000 (queue Unbounded ∷ []) ([]) ((aPost 1 (Arg 5) ∷ []) ∷ []) (arbiter kinds.Receive (branch groups.Always 0 0 (Slots (slot 0 1 Any ∷ [])) ∷ []) ∷ []) ((sent 0 7 ([]) ∷ []) ∷ [])

abbrev pub argument_past_end_history : List Event
argument_past_end_history = Post (message (Script 0 0) 0 7 ([])) ∷ Fire (task 1 0) (Branch 0) ((Script 0 0) ∷ []) ([]) ∷ Put (task 1 0) None ∷ Start (task 1 0) 1 ∷ Post (message (Task (task 1 0) 0) 1 0 ([])) ∷ End (task 1 0) ends.Done ∷ []

argument_past_end-legal : first_refusal argument_past_end_wiring [] 0 argument_past_end_history ≡ None
argument_past_end-legal = refl

argument_past_end-order : finished_in 7 argument_past_end_wiring 1 [] ≡ argument_past_end_history
argument_past_end-order = refl

argument_past_end-complete : is_complete argument_past_end_wiring argument_past_end_history ≡ true
argument_past_end-complete = refl

argument_past_end-covered : is_covered argument_past_end_wiring argument_past_end_history ≡ true
argument_past_end-covered = refl

argument_past_end-laws : keeps_laws_along argument_past_end_wiring [] argument_past_end_history ≡ true
argument_past_end-laws = refl

abbrev pub fail_before_await_wiring : Parts
fail_before_await_wiring = parts 10000 (queue Unbounded ∷ []) ([]) ((aFail (Number (1 ∷ [])) ∷ aAwait 1 ∷ []) ∷ []) (arbiter kinds.Receive (branch groups.Always 0 0 (Slots (slot 0 1 Any ∷ [])) ∷ []) ∷ []) ((sent 0 7 ([]) ∷ sent 1 8 ([]) ∷ []) ∷ [])

abbrev pub fail_before_await_history : List Event
fail_before_await_history = Post (message (Script 0 0) 0 7 ([])) ∷ Post (message (Script 0 1) 1 8 ([])) ∷ Fire (task 1 0) (Branch 0) ((Script 0 0) ∷ []) ([]) ∷ Put (task 1 0) None ∷ Start (task 1 0) 1 ∷ End (task 1 0) (ends.Failed (1 ∷ [])) ∷ []

fail_before_await-legal : first_refusal fail_before_await_wiring [] 0 fail_before_await_history ≡ None
fail_before_await-legal = refl

fail_before_await-order : finished_in 7 fail_before_await_wiring 1 [] ≡ fail_before_await_history
fail_before_await-order = refl

fail_before_await-complete : is_complete fail_before_await_wiring fail_before_await_history ≡ true
fail_before_await-complete = refl

fail_before_await-covered : is_covered fail_before_await_wiring fail_before_await_history ≡ true
fail_before_await-covered = refl

fail_before_await-laws : keeps_laws_along fail_before_await_wiring [] fail_before_await_history ≡ true
fail_before_await-laws = refl

abbrev pub two_teardowns_wiring : Parts
two_teardowns_wiring = parts 10000 (queue Unbounded ∷ []) ([]) (([]) ∷ []) (arbiter kinds.Interleave (branch groups.Teardown 0 0 (Slots (slot 0 1 Any ∷ [])) ∷ branch groups.Teardown 0 0 (Slots (slot 1 1 Any ∷ [])) ∷ []) ∷ []) ((sent 0 1 ([]) ∷ sent 1 2 ([]) ∷ []) ∷ [])

abbrev pub two_teardowns_history : List Event
two_teardowns_history = Post (message (Script 0 0) 0 1 ([])) ∷ Post (message (Script 0 1) 1 2 ([])) ∷ Fire (task 1 0) (Branch 0) ((Script 0 0) ∷ []) ([]) ∷ Admit (task 1 0) ∷ Put (task 1 0) None ∷ Start (task 1 0) 1 ∷ End (task 1 0) ends.Done ∷ []

two_teardowns-legal : first_refusal two_teardowns_wiring [] 0 two_teardowns_history ≡ None
two_teardowns-legal = refl

two_teardowns-order : finished_in 8 two_teardowns_wiring 1 [] ≡ two_teardowns_history
two_teardowns-order = refl

two_teardowns-complete : is_complete two_teardowns_wiring two_teardowns_history ≡ true
two_teardowns-complete = refl

two_teardowns-covered : is_covered two_teardowns_wiring two_teardowns_history ≡ true
two_teardowns-covered = refl

two_teardowns-laws : keeps_laws_along two_teardowns_wiring [] two_teardowns_history ≡ true
two_teardowns-laws = refl
