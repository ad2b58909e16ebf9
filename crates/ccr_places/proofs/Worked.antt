-- Short runs of each place, worked out by hand and checked by computation: what its next note tells, and what it keeps.
use Rattle.std.proofs.Common.{◌≡◌, ℕ, ◌+◌, ◌-◌, true, false, cond, ◌||◌, List, [], ◌∷◌, flat_map, Some, None, refl, sym}
use Rattle.std.specs.FinSet as set
use Rattle.std.specs.Ordering.{eq_by_cmp}
use Rattle.ccr_base.specs.declared.names.TaskId.{TaskId}
use Rattle.ccr_base.specs.declared.names.MsgId.TheVariants.{Script}
use Rattle.ccr_base.specs.declared.names.Spot.{Spot}
use Rattle.ccr_base.specs.declared.names.Spot.TheVariants.{Branch, Site}
use Rattle.ccr_base.specs.declared.messages.Msg.{Msg}
use Rattle.ccr_base.specs.declared.patterns.Pred.TheVariants.{Any, Lt}
use Rattle.ccr_base.specs.declared.patterns.Slot.{Slot}
use Rattle.ccr_base.specs.declared.policies.Policy.TheVariants.{Discard, Throttle}
use Rattle.ccr_base.specs.declared.policies.Group.TheVariants.{Teardown, Exclusive, Concurrent}
use Rattle.ccr_base.specs.declared.tasks.By.TheVariants.{Fired as ByFired, NoneWaiting}
use Rattle.ccr_base.specs.declared.tasks.How.TheVariants as ends
use Rattle.ccr_places.specs.declared.notes.ClaimNote.TheVariants.{Got, Busy, Short}
use Rattle.ccr_places.specs.declared.notes.Note.{Note}
use Rattle.ccr_places.specs.declared.notes.Note.TheVariants as notes
use Rattle.ccr_places.specs.Ports as ports
use Rattle.ccr_places.specs.Arbiters as arbiters
use Rattle.ccr_places.specs.Interleaves as interleaves
use Rattle.ccr_places.specs.Sites as sites
use Rattle.ccr_places.specs.Queues as queues
use Rattle.ccr_places.specs.Meters as meters
use Rattle.ccr_places.specs.TaskSets.{TaskSet, task_cmp, task_cmp_total}

-- the sizes of sets of tasks, step by step
pub len-none : set.len (set.empty {R = task_cmp}) ≡ 0
len-none = set.len-empty task_cmp

pub in-none : (t : TaskId) → set.contains (set.empty {R = task_cmp}) t ≡ false
in-none = set.contains-empty task_cmp

pub len-more : (tasks : TaskSet) (t : TaskId) → set.len (set.insert tasks t) ≡ cond (set.contains tasks t) (set.len tasks) (set.len tasks + 1)
len-more = set.len-insert task_cmp_total

pub in-more : (tasks : TaskSet) (t u : TaskId) → set.contains (set.insert tasks t) u ≡ (eq_by_cmp task_cmp u t || set.contains tasks u)
in-more = set.contains-insert task_cmp_total

pub len-less : (tasks : TaskSet) (t : TaskId) → set.len (set.remove tasks t) ≡ cond (set.contains tasks t) (set.len tasks - 1) (set.len tasks)
len-less = set.len-remove task_cmp_total

ruleset set_sizes = (len-none, in-none, len-more, in-more, len-less)

abbrev pub task : ℕ → TaskId
task attempt = record { actor = 1; attempt = attempt }

-- a post of this value to port 0
abbrev pub message : ℕ → Msg
message value = record { id = Script 0 value; port = 0; value = value ∷ []; causes = [] }

-- the values that the port holds
abbrev pub values : List Msg → List ℕ
values messages = flat_map (λ (m : Msg). m.value) messages

abbrev pub two_small : Slot
two_small = record { port = 0; least = 2; most = 2; pred = Lt 10 }

abbrev pub two_of_any : Slot
two_of_any = record { port = 0; least = 2; most = 2; pred = Any }

-- a port that holds 1, 50 and 2, of which task 0 claims two below 10
abbrev pub posted : List Note
posted = notes.Post (message 1) ∷ notes.Post (message 50) ∷ notes.Post (message 2) ∷ []

abbrev pub claimed : List Note
claimed = notes.Post (message 1) ∷ notes.Post (message 50) ∷ notes.Post (message 2) ∷ notes.Claim (task 0) two_small (Got 2) ∷ []

abbrev pub port : List Note → ports.PortState
port before = ports.kept (ports.start 0) before

claim_gets_what_fits : ports.claim_note (port posted) two_small ≡ Got 2
claim_gets_what_fits = refl

rival_finds_it_busy : ports.claim_note (port claimed) two_of_any ≡ Busy (task 0)
rival_finds_it_busy = refl

marked_messages_stay_in_place : values (port claimed).items ≡ 1 ∷ 50 ∷ 2 ∷ []
marked_messages_stay_in_place = refl

consumed_messages_are_gone : values (ports.after (port claimed) (notes.Consume (task 0))).items ≡ 50 ∷ []
consumed_messages_are_gone = refl

one_is_short_of_two : ports.claim_note (ports.after (port claimed) (notes.Consume (task 0))) two_of_any ≡ Short 1
one_is_short_of_two = refl

freed_messages_keep_their_order : values (ports.after (port claimed) (notes.Free (task 0))).items ≡ 1 ∷ 50 ∷ 2 ∷ []
freed_messages_keep_their_order = refl

claim_note_is_given : ports.IsGiven (port posted) (notes.Claim (task 0) two_small (Got 2))
claim_note_is_given = refl

got_is_not_given_while_busy : ports.IsGiven (port claimed) (notes.Claim (task 1) two_of_any (Got 2)) → ⊥
got_is_not_given_while_busy given = cc

port_gives_no_draw : ports.IsGiven (port posted) (notes.Draw None) → ⊥
port_gives_no_draw given = given

-- a choice of branches 3 and 4
abbrev pub fires : ℕ → Spot → Note
fires attempt spot = notes.Fired (task attempt) spot [] []

choice_takes_its_first_firing : arbiters.dead_by (arbiters.choice 3 2) ≡ None
choice_takes_its_first_firing = refl

fired_choice_is_dead : arbiters.dead_by (arbiters.after (arbiters.choice 3 2) (fires 0 (Branch 4))) ≡ Some (ByFired (task 0))
fired_choice_is_dead = refl

receiver_fires_again : arbiters.dead_by (arbiters.after (arbiters.receiver 3 false) (fires 0 (Branch 3))) ≡ None
receiver_fires_again = refl

firing_is_given : arbiters.IsGiven (arbiters.choice 3 2) (fires 0 (Branch 3))
firing_is_given = (refl, refl)

dead_is_given_once_fired : arbiters.IsGiven (arbiters.after (arbiters.choice 3 2) (fires 0 (Branch 4))) (notes.Dead (task 1) (Branch 3) (ByFired (task 0)))
dead_is_given_once_fired = refl

second_firing_is_not_given : arbiters.IsGiven (arbiters.after (arbiters.choice 3 2) (fires 0 (Branch 4))) (fires 1 (Branch 3)) → ⊥
second_firing_is_not_given given = none given.0
  where
    none : Some (ByFired (task 0)) ≡ None → ⊥
    none same = cc

-- an Interleave of an exclusive branch 0, a concurrent branch 1 and a teardown 2
abbrev pub interleave : List Note → interleaves.InterleaveState
interleave before = interleaves.kept (interleaves.start (0 ∷ 1 ∷ 2 ∷ []) (Exclusive ∷ Concurrent ∷ Teardown ∷ [])) before

abbrev pub admit : ℕ → Note
admit attempt = notes.Admit (Some (task attempt))

abbrev pub over : ℕ → Note
over attempt = notes.Over (task attempt) (task attempt) ends.Done

oldest_is_admitted : interleaves.admit_note (interleave (fires 0 (Branch 0) ∷ fires 1 (Branch 1) ∷ [])) ≡ Some (task 0)
oldest_is_admitted = simp set_sizes

exclusive_stays_alone : interleaves.admit_note (interleave (fires 0 (Branch 0) ∷ fires 1 (Branch 1) ∷ admit 0 ∷ [])) ≡ None
exclusive_stays_alone = simp set_sizes

next_waits_till_it_is_over : interleaves.admit_note (interleave (fires 0 (Branch 0) ∷ fires 1 (Branch 1) ∷ admit 0 ∷ over 0 ∷ [])) ≡ Some (task 1)
next_waits_till_it_is_over = simp set_sizes

concurrent_beside_concurrent : interleaves.admit_note (interleave (fires 0 (Branch 1) ∷ fires 1 (Branch 1) ∷ admit 0 ∷ [])) ≡ Some (task 1)
concurrent_beside_concurrent = simp set_sizes

exclusive_waits_for_concurrent : interleaves.admit_note (interleave (fires 0 (Branch 1) ∷ fires 1 (Branch 0) ∷ fires 2 (Branch 1) ∷ admit 0 ∷ [])) ≡ None
exclusive_waits_for_concurrent = simp set_sizes

teardown_cuts_all_that_wait : interleaves.cut_note (interleave (fires 0 (Branch 0) ∷ fires 1 (Branch 1) ∷ fires 2 (Branch 0) ∷ admit 0 ∷ [])) (Branch 2) ≡ task 1 ∷ task 2 ∷ []
teardown_cuts_all_that_wait = refl

dead_after_the_teardown : interleaves.dead_by (interleave (fires 0 (Branch 0) ∷ fires 1 (Branch 2) ∷ [])) ≡ Some (ByFired (task 1))
dead_after_the_teardown = refl

cuts_of_a_teardown_are_given : interleaves.IsGiven (interleave (fires 0 (Branch 0) ∷ fires 1 (Branch 1) ∷ [])) (notes.Fired (task 2) (Branch 2) [] (task 0 ∷ task 1 ∷ []))
cuts_of_a_teardown_are_given = (refl, refl)

admission_of_the_oldest_is_given : interleaves.IsGiven (interleave (fires 0 (Branch 0) ∷ fires 1 (Branch 1) ∷ [])) (admit 0)
admission_of_the_oldest_is_given = sym oldest_is_admitted

-- a site where tasks 0 and 1 are suspended
abbrev pub site : List Note → sites.SiteState
site before = sites.kept (sites.start 0 0) before

nothing_to_resume : sites.dead_by (site []) ≡ Some NoneWaiting
nothing_to_resume = refl

first_suspended_goes_on_first : (site (notes.Suspend (task 0) ∷ notes.Suspend (task 1) ∷ fires 2 (Site 0 0) ∷ [])).suspended ≡ task 1 ∷ []
first_suspended_goes_on_first = refl

resumption_is_given : sites.IsGiven (site (notes.Suspend (task 0) ∷ [])) (fires 2 (Site 0 0))
resumption_is_given = (refl, refl)

none_waiting_is_given : sites.IsGiven (site []) (notes.Dead (task 2) (Site 0 0) NoneWaiting)
none_waiting_is_given = refl

-- a throttle of 1: booked and queued tasks fill it, resumed ones don't
abbrev pub throttle : List Note → queues.QueueState
throttle before = queues.kept (queues.start 0 (Throttle 1)) before

abbrev pub book : ℕ → Note
book attempt = notes.Book (task attempt) false None

throttle_has_room : queues.book_note (throttle []) false ≡ None
throttle_has_room = simp set_sizes

booked_task_fills_it : queues.book_note (throttle (book 0 ∷ [])) false ≡ Some 1
booked_task_fills_it = simp set_sizes

queued_task_fills_it : queues.book_note (throttle (book 0 ∷ notes.Put (task 0) None ∷ [])) false ≡ Some 1
queued_task_fills_it = simp set_sizes

resumed_task_needs_no_room : queues.book_note (throttle (book 0 ∷ [])) true ≡ None
resumed_task_needs_no_room = refl

taken_task_leaves_room : queues.book_note (throttle (book 0 ∷ notes.Put (task 0) None ∷ notes.Take (Some (task 0)) ∷ [])) false ≡ None
taken_task_leaves_room = simp set_sizes

full_is_given : queues.IsGiven (throttle (book 0 ∷ [])) (notes.Book (task 1) false (Some 1))
full_is_given = sym booked_task_fills_it

-- a queue that discards above 1
abbrev pub discard : List Note → queues.QueueState
discard before = queues.kept (queues.start 0 (Discard 1)) before

first_put_drops_nothing : queues.put_note (discard (book 0 ∷ [])) ≡ None
first_put_drops_nothing = refl

second_put_drops_the_oldest : queues.put_note (discard (book 0 ∷ notes.Put (task 0) None ∷ book 1 ∷ [])) ≡ Some (task 0)
second_put_drops_the_oldest = refl

dropped_task_is_not_taken : queues.take_note (discard (book 0 ∷ notes.Put (task 0) None ∷ book 1 ∷ notes.Put (task 1) (Some (task 0)) ∷ [])) ≡ Some (task 1)
dropped_task_is_not_taken = refl

dropped_task_is_given : queues.IsGiven (discard (book 0 ∷ notes.Put (task 0) None ∷ book 1 ∷ [])) (notes.Put (task 1) (Some (task 0)))
dropped_task_is_given = refl

two_are_kept_where_two_may : queues.put_note (queues.kept (queues.start 0 (Discard 2)) (book 0 ∷ notes.Put (task 0) None ∷ book 1 ∷ [])) ≡ None
two_are_kept_where_two_may = refl

-- a meter of 1
abbrev pub meter : List Note → meters.MeterState
meter before = meters.kept (meters.start 1) before

first_draw_is_the_first : meters.draw_note (meter []) ≡ Some 0
first_draw_is_the_first = refl

spent_budget_gives_nothing : meters.draw_note (meter (notes.Draw (Some 0) ∷ [])) ≡ None
spent_budget_gives_nothing = refl

first_draw_is_given : meters.IsGiven (meter []) (notes.Draw (Some 0))
first_draw_is_given = refl

draw_past_the_budget_is_not_given : meters.IsGiven (meter (notes.Draw (Some 0) ∷ [])) (notes.Draw (Some 1)) → ⊥
draw_past_the_budget_is_not_given given = cc

nobody_has_left : meters.IsGiven (meter []) (notes.Left 0)
nobody_has_left = refl
