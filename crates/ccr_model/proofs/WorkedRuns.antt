-- Worked runs of receivers, joins, choices, gathers and queues, checked by computation: the serial order gives this history, which is legal, complete and covered, and keeps the laws after each event.
use Rattle.std.proofs.Common.{◌≡◌, true, List, [], ◌∷◌, Some, None, refl}
use Rattle.ccr_base.specs.declared.names.MsgId.TheVariants.{Script}
use Rattle.ccr_base.specs.declared.patterns.Pred.TheVariants.{Any, Ge}
use Rattle.ccr_base.specs.declared.patterns.Pattern.TheVariants.{Slots, Gather}
use Rattle.ccr_base.specs.declared.names.Spot.TheVariants.{Branch}
use Rattle.ccr_wiring.specs.declared.parts.Parts.{Parts}
use Rattle.ccr_base.specs.declared.policies.Policy.TheVariants.{Unbounded, Discard, Throttle}
use Rattle.ccr_wiring.specs.declared.parts.Kind.TheVariants as kinds
use Rattle.ccr_base.specs.declared.policies.Group.TheVariants as groups
use Rattle.ccr_model.specs.declared.history.Event.{Event}
use Rattle.ccr_model.specs.declared.history.Event.TheVariants.{Post, Fire, Put, Start, End}
use Rattle.ccr_model.specs.declared.history.EndHow.TheVariants as ends
use Rattle.ccr_model.specs.Legal.{first_refusal, is_complete, is_covered}
use Rattle.ccr_model.specs.Order.{first, finished_in}
use Rattle.ccr_model.specs.Consequences.{keeps_laws_along}
use Rattle.ccr_model.proofs.WorkedParts.{task, message, sent, slot, queue, branch, arbiter, parts}

abbrev pub no_posts_wiring : Parts
no_posts_wiring = parts 10000 (queue Unbounded ∷ []) ([]) (([]) ∷ []) (arbiter kinds.Receive (branch groups.Always 0 0 (Slots (slot 0 1 Any ∷ [])) ∷ []) ∷ []) ([])

abbrev pub no_posts_history : List Event
no_posts_history = []

no_posts-legal : first_refusal no_posts_wiring [] 0 no_posts_history ≡ None
no_posts-legal = refl

no_posts-order : finished_in 1 no_posts_wiring 0 [] ≡ no_posts_history
no_posts-order = refl

no_posts-complete : is_complete no_posts_wiring no_posts_history ≡ true
no_posts-complete = refl

no_posts-covered : is_covered no_posts_wiring no_posts_history ≡ true
no_posts-covered = refl

no_posts-laws : keeps_laws_along no_posts_wiring [] no_posts_history ≡ true
no_posts-laws = refl

abbrev pub one_post_wiring : Parts
one_post_wiring = parts 10000 (queue Unbounded ∷ []) ([]) (([]) ∷ []) (arbiter kinds.Receive (branch groups.Always 0 0 (Slots (slot 0 1 Any ∷ [])) ∷ []) ∷ []) ((sent 0 7 ([]) ∷ []) ∷ [])

abbrev pub one_post_history : List Event
one_post_history = Post (message (Script 0 0) 0 7 ([])) ∷ Fire (task 1 0) (Branch 0) ((Script 0 0) ∷ []) ([]) ∷ Put (task 1 0) None ∷ Start (task 1 0) 1 ∷ End (task 1 0) ends.Done ∷ []

one_post-legal : first_refusal one_post_wiring [] 0 one_post_history ≡ None
one_post-legal = refl

one_post-order : finished_in 6 one_post_wiring 1 [] ≡ one_post_history
one_post-order = refl

one_post-complete : is_complete one_post_wiring one_post_history ≡ true
one_post-complete = refl

one_post-covered : is_covered one_post_wiring one_post_history ≡ true
one_post-covered = refl

one_post-laws : keeps_laws_along one_post_wiring [] one_post_history ≡ true
one_post-laws = refl

abbrev pub once_keeps_second_wiring : Parts
once_keeps_second_wiring = parts 10000 (queue Unbounded ∷ []) ([]) (([]) ∷ []) (arbiter kinds.Receive (branch groups.Once 0 0 (Slots (slot 0 1 Any ∷ [])) ∷ []) ∷ []) ((sent 0 7 ([]) ∷ sent 0 8 ([]) ∷ []) ∷ [])

abbrev pub once_keeps_second_history : List Event
once_keeps_second_history = Post (message (Script 0 0) 0 7 ([])) ∷ Post (message (Script 0 1) 0 8 ([])) ∷ Fire (task 1 0) (Branch 0) ((Script 0 0) ∷ []) ([]) ∷ Put (task 1 0) None ∷ Start (task 1 0) 1 ∷ End (task 1 0) ends.Done ∷ []

once_keeps_second-legal : first_refusal once_keeps_second_wiring [] 0 once_keeps_second_history ≡ None
once_keeps_second-legal = refl

once_keeps_second-order : finished_in 7 once_keeps_second_wiring 1 [] ≡ once_keeps_second_history
once_keeps_second-order = refl

once_keeps_second-complete : is_complete once_keeps_second_wiring once_keeps_second_history ≡ true
once_keeps_second-complete = refl

once_keeps_second-covered : is_covered once_keeps_second_wiring once_keeps_second_history ≡ true
once_keeps_second-covered = refl

once_keeps_second-laws : keeps_laws_along once_keeps_second_wiring [] once_keeps_second_history ≡ true
once_keeps_second-laws = refl

abbrev pub predicate_wiring : Parts
predicate_wiring = parts 10000 (queue Unbounded ∷ []) ([]) (([]) ∷ []) (arbiter kinds.Receive (branch groups.Always 0 0 (Slots (slot 0 1 (Ge 10) ∷ [])) ∷ []) ∷ []) ((sent 0 3 ([]) ∷ sent 0 12 ([]) ∷ sent 0 4 ([]) ∷ sent 0 15 ([]) ∷ []) ∷ [])

abbrev pub predicate_history : List Event
predicate_history = Post (message (Script 0 0) 0 3 ([])) ∷ Post (message (Script 0 1) 0 12 ([])) ∷ Post (message (Script 0 2) 0 4 ([])) ∷ Post (message (Script 0 3) 0 15 ([])) ∷ Fire (task 1 0) (Branch 0) ((Script 0 1) ∷ []) ([]) ∷ Fire (task 1 1) (Branch 0) ((Script 0 3) ∷ []) ([]) ∷ Put (task 1 0) None ∷ Put (task 1 1) None ∷ Start (task 1 0) 1 ∷ End (task 1 0) ends.Done ∷ Start (task 1 1) 1 ∷ End (task 1 1) ends.Done ∷ []

predicate-legal : first_refusal predicate_wiring [] 0 predicate_history ≡ None
predicate-legal = refl

predicate-order : finished_in 13 predicate_wiring 1 [] ≡ predicate_history
predicate-order = refl

predicate-complete : is_complete predicate_wiring predicate_history ≡ true
predicate-complete = refl

predicate-covered : is_covered predicate_wiring predicate_history ≡ true
predicate-covered = refl

predicate-laws : keeps_laws_along predicate_wiring [] predicate_history ≡ true
predicate-laws = refl

abbrev pub join_wiring : Parts
join_wiring = parts 10000 (queue Unbounded ∷ []) ([]) (([]) ∷ []) (arbiter kinds.Receive (branch groups.Always 0 0 (Slots (slot 0 1 Any ∷ slot 1 1 Any ∷ [])) ∷ []) ∷ []) ((sent 0 1 ([]) ∷ sent 0 2 ([]) ∷ sent 0 3 ([]) ∷ sent 1 9 ([]) ∷ []) ∷ [])

abbrev pub join_history : List Event
join_history = Post (message (Script 0 0) 0 1 ([])) ∷ Post (message (Script 0 1) 0 2 ([])) ∷ Post (message (Script 0 2) 0 3 ([])) ∷ Post (message (Script 0 3) 1 9 ([])) ∷ Fire (task 1 0) (Branch 0) ((Script 0 0) ∷ (Script 0 3) ∷ []) ([]) ∷ Put (task 1 0) None ∷ Start (task 1 0) 1 ∷ End (task 1 0) ends.Done ∷ []

join-legal : first_refusal join_wiring [] 0 join_history ≡ None
join-legal = refl

join-order : finished_in 9 join_wiring 1 [] ≡ join_history
join-order = refl

join-complete : is_complete join_wiring join_history ≡ true
join-complete = refl

join-covered : is_covered join_wiring join_history ≡ true
join-covered = refl

join-laws : keeps_laws_along join_wiring [] join_history ≡ true
join-laws = refl

abbrev pub choice_wiring : Parts
choice_wiring = parts 10000 (queue Unbounded ∷ []) ([]) (([]) ∷ []) (arbiter kinds.Choice (branch groups.Choice 0 0 (Slots (slot 0 1 Any ∷ [])) ∷ branch groups.Choice 0 0 (Slots (slot 1 1 Any ∷ [])) ∷ []) ∷ []) ((sent 0 1 ([]) ∷ sent 1 2 ([]) ∷ []) ∷ [])

abbrev pub choice_history : List Event
choice_history = Post (message (Script 0 0) 0 1 ([])) ∷ Post (message (Script 0 1) 1 2 ([])) ∷ Fire (task 1 0) (Branch 0) ((Script 0 0) ∷ []) ([]) ∷ Put (task 1 0) None ∷ Start (task 1 0) 1 ∷ End (task 1 0) ends.Done ∷ []

choice-legal : first_refusal choice_wiring [] 0 choice_history ≡ None
choice-legal = refl

choice-order : finished_in 7 choice_wiring 1 [] ≡ choice_history
choice-order = refl

choice-complete : is_complete choice_wiring choice_history ≡ true
choice-complete = refl

choice-covered : is_covered choice_wiring choice_history ≡ true
choice-covered = refl

choice-laws : keeps_laws_along choice_wiring [] choice_history ≡ true
choice-laws = refl

abbrev pub gather_wiring : Parts
gather_wiring = parts 10000 (queue Unbounded ∷ []) ([]) (([]) ∷ []) (arbiter kinds.Receive (branch groups.Once 0 0 (Gather 3 0 1) ∷ []) ∷ []) ((sent 0 1 ([]) ∷ sent 1 2 ([]) ∷ sent 1 3 ([]) ∷ sent 0 4 ([]) ∷ []) ∷ [])

abbrev pub gather_history : List Event
gather_history = Post (message (Script 0 0) 0 1 ([])) ∷ Post (message (Script 0 1) 1 2 ([])) ∷ Post (message (Script 0 2) 1 3 ([])) ∷ Post (message (Script 0 3) 0 4 ([])) ∷ Fire (task 1 0) (Branch 0) ((Script 0 0) ∷ (Script 0 3) ∷ (Script 0 1) ∷ []) ([]) ∷ Put (task 1 0) None ∷ Start (task 1 0) 1 ∷ End (task 1 0) ends.Done ∷ []

gather-legal : first_refusal gather_wiring [] 0 gather_history ≡ None
gather-legal = refl

gather-order : finished_in 9 gather_wiring 1 [] ≡ gather_history
gather-order = refl

gather-complete : is_complete gather_wiring gather_history ≡ true
gather-complete = refl

gather-covered : is_covered gather_wiring gather_history ≡ true
gather-covered = refl

gather-laws : keeps_laws_along gather_wiring [] gather_history ≡ true
gather-laws = refl

gather_other_split-legal : first_refusal gather_wiring [] 0 (Post (message (Script 0 0) 0 1 ([])) ∷ Post (message (Script 0 1) 1 2 ([])) ∷ Post (message (Script 0 2) 1 3 ([])) ∷ Post (message (Script 0 3) 0 4 ([])) ∷ Fire (task 1 0) (Branch 0) ((Script 0 0) ∷ (Script 0 1) ∷ (Script 0 2) ∷ []) ([]) ∷ Put (task 1 0) None ∷ Start (task 1 0) 1 ∷ End (task 1 0) ends.Done ∷ []) ≡ None
gather_other_split-legal = refl

gather_other_split-quiet : first gather_wiring 1 (Post (message (Script 0 0) 0 1 ([])) ∷ Post (message (Script 0 1) 1 2 ([])) ∷ Post (message (Script 0 2) 1 3 ([])) ∷ Post (message (Script 0 3) 0 4 ([])) ∷ Fire (task 1 0) (Branch 0) ((Script 0 0) ∷ (Script 0 1) ∷ (Script 0 2) ∷ []) ([]) ∷ Put (task 1 0) None ∷ Start (task 1 0) 1 ∷ End (task 1 0) ends.Done ∷ []) ≡ None
gather_other_split-quiet = refl

abbrev pub discard_wiring : Parts
discard_wiring = parts 10000 (queue (Discard 2) ∷ []) ([]) (([]) ∷ []) (arbiter kinds.Receive (branch groups.Always 0 0 (Slots (slot 0 1 Any ∷ [])) ∷ []) ∷ []) ((sent 0 1 ([]) ∷ sent 0 2 ([]) ∷ sent 0 3 ([]) ∷ sent 0 4 ([]) ∷ []) ∷ [])

abbrev pub discard_history : List Event
discard_history = Post (message (Script 0 0) 0 1 ([])) ∷ Post (message (Script 0 1) 0 2 ([])) ∷ Post (message (Script 0 2) 0 3 ([])) ∷ Post (message (Script 0 3) 0 4 ([])) ∷ Fire (task 1 0) (Branch 0) ((Script 0 0) ∷ []) ([]) ∷ Fire (task 1 1) (Branch 0) ((Script 0 1) ∷ []) ([]) ∷ Fire (task 1 2) (Branch 0) ((Script 0 2) ∷ []) ([]) ∷ Fire (task 1 3) (Branch 0) ((Script 0 3) ∷ []) ([]) ∷ Put (task 1 0) None ∷ Put (task 1 1) None ∷ Put (task 1 2) (Some (task 1 0)) ∷ Put (task 1 3) (Some (task 1 1)) ∷ Start (task 1 2) 1 ∷ End (task 1 2) ends.Done ∷ Start (task 1 3) 1 ∷ End (task 1 3) ends.Done ∷ []

discard-legal : first_refusal discard_wiring [] 0 discard_history ≡ None
discard-legal = refl

discard-order : finished_in 17 discard_wiring 1 [] ≡ discard_history
discard-order = refl

discard-complete : is_complete discard_wiring discard_history ≡ true
discard-complete = refl

discard-covered : is_covered discard_wiring discard_history ≡ true
discard-covered = refl

discard-laws : keeps_laws_along discard_wiring [] discard_history ≡ true
discard-laws = refl

abbrev pub throttle_wiring : Parts
throttle_wiring = parts 10000 (queue (Throttle 1) ∷ []) ([]) (([]) ∷ []) (arbiter kinds.Receive (branch groups.Always 0 0 (Slots (slot 0 1 Any ∷ [])) ∷ []) ∷ []) ((sent 0 1 ([]) ∷ sent 0 2 ([]) ∷ sent 0 3 ([]) ∷ []) ∷ [])

abbrev pub throttle_history : List Event
throttle_history = Post (message (Script 0 0) 0 1 ([])) ∷ Post (message (Script 0 1) 0 2 ([])) ∷ Post (message (Script 0 2) 0 3 ([])) ∷ Fire (task 1 0) (Branch 0) ((Script 0 0) ∷ []) ([]) ∷ Put (task 1 0) None ∷ Start (task 1 0) 1 ∷ Fire (task 1 1) (Branch 0) ((Script 0 1) ∷ []) ([]) ∷ Put (task 1 1) None ∷ End (task 1 0) ends.Done ∷ Start (task 1 1) 1 ∷ Fire (task 1 2) (Branch 0) ((Script 0 2) ∷ []) ([]) ∷ Put (task 1 2) None ∷ End (task 1 1) ends.Done ∷ Start (task 1 2) 1 ∷ End (task 1 2) ends.Done ∷ []

throttle-legal : first_refusal throttle_wiring [] 0 throttle_history ≡ None
throttle-legal = refl

throttle-order : finished_in 16 throttle_wiring 1 [] ≡ throttle_history
throttle-order = refl

throttle-complete : is_complete throttle_wiring throttle_history ≡ true
throttle-complete = refl

throttle-covered : is_covered throttle_wiring throttle_history ≡ true
throttle-covered = refl

throttle-laws : keeps_laws_along throttle_wiring [] throttle_history ≡ true
throttle-laws = refl

abbrev pub rival_joins_wiring : Parts
rival_joins_wiring = parts 10000 (queue Unbounded ∷ []) ([]) (([]) ∷ []) (arbiter kinds.Receive (branch groups.Always 0 0 (Slots (slot 0 1 Any ∷ slot 1 1 Any ∷ [])) ∷ []) ∷ []) ((sent 0 5 ([]) ∷ []) ∷ (sent 0 6 ([]) ∷ []) ∷ (sent 1 1 ([]) ∷ []) ∷ [])

abbrev pub rival_joins_history : List Event
rival_joins_history = Post (message (Script 0 0) 0 5 ([])) ∷ Post (message (Script 1 0) 0 6 ([])) ∷ Post (message (Script 2 0) 1 1 ([])) ∷ Fire (task 3 0) (Branch 0) ((Script 0 0) ∷ (Script 2 0) ∷ []) ([]) ∷ Put (task 3 0) None ∷ Start (task 3 0) 3 ∷ End (task 3 0) ends.Done ∷ []

rival_joins-legal : first_refusal rival_joins_wiring [] 0 rival_joins_history ≡ None
rival_joins-legal = refl

rival_joins-order : finished_in 8 rival_joins_wiring 3 [] ≡ rival_joins_history
rival_joins-order = refl

rival_joins-complete : is_complete rival_joins_wiring rival_joins_history ≡ true
rival_joins-complete = refl

rival_joins-covered : is_covered rival_joins_wiring rival_joins_history ≡ true
rival_joins-covered = refl

rival_joins-laws : keeps_laws_along rival_joins_wiring [] rival_joins_history ≡ true
rival_joins-laws = refl

abbrev pub portset_wiring : Parts
portset_wiring = parts 10000 (queue Unbounded ∷ []) ([]) (([]) ∷ []) (arbiter kinds.Receive (branch groups.Always 0 0 (Slots (slot 0 3 Any ∷ [])) ∷ []) ∷ []) ((sent 0 1 ([]) ∷ sent 0 2 ([]) ∷ sent 1 3 ([]) ∷ sent 0 4 ([]) ∷ sent 0 5 ([]) ∷ []) ∷ [])

abbrev pub portset_history : List Event
portset_history = Post (message (Script 0 0) 0 1 ([])) ∷ Post (message (Script 0 1) 0 2 ([])) ∷ Post (message (Script 0 2) 1 3 ([])) ∷ Post (message (Script 0 3) 0 4 ([])) ∷ Post (message (Script 0 4) 0 5 ([])) ∷ Fire (task 1 0) (Branch 0) ((Script 0 0) ∷ (Script 0 1) ∷ (Script 0 3) ∷ []) ([]) ∷ Put (task 1 0) None ∷ Start (task 1 0) 1 ∷ End (task 1 0) ends.Done ∷ []

portset-legal : first_refusal portset_wiring [] 0 portset_history ≡ None
portset-legal = refl

portset-order : finished_in 10 portset_wiring 1 [] ≡ portset_history
portset-order = refl

portset-complete : is_complete portset_wiring portset_history ≡ true
portset-complete = refl

portset-covered : is_covered portset_wiring portset_history ≡ true
portset-covered = refl

portset-laws : keeps_laws_along portset_wiring [] portset_history ≡ true
portset-laws = refl

abbrev pub gather_reversed_wiring : Parts
gather_reversed_wiring = parts 10000 (queue Unbounded ∷ []) ([]) (([]) ∷ []) (arbiter kinds.Receive (branch groups.Once 0 0 (Gather 3 1 0) ∷ []) ∷ []) ((sent 1 1 ([]) ∷ sent 1 2 ([]) ∷ sent 0 3 ([]) ∷ sent 0 4 ([]) ∷ []) ∷ [])

abbrev pub gather_reversed_history : List Event
gather_reversed_history = Post (message (Script 0 0) 1 1 ([])) ∷ Post (message (Script 0 1) 1 2 ([])) ∷ Post (message (Script 0 2) 0 3 ([])) ∷ Post (message (Script 0 3) 0 4 ([])) ∷ Fire (task 1 0) (Branch 0) ((Script 0 0) ∷ (Script 0 2) ∷ (Script 0 3) ∷ []) ([]) ∷ Put (task 1 0) None ∷ Start (task 1 0) 1 ∷ End (task 1 0) ends.Done ∷ []

gather_reversed-legal : first_refusal gather_reversed_wiring [] 0 gather_reversed_history ≡ None
gather_reversed-legal = refl

gather_reversed-order : finished_in 9 gather_reversed_wiring 1 [] ≡ gather_reversed_history
gather_reversed-order = refl

gather_reversed-complete : is_complete gather_reversed_wiring gather_reversed_history ≡ true
gather_reversed-complete = refl

gather_reversed-covered : is_covered gather_reversed_wiring gather_reversed_history ≡ true
gather_reversed-covered = refl

gather_reversed-laws : keeps_laws_along gather_reversed_wiring [] gather_reversed_history ≡ true
gather_reversed-laws = refl
