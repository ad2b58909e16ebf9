-- Worked runs of two Interleaves that are combined into one domain, checked by computation as in WorkedRuns; and wrong events in them.
use Rattle.std.proofs.Common.{◌≡◌, true, List, [], ◌∷◌, ◌++◌, Some, None, refl}
use Rattle.ccr_base.specs.declared.names.MsgId.TheVariants.{Script}
use Rattle.ccr_base.specs.declared.patterns.Pred.TheVariants.{Any}
use Rattle.ccr_base.specs.declared.patterns.Pattern.TheVariants.{Slots}
use Rattle.ccr_base.specs.declared.names.Spot.TheVariants.{Branch}
use Rattle.ccr_base.specs.declared.messages.Sent.{Sent}
use Rattle.ccr_wiring.specs.declared.parts.Parts.{Parts}
use Rattle.ccr_wiring.specs.declared.parts.ArbiterPart.{ArbiterPart}
use Rattle.ccr_base.specs.declared.policies.Policy.TheVariants.{Unbounded}
use Rattle.ccr_wiring.specs.declared.parts.Kind.TheVariants as kinds
use Rattle.ccr_base.specs.declared.policies.Group.TheVariants as groups
use Rattle.ccr_model.specs.declared.history.Event.{Event}
use Rattle.ccr_model.specs.declared.history.Event.TheVariants.{Post, Fire, Admit, Put, Start, End}
use Rattle.ccr_model.specs.declared.history.EndHow.TheVariants as ends
use Rattle.ccr_model.specs.declared.rule.Rule.TheVariants as rules
use Rattle.ccr_model.specs.Tasks.{waiting}
use Rattle.ccr_model.specs.Legal.{first_refusal, is_complete, is_covered}
use Rattle.ccr_model.specs.Counts.{totals}
use Rattle.ccr_model.specs.Order.{finished_in}
use Rattle.ccr_model.specs.Consequences.{keeps_laws_along}
use Rattle.ccr_model.proofs.WorkedParts.{task, message, sent, slot, queue, branch, arbiter, parts}

-- the first has an exclusive branch, the second a concurrent one and a teardown
abbrev interleaves : List ArbiterPart
interleaves =
    arbiter kinds.Interleave (branch groups.Exclusive 0 0 (Slots (slot 0 1 Any ∷ [])) ∷ [])
    ∷ arbiter kinds.Interleave (branch groups.Concurrent 0 0 (Slots (slot 1 1 Any ∷ [])) ∷ branch groups.Teardown 0 0 (Slots (slot 2 1 Any ∷ [])) ∷ []) ∷ []

-- each with a protection of its own
abbrev apart_wiring : List Sent → Parts
apart_wiring posts = parts 10000 (queue Unbounded ∷ []) [] ([] ∷ []) interleaves (posts ∷ [])

-- both with one protection
abbrev combined_wiring : List Sent → Parts
combined_wiring posts = record (apart_wiring posts) { domains = record { members = 0 ∷ 1 ∷ [] } ∷ [] }

abbrev two_posts : List Sent
two_posts = sent 0 1 [] ∷ sent 1 2 [] ∷ []

abbrev three_posts : List Sent
three_posts = sent 0 1 [] ∷ sent 1 2 [] ∷ sent 2 3 [] ∷ []

-- an exclusive task of the first and a concurrent one of the second wait
abbrev two_fired : List Event
two_fired = Fire (task 1 0) (Branch 0) (Script 0 0 ∷ []) [] ∷ Fire (task 1 1) (Branch 1) (Script 0 1 ∷ []) [] ∷ []

abbrev two_posted : List Event
two_posted = Post (message (Script 0 0) 0 1 []) ∷ Post (message (Script 0 1) 1 2 []) ∷ []

abbrev three_posted : List Event
three_posted = two_posted ++ Post (message (Script 0 2) 2 3 []) ∷ []

-- one after the other
abbrev one_by_one_history : List Event
one_by_one_history =
    two_posted ++ two_fired
    ++ Admit (task 1 0) ∷ Put (task 1 0) None ∷ Start (task 1 0) 1 ∷ End (task 1 0) ends.Done
    ∷ Admit (task 1 1) ∷ Put (task 1 1) None ∷ Start (task 1 1) 1 ∷ End (task 1 1) ends.Done ∷ []

one_by_one-legal : first_refusal (combined_wiring two_posts) [] 0 one_by_one_history ≡ None
one_by_one-legal = refl

one_by_one-order : finished_in 13 (combined_wiring two_posts) 1 [] ≡ one_by_one_history
one_by_one-order = refl

one_by_one-complete : is_complete (combined_wiring two_posts) one_by_one_history ≡ true
one_by_one-complete = refl

one_by_one-covered : is_covered (combined_wiring two_posts) one_by_one_history ≡ true
one_by_one-covered = refl

one_by_one-laws : keeps_laws_along (combined_wiring two_posts) [] one_by_one_history ≡ true
one_by_one-laws = refl

-- the second's teardown cuts the waiting tasks of both
abbrev cuts_both_history : List Event
cuts_both_history =
    three_posted ++ two_fired
    ++ Fire (task 1 2) (Branch 2) (Script 0 2 ∷ []) (task 1 0 ∷ task 1 1 ∷ [])
    ∷ Admit (task 1 2) ∷ Put (task 1 2) None ∷ Start (task 1 2) 1 ∷ End (task 1 2) ends.Done ∷ []

cuts_both-legal : first_refusal (combined_wiring three_posts) [] 0 cuts_both_history ≡ None
cuts_both-legal = refl

cuts_both-order : finished_in 11 (combined_wiring three_posts) 1 [] ≡ cuts_both_history
cuts_both-order = refl

cuts_both-complete : is_complete (combined_wiring three_posts) cuts_both_history ≡ true
cuts_both-complete = refl

cuts_both-covered : is_covered (combined_wiring three_posts) cuts_both_history ≡ true
cuts_both-covered = refl

cuts_both-laws : keeps_laws_along (combined_wiring three_posts) [] cuts_both_history ≡ true
cuts_both-laws = refl

cuts_both-totals : totals cuts_both_history ≡ record { posted = 3; taken = 3; held = 0; fired = 3; done = 1; failed = 0; shed = 0; yielded = 0; cut = 2; dropped = 0; unended = 0 }
cuts_both-totals = refl

-- who waits in the domain: by firing, of both; no one waits in a domain of the second's number
both_wait : (waiting (combined_wiring two_posts) (two_posted ++ two_fired) 0 ≡ task 1 0 ∷ task 1 1 ∷ []) × (waiting (combined_wiring two_posts) (two_posted ++ two_fired) 1 ≡ [])
both_wait = (refl, refl)

each_waits_apart : (waiting (apart_wiring two_posts) (two_posted ++ two_fired) 0 ≡ task 1 0 ∷ []) × (waiting (apart_wiring two_posts) (two_posted ++ two_fired) 1 ≡ task 1 1 ∷ [])
each_waits_apart = (refl, refl)

-- a concurrent task of the second isn't admitted beside an exclusive one of the first
admitted_beside : first_refusal (combined_wiring two_posts) [] 0 (two_posted ++ two_fired ++ Admit (task 1 0) ∷ Admit (task 1 1) ∷ []) ≡ Some (5, rules.Admission)
admitted_beside = refl

admitted_apart : first_refusal (apart_wiring two_posts) [] 0 (two_posted ++ two_fired ++ Admit (task 1 0) ∷ Admit (task 1 1) ∷ []) ≡ None
admitted_apart = refl

-- nor before it
admitted_before : first_refusal (combined_wiring two_posts) [] 0 (two_posted ++ two_fired ++ Admit (task 1 1) ∷ []) ≡ Some (4, rules.OldestWaiting)
admitted_before = refl

-- the teardown's cuts are those of both
cuts_its_own : first_refusal (combined_wiring three_posts) [] 0 (three_posted ++ two_fired ++ Fire (task 1 2) (Branch 2) (Script 0 2 ∷ []) (task 1 1 ∷ []) ∷ []) ≡ Some (5, rules.DueCuts)
cuts_its_own = refl

cuts_apart : first_refusal (apart_wiring three_posts) [] 0 (three_posted ++ two_fired ++ Fire (task 1 2) (Branch 2) (Script 0 2 ∷ []) (task 1 1 ∷ []) ∷ []) ≡ None
cuts_apart = refl

-- after the second's teardown no branch of the first fires
fires_after_teardown : first_refusal (combined_wiring three_posts) [] 0 (three_posted ++ Fire (task 1 0) (Branch 2) (Script 0 2 ∷ []) [] ∷ Fire (task 1 1) (Branch 0) (Script 0 0 ∷ []) [] ∷ []) ≡ Some (4, rules.LiveSpot)
fires_after_teardown = refl

fires_apart : first_refusal (apart_wiring three_posts) [] 0 (three_posted ++ Fire (task 1 0) (Branch 2) (Script 0 2 ∷ []) [] ∷ Fire (task 1 1) (Branch 0) (Script 0 0 ∷ []) [] ∷ []) ≡ None
fires_apart = refl
