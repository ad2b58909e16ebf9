-- The limits of a wiring.
use Rattle.std.specs.Prelude.{ℕ, Bool, false, not, ◌==◌, ◌&&◌, ◌||◌, nat_lt, List, map, length, sum}
use Rattle.std.specs.List.{list_any}
use Rattle.ccr_base.specs.Bounds.{last_index, most_actions, most_arbiters, most_arg, most_branches, most_causes, most_count, most_domains, most_handlers, most_members, most_policy, most_ports, most_posters, most_queues, most_script_posts, most_set_ports, most_sets, most_slots, most_task_posts}
use Rattle.ccr_base.specs.declared.handlers.Action.{Action}
use Rattle.ccr_base.specs.declared.handlers.Action.TheVariants.{Post, Fail}
use Rattle.ccr_base.specs.declared.handlers.Expr.{Expr}
use Rattle.ccr_base.specs.declared.handlers.Expr.TheVariants.{Arg, Part}
use Rattle.ccr_base.specs.declared.policies.Policy.{Policy}
use Rattle.ccr_base.specs.declared.policies.Policy.TheVariants.{Unbounded, Discard, Throttle}
use Rattle.ccr_base.specs.declared.patterns.Pattern.{Pattern}
use Rattle.ccr_base.specs.declared.patterns.Pattern.TheVariants.{Slots, Gather}
use Rattle.ccr_base.specs.declared.patterns.Slot.{Slot}
use Rattle.ccr_wiring.specs.declared.parts.ArbiterPart.{ArbiterPart}
use Rattle.ccr_wiring.specs.declared.parts.BranchPart.{BranchPart}
use Rattle.ccr_wiring.specs.declared.parts.HandlerPart.{HandlerPart}
use Rattle.ccr_wiring.specs.declared.parts.PosterPart.{PosterPart}
use Rattle.ccr_wiring.specs.declared.parts.QueuePart.{QueuePart}
use Rattle.ccr_wiring.specs.declared.parts.SetPart.{SetPart}
use Rattle.ccr_wiring.specs.declared.parts.DomainPart.{DomainPart}
use Rattle.ccr_wiring.specs.declared.parts.Parts.{Parts}
use Rattle.ccr_wiring.specs.Openness.{is_closed}

-- whether a number lies outside its limits
abbrev pub is_outside : ℕ → ℕ → ℕ → Bool
is_outside least most n = nat_lt n least || nat_lt most n

-- a policy's number is 1 to 1,000
abbrev pub policy_is_outside : Policy → Bool
policy_is_outside Unbounded = false
policy_is_outside (Discard n) = is_outside 1 most_policy n
policy_is_outside (Throttle n) = is_outside 1 most_policy n

-- the number of a message is 0 to 65,535, the index of a number in its value 0 to 7
abbrev pub expr_is_outside : Expr → Bool
expr_is_outside (Arg k) = is_outside 0 most_arg k
expr_is_outside (Part k index) = is_outside 0 most_arg k || is_outside 0 last_index index
expr_is_outside _ = false

-- the action's expression is outside its limits
abbrev pub action_is_outside : Action → Bool
action_is_outside (Post port expr) = expr_is_outside expr
action_is_outside (Fail expr) = expr_is_outside expr
action_is_outside _ = false

-- a slot takes 1 to 1,000 messages, no more and no fewer
abbrev pub slot_is_outside : Slot → Bool
slot_is_outside slot = not (slot.least == slot.most) || is_outside 1 most_count slot.least

-- 1 to 8 slots
abbrev pub slots_are_outside : List Slot → Bool
slots_are_outside slots = is_outside 1 most_slots (length slots) || list_any slot_is_outside slots

-- a pattern has 1 to 8 slots, a gather a total of 1 to 1,000
abbrev pub pattern_is_outside : Pattern → Bool
pattern_is_outside (Slots slots) = slots_are_outside slots
pattern_is_outside (Gather total first second) = is_outside 1 most_count total

-- a handler has at most 16 actions
abbrev pub handler_is_outside : HandlerPart → Bool
handler_is_outside part = nat_lt most_actions (length part.handler.actions) || list_any action_is_outside part.handler.actions

-- the branch's pattern is outside its limits
abbrev pub branch_is_outside : BranchPart → Bool
branch_is_outside branch = pattern_is_outside branch.pattern

-- some branch of the arbiter is outside its limits
abbrev pub arbiter_is_outside : ArbiterPart → Bool
arbiter_is_outside arbiter = list_any branch_is_outside arbiter.branches

-- the queue's policy is outside its limits
abbrev pub queue_is_outside : QueuePart → Bool
queue_is_outside part = policy_is_outside part.policy

-- a set has 1 to 8 ports
abbrev pub set_is_outside : SetPart → Bool
set_is_outside set = is_outside 1 most_set_ports (length set.ports)

-- more than so many branches, in all arbiters together
abbrev pub has_branches_above : ℕ → List ArbiterPart → Bool
has_branches_above most arbiters = nat_lt most (sum (map (λ (arbiter : ArbiterPart). length arbiter.branches) arbiters))

-- the posts of all scripts together
abbrev pub posts_in_all : List PosterPart → ℕ
posts_in_all posters = sum (map (λ (poster : PosterPart). length poster.posts) posters)

-- more than so many posts, in all scripts together
abbrev pub has_posts_above : ℕ → List PosterPart → Bool
has_posts_above most posters = nat_lt most (posts_in_all posters)

-- more of a kind than a wiring may have
abbrev pub has_too_many : Parts → Bool
has_too_many parts = nat_lt most_queues (length parts.queues)
    || nat_lt most_ports (length parts.ports)
    || nat_lt most_sets (length parts.sets)
    || nat_lt most_causes (length parts.causes)
    || nat_lt most_handlers (length parts.handlers)
    || nat_lt most_arbiters (length parts.arbiters)
    || nat_lt most_posters (length parts.posters)
    || has_branches_above most_branches parts.arbiters
    || has_posts_above most_script_posts parts.posters

-- some queue is outside its limits
abbrev pub has_outside_queue : Parts → Bool
has_outside_queue parts = list_any queue_is_outside parts.queues

-- some set is outside its limits
abbrev pub has_outside_set : Parts → Bool
has_outside_set parts = list_any set_is_outside parts.sets

-- some handler is outside its limits
abbrev pub has_outside_handler : Parts → Bool
has_outside_handler parts = list_any handler_is_outside parts.handlers

-- some arbiter is outside its limits
abbrev pub has_outside_arbiter : Parts → Bool
has_outside_arbiter parts = list_any arbiter_is_outside parts.arbiters

-- a domain has 2 to 8 members
abbrev pub domain_is_outside : DomainPart → Bool
domain_is_outside domain = is_outside 2 most_members (length domain.members)

-- there are more than 128 domains, or one is outside its limits
abbrev pub has_outside_domain : Parts → Bool
has_outside_domain parts = nat_lt most_domains (length parts.domains) || list_any domain_is_outside parts.domains

-- where nothing is open, tasks make at most 10,000 posts
abbrev pub has_outside_budget : Parts → Bool
has_outside_budget parts = is_closed parts && nat_lt most_task_posts parts.budget

-- a number is outside its limits, or there is more of something than its limit
abbrev pub has_outside : Parts → Bool
has_outside parts =
    has_outside_budget parts || has_too_many parts
    || has_outside_queue parts || has_outside_set parts || has_outside_handler parts || has_outside_arbiter parts || has_outside_domain parts
