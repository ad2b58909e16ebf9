-- Legal, complete, quiet and covered histories.
use Rattle.std.specs.Prelude.{◌≡◌, ℕ, ◌+◌, Bool, true, false, ◌==◌, ◌&&◌, ◌||◌, not, nat_le, List, [], ◌∷◌, ◌++◌, length, Option, Some, None}
use Rattle.std.specs.List.{list_any}
use Rattle.std.specs.Option.{is_some}
use Rattle.ccr_wiring.specs.declared.parts.Parts.{Parts}
use Rattle.ccr_wiring.specs.declared.parts.PosterPart.{PosterPart}
use Rattle.ccr_base.specs.declared.names.MsgId.{MsgId}
use Rattle.ccr_base.specs.declared.names.MsgId.TheVariants.{Script, Task}
use Rattle.ccr_wiring.specs.Openness.{open_poster}
use Rattle.ccr_model.specs.declared.history.Event.{Event}
use Rattle.ccr_model.specs.declared.history.Event.TheVariants.{Post, Start, End}
use Rattle.ccr_model.specs.declared.rule.Rule.{Rule}
use Rattle.ccr_model.specs.Counts.{is_shed}
use Rattle.ccr_model.specs.Posts.{posts_of_poster, posts_of_tasks}
use Rattle.ccr_model.specs.Tasks.{count_unfinished}
use Rattle.ccr_model.specs.Rules.{number_of, refusal, open_ports}

-- no rule refuses the event after the history
abbrev pub IsAllowed : Parts → List Event → Event → Type 0
IsAllowed wiring history event = refusal wiring history event ≡ None

-- each of the events is allowed after the past and those before it
abbrev pub IsLegalAfter : Parts → List Event → List Event → Type 0
IsLegalAfter wiring past [] = Unit {0}
IsLegalAfter wiring past (event ∷ events) = IsAllowed wiring past event × IsLegalAfter wiring (past ++ event ∷ []) events

-- each event is allowed after those before it
abbrev pub IsLegal : Parts → List Event → Type 0
IsLegal wiring history = IsLegalAfter wiring [] history

-- no event is allowed after the history
abbrev pub IsQuiet : Parts → List Event → Type 0
IsQuiet wiring history = (event : Event) → IsAllowed wiring history event → ⊥

-- whether the post of this name is made under an open poster's name, or by a task whose handler is open
abbrev pub is_posted_outside : Parts → List Event → MsgId → Bool
is_posted_outside wiring history (Script actor index) = is_some (open_poster wiring actor)
is_posted_outside wiring history (Task task index) = is_some (open_ports wiring history task)

-- whether somebody outside makes the event: a post under an open poster's name; the start, a post or the end of a task whose handler is open
abbrev pub is_from_outside : Parts → List Event → Event → Bool
is_from_outside wiring history (Post message) = is_posted_outside wiring history message.id
is_from_outside wiring history (Start task actor) = is_some (open_ports wiring history task)
is_from_outside wiring history (End task how) = is_some (open_ports wiring history task)
is_from_outside wiring history _ = false

-- no event is allowed after the history but what somebody outside makes
abbrev pub IsIdle : Parts → List Event → Type 0
IsIdle wiring history = (event : Event) → is_from_outside wiring history event ≡ false → IsAllowed wiring history event → ⊥

-- the index and the rule of an event that isn't allowed, or else what is said of later ones
abbrev pub first_or : Option Rule → ℕ → Option (ℕ × Rule) → Option (ℕ × Rule)
first_or answer index later = elim answer [ None ↦ later | Some rule ↦ Some (index, rule) ]

-- the index, from this one on, and the rule of the first event that isn't allowed
abbrev pub first_refusal : Parts → List Event → ℕ → List Event → Option (ℕ × Rule)
first_refusal wiring past index [] = None
first_refusal wiring past index (event ∷ events) = first_or (refusal wiring past event) index (first_refusal wiring (past ++ event ∷ []) (index + 1) events)

-- the index, and the number of the rule
abbrev pub numbered : ℕ × Rule → ℕ × ℕ
numbered refusal = (refusal.0, number_of refusal.1)

-- whether some task was shed
abbrev pub has_shed : List Event → Bool
has_shed history = list_any is_shed history

-- each of the posters, of which the first has this number, has made as many posts as its script has, or is open
abbrev pub are_whole_from : Parts → List Event → ℕ → List PosterPart → Bool
are_whole_from wiring history number [] = true
are_whole_from wiring history number (poster ∷ posters) =
    ((posts_of_poster history number == length poster.posts) || is_some (open_poster wiring number)) && are_whole_from wiring history (number + 1) posters

-- each poster that isn't open has made its whole script; and where a task was shed, tasks have made exactly as many posts as the budget
abbrev pub is_complete : Parts → List Event → Bool
is_complete wiring history = are_whole_from wiring history 0 wiring.posters && (not (has_shed history) || (posts_of_tasks history == wiring.budget))

-- where a task was shed, what tasks posted and one post for each task that has some left use the budget up
abbrev pub is_covered : Parts → List Event → Bool
is_covered wiring history = not (has_shed history) || nat_le wiring.budget (posts_of_tasks history + count_unfinished wiring history)
