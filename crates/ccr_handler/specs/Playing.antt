-- What a segment posts, how it ends, and its causes at the end.
use Rattle.std.specs.Prelude.{ℕ, zero, suc, Bool, true, false, List, [], ◌∷◌, ◌++◌, flat_map, Option, option_map, option_to_list, if◌then◌else◌}
use Rattle.ccr_base.specs.declared.messages.Sent.{Sent}
use Rattle.ccr_base.specs.declared.handlers.Action.{Action}
use Rattle.ccr_base.specs.declared.handlers.Action.TheVariants.{Post, Fail, Add, Remove, Await}
use Rattle.ccr_handler.specs.declared.segments.Play.{Play}
use Rattle.ccr_handler.specs.declared.segments.PlayEnd.TheVariants.{Done, Failed, Yield}
use Rattle.ccr_cause.specs.Causes.{with_cause, without_cause}
use Rattle.ccr_handler.specs.Evaluating.{value_of}
use Rattle.ccr_wiring.specs.declared.parts.Parts.{Parts}
use Rattle.ccr_wiring.specs.Wirings.{actions_at, exception_port}

-- whether the action ends the segment
abbrev pub is_await : Action → Bool
is_await (Await port) = true
is_await _ = false

-- what stands behind the first await
abbrev pub after_await : List Action → List Action
after_await [] = []
after_await (action ∷ actions) = if is_await action then actions else after_await actions

-- the actions from this segment on
abbrev pub actions_from : ℕ → List Action → List Action
actions_from zero actions = actions
actions_from (suc segment) actions = after_await (actions_from segment actions)

-- one post without causes for each cause's exception port
abbrev pub exceptions : (ℕ → Option ℕ) → List ℕ → List ℕ → List Sent
exceptions port_of value causes = flat_map (λ cause. option_to_list (option_map (λ port. record { port = port; value = value; causes = [] }) (port_of cause))) causes

-- the play with this post before its others
abbrev pub with_post : Sent → Play → Play
with_post sent play = record play { posts = sent ∷ play.posts }

-- the play behind these posts
abbrev pub with_posts : List Sent → Play → Play
with_posts front p = record p { posts = front ++ p.posts }

-- the play of the actions up to the next await, which is the site of this number
abbrev pub play : (ℕ → Option ℕ) → List (List ℕ) → ℕ → List ℕ → List Action → Play
play port_of values site causes [] = record { posts = []; end = Done; causes = causes }
play port_of values site causes (Post port expr ∷ actions) = with_post (record { port = port; value = value_of expr values; causes = causes }) (play port_of values site causes actions)
play port_of values site causes (Fail expr ∷ actions) = record { posts = exceptions port_of (value_of expr values) causes; end = Failed (value_of expr values); causes = causes }
play port_of values site causes (Add cause ∷ actions) = play port_of values site (with_cause causes cause) actions
play port_of values site causes (Remove cause ∷ actions) = play port_of values site (without_cause causes cause) actions
play port_of values site causes (Await port ∷ actions) = record { posts = []; end = Yield site; causes = causes }

-- the play of no actions
abbrev pub idle_play : List ℕ → Play
idle_play causes = record { posts = []; end = Done; causes = causes }

-- the play of this segment of the branch's handler, over the values of its task and the causes at its start
abbrev pub branch_play : Parts → ℕ → ℕ → List (List ℕ) → List ℕ → Play
branch_play wiring branch segment values causes = play (exception_port wiring) values segment causes (actions_from segment (actions_at wiring branch))
