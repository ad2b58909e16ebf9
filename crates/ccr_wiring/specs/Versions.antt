-- What a wiring of version 1 hasn't: values of several numbers, parts of values, and open posters and handlers.
use Rattle.std.specs.Prelude.{ℕ, Bool, true, false, not, ◌==◌, ◌||◌, ◌&&◌, nat_lt, List, length}
use Rattle.std.specs.List.{list_any}
use Rattle.ccr_base.specs.declared.handlers.Action.{Action}
use Rattle.ccr_base.specs.declared.handlers.Action.TheVariants.{Post, Fail}
use Rattle.ccr_base.specs.declared.handlers.Expr.{Expr}
use Rattle.ccr_base.specs.declared.handlers.Expr.TheVariants.{Number, Part}
use Rattle.ccr_base.specs.declared.messages.Sent.{Sent}
use Rattle.ccr_wiring.specs.declared.parts.Parts.{Parts}
use Rattle.ccr_wiring.specs.declared.parts.HandlerPart.{HandlerPart}
use Rattle.ccr_wiring.specs.declared.parts.PosterPart.{PosterPart}
use Rattle.ccr_wiring.specs.Openness.{is_closed}

-- the version is neither 1 nor 2
abbrev pub has_strange_version : Parts → Bool
has_strange_version parts = not (parts.version == 1) && not (parts.version == 2)

-- the value has more than one number
abbrev pub is_long : List ℕ → Bool
is_long value = nat_lt 1 (length value)

-- the expression is a value of several numbers, or one number of a value
abbrev pub expr_is_newer : Expr → Bool
expr_is_newer (Number value) = is_long value
expr_is_newer (Part message index) = true
expr_is_newer _ = false

-- the action's expression is such
abbrev pub action_is_newer : Action → Bool
action_is_newer (Post port expr) = expr_is_newer expr
action_is_newer (Fail expr) = expr_is_newer expr
action_is_newer _ = false

-- some action of the handler is such
abbrev pub handler_is_newer : HandlerPart → Bool
handler_is_newer part = list_any action_is_newer part.handler.actions

-- some post of the script has several numbers
abbrev pub poster_is_newer : PosterPart → Bool
poster_is_newer poster = list_any (λ (post : Sent). is_long post.value) poster.posts

-- something stands in the parts that only version 2 has
abbrev pub is_newer : Parts → Bool
is_newer parts = list_any handler_is_newer parts.handlers || list_any poster_is_newer parts.posters || not (is_closed parts)

-- in version 1 each value is one number, no part of a value stands, and nothing is open
abbrev pub has_newer : Parts → Bool
has_newer parts = (parts.version == 1) && is_newer parts
