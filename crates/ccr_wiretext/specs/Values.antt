-- The values of a wiring: each is 1 to 8 numbers of 64 bits.
use Rattle.std.specs.Prelude.{ℕ, ◌^◌, ◌<◌, ◌≤◌, List, length}
use Rattle.std.specs.List.{All}
use Rattle.ccr_base.specs.Bounds.{most_value_numbers}
use Rattle.ccr_base.specs.declared.handlers.Expr.{Expr}
use Rattle.ccr_base.specs.declared.handlers.Expr.TheVariants as exprs
use Rattle.ccr_base.specs.declared.handlers.Action.{Action}
use Rattle.ccr_base.specs.declared.handlers.Action.TheVariants as actions
use Rattle.ccr_base.specs.declared.messages.Sent.{Sent}
use Rattle.ccr_base.specs.declared.patterns.Pred.{Pred}
use Rattle.ccr_base.specs.declared.patterns.Pred.TheVariants as preds
use Rattle.ccr_base.specs.declared.patterns.Slot.{Slot}
use Rattle.ccr_base.specs.declared.patterns.Pattern.{Pattern}
use Rattle.ccr_base.specs.declared.patterns.Pattern.TheVariants as patterns
use Rattle.ccr_wiring.specs.declared.parts.Parts.{Parts}
use Rattle.ccr_wiring.specs.declared.parts.HandlerPart.{HandlerPart}
use Rattle.ccr_wiring.specs.declared.parts.BranchPart.{BranchPart}
use Rattle.ccr_wiring.specs.declared.parts.ArbiterPart.{ArbiterPart}
use Rattle.ccr_wiring.specs.declared.parts.PosterPart.{PosterPart}

-- a number of 64 bits
abbrev pub IsNumeral : ℕ → Type 0
IsNumeral n = n < 2 ^ 64

-- numbers that a message may carry
unfoldable pub IsValue : List ℕ → Type 0
IsValue value = All IsNumeral value × (1 ≤ length value) × (length value ≤ most_value_numbers)

-- the value of an expression
abbrev pub IsExprValued : Expr → Type 0
IsExprValued (exprs.Number value) = IsValue value
IsExprValued _ = Unit {0}

-- what an action posts
abbrev pub IsActionValued : Action → Type 0
IsActionValued (actions.Post port value) = IsExprValued value
IsActionValued (actions.Fail value) = IsExprValued value
IsActionValued _ = Unit {0}

-- the actions of a handler
abbrev pub IsHandlerValued : HandlerPart → Type 0
IsHandlerValued part = All IsActionValued part.handler.actions

-- what a predicate compares with
abbrev pub IsPredValued : Pred → Type 0
IsPredValued preds.Any = Unit {0}
IsPredValued (preds.Eq n) = IsNumeral n
IsPredValued (preds.Lt n) = IsNumeral n
IsPredValued (preds.Ge n) = IsNumeral n

-- the predicates of a pattern
abbrev pub IsPatternValued : Pattern → Type 0
IsPatternValued (patterns.Slots slots) = All (λ (slot : Slot). IsPredValued slot.pred) slots
IsPatternValued (patterns.Gather total first second) = Unit {0}

-- the patterns of an arbiter
abbrev pub IsArbiterValued : ArbiterPart → Type 0
IsArbiterValued part = All (λ (branch : BranchPart). IsPatternValued branch.pattern) part.branches

-- the posts of a poster
abbrev pub IsPosterValued : PosterPart → Type 0
IsPosterValued part = All (λ (post : Sent). IsValue post.value) part.posts

-- what a wiring's handlers, patterns and posters say of values
abbrev pub IsValued : Parts → Type 0
IsValued parts = All IsHandlerValued parts.handlers × All IsArbiterValued parts.arbiters × All IsPosterValued parts.posters
