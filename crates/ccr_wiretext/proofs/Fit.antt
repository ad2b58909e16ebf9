-- Parts of which nothing dangles and nothing lies outside its limits.
use Rattle.std.proofs.Common.{◌≡◌, ℕ, ◌<◌, ◌≤◌, Bool, true, false, List, [], ◌∷◌, ◌++◌, length, zero, suc, ◌⊎◌, arith}
use Rattle.std.specs.Prelude.{◌==◌, ◌&&◌, not}
use Rattle.std.specs.List.{slice_get}
use Rattle.std.specs.Option.{option_map_or}
use Rattle.ccr_base.specs.declared.policies.Policy.{Policy}
use Rattle.ccr_base.specs.declared.policies.Policy.TheVariants as policies
use Rattle.ccr_base.specs.declared.handlers.Action.{Action}
use Rattle.ccr_base.specs.declared.handlers.Action.TheVariants as actions
use Rattle.ccr_base.specs.declared.handlers.Expr.{Expr}
use Rattle.ccr_base.specs.declared.handlers.Expr.TheVariants as exprs
use Rattle.ccr_base.specs.declared.messages.Sent.{Sent}
use Rattle.ccr_base.specs.declared.patterns.Slot.{Slot}
use Rattle.ccr_base.specs.declared.patterns.Pattern.{Pattern}
use Rattle.ccr_base.specs.declared.patterns.Pattern.TheVariants as patterns
use Rattle.ccr_wiring.specs.declared.parts.SetPart.{SetPart}
use Rattle.ccr_wiring.specs.declared.parts.HandlerPart.{HandlerPart}
use Rattle.ccr_wiring.specs.declared.parts.BranchPart.{BranchPart}
use Rattle.ccr_wiring.specs.declared.parts.ArbiterPart.{ArbiterPart}
use Rattle.ccr_wiring.specs.declared.parts.PosterPart.{PosterPart}
use Rattle.ccr_wiring.specs.declared.parts.DomainPart.{DomainPart}
use Rattle.ccr_wiring.specs.Groups.{may_have, is_receive, is_interleave, is_one_named}
use Rattle.ccr_wiring.specs.Repeats.{slot_ports}
use Rattle.ccr_wiring.specs.Versions.{is_long}
use Rattle.ccr_wiretext.proofs.Each.{each_more}
use Rattle.ccr_base.specs.Lists.{Each, are_apart}

abbrev pub PolicyFit : Policy → Type 0
PolicyFit policies.Unbounded = Unit {0}
PolicyFit (policies.Discard n) = (1 ≤ n) × (n ≤ 1000)
PolicyFit (policies.Throttle n) = (1 ≤ n) × (n ≤ 1000)

-- what only version 2 has stands in no other
abbrev pub OldFit : ℕ → Bool → Type 0
OldFit version newer = (not (version == 2) && newer) ≡ false

abbrev pub ExprFit : ℕ → Expr → Type 0
ExprFit version (exprs.Number value) = OldFit version (is_long value)
ExprFit version (exprs.Part message index) = OldFit version true × (message ≤ 65535) × (index ≤ 7)
ExprFit version (exprs.Arg k) = k ≤ 65535
ExprFit version _ = Unit {0}

abbrev pub PortsFit : ℕ → List ℕ → Type 0
PortsFit count numbers = Each (λ n. n < count) numbers

abbrev pub SetFit : ℕ → SetPart → Type 0
SetFit ports part = PortsFit ports part.ports × (are_apart part.ports ≡ true) × (1 ≤ length part.ports) × (length part.ports ≤ 8)

abbrev pub ActionFit : ℕ → ℕ → ℕ → Action → Type 0
ActionFit version ports causes (actions.Post port value) = (port < ports) × ExprFit version value
ActionFit version ports causes (actions.Fail value) = ExprFit version value
ActionFit version ports causes (actions.Add cause) = cause < causes
ActionFit version ports causes (actions.Remove cause) = cause < causes
ActionFit version ports causes (actions.Await port) = port < ports

abbrev pub HandlerFit : ℕ → ℕ → ℕ → HandlerPart → Type 0
HandlerFit version ports causes part = Each (ActionFit version ports causes) part.handler.actions × (length part.handler.actions ≤ 16)

abbrev pub SlotFit : ℕ → Slot → Type 0
SlotFit ports slot = (slot.port < ports) × (slot.most ≡ slot.least) × (1 ≤ slot.least) × (slot.least ≤ 1000)

abbrev pub PatternFit : ℕ → Pattern → Type 0
PatternFit ports (patterns.Slots slots) = Each (SlotFit ports) slots × (are_apart (slot_ports slots) ≡ true) × (1 ≤ length slots) × (length slots ≤ 8)
PatternFit ports (patterns.Gather total first second) = (first < ports) × (second < ports) × ((first == second) ≡ false) × (1 ≤ total) × (total ≤ 1000)

abbrev pub BranchFit : ℕ → ℕ → ℕ → BranchPart → Type 0
BranchFit queues handlers ports branch = (branch.queue < queues) × (branch.handler < handlers) × PatternFit ports branch.pattern

-- the branches of an arbiter, of groups that its kind has
abbrev pub BranchesFit : ℕ → ℕ → ℕ → ArbiterPart → Type 0
BranchesFit queues handlers ports part = Each (λ (branch : BranchPart). BranchFit queues handlers ports branch × (may_have part.kind branch.group ≡ true)) part.branches

-- a receive with one branch of its name, or a choice or Interleave with a branch
abbrev pub Shaped : ArbiterPart → Type 0
Shaped part = ((is_receive part.kind ≡ true) × (is_one_named part.name part.branches ≡ true)) ⊎ ((is_receive part.kind ≡ false) × ((length part.branches == 0) ≡ false))

abbrev pub ArbiterFit : ℕ → ℕ → ℕ → ArbiterPart → Type 0
ArbiterFit queues handlers ports part = BranchesFit queues handlers ports part × Shaped part

abbrev pub PostFit : ℕ → ℕ → ℕ → Sent → Type 0
PostFit version ports causes post = (post.port < ports) × PortsFit causes post.causes × (are_apart post.causes ≡ true) × OldFit version (is_long post.value)

abbrev pub PosterFit : ℕ → ℕ → ℕ → PosterPart → Type 0
PosterFit version ports causes part = Each (PostFit version ports causes) part.posts

-- the number of an Interleave
abbrev pub InterleaveFit : List ArbiterPart → ℕ → Type 0
InterleaveFit arbiters number = option_map_or (λ (arbiter : ArbiterPart). not (is_interleave arbiter.kind)) (slice_get arbiters number) true ≡ false

abbrev pub DomainFit : List ArbiterPart → DomainPart → Type 0
DomainFit arbiters part = Each (InterleaveFit arbiters) part.members × (2 ≤ length part.members) × (length part.members ≤ 8)

-- ---- more ports, causes, queues and handlers leave what fits

pub ports_more : (n m : ℕ) → n ≤ m → (numbers : List ℕ) → PortsFit n numbers → PortsFit m numbers
ports_more n m less numbers fit = each_more (λ k. k < n) (λ k. k < m) (λ k below. omega arith) numbers fit

pub set_more : (n m : ℕ) → n ≤ m → (part : SetPart) → SetFit n part → SetFit m part
set_more n m less part fit = (ports_more n m less part.ports fit.0, fit.1, fit.2, fit.3)

action_more : (v p q c d : ℕ) → p ≤ q → c ≤ d → (action : Action) → ActionFit v p c action → ActionFit v q d action
action_more v p q c d ports causes (actions.Post port value) fit = (omega arith, fit.1)
action_more v p q c d ports causes (actions.Fail value) fit = fit
action_more v p q c d ports causes (actions.Add cause) fit = omega arith
action_more v p q c d ports causes (actions.Remove cause) fit = omega arith
action_more v p q c d ports causes (actions.Await port) fit = omega arith

pub handler_more : (v p q c d : ℕ) → p ≤ q → c ≤ d → (part : HandlerPart) → HandlerFit v p c part → HandlerFit v q d part
handler_more v p q c d ports causes part fit = (each_more (ActionFit v p c) (ActionFit v q d) (action_more v p q c d ports causes) part.handler.actions fit.0, fit.1)

pattern_more : (p q : ℕ) → p ≤ q → (shape : Pattern) → PatternFit p shape → PatternFit q shape
pattern_more p q ports (patterns.Slots slots) fit = (each_more (SlotFit p) (SlotFit q) (λ slot one. (omega (arith, one.0), one.1, one.2, one.3)) slots fit.0, fit.1, fit.2, fit.3)
pattern_more p q ports (patterns.Gather total first second) fit = (omega (arith, fit.0), omega (arith, fit.1), fit.2, fit.3, fit.4)

branch_more : (k l h i p q : ℕ) → k ≤ l → h ≤ i → p ≤ q → (branch : BranchPart) → BranchFit k h p branch → BranchFit l i q branch
branch_more k l h i p q queues handlers ports branch fit = (omega (arith, fit.0), omega (arith, fit.1), pattern_more p q ports branch.pattern fit.2)

pub branches_more : (k l h i p q : ℕ) → k ≤ l → h ≤ i → p ≤ q → (part : ArbiterPart) → BranchesFit k h p part → BranchesFit l i q part
branches_more k l h i p q queues handlers ports part fit =
    each_more (λ (branch : BranchPart). BranchFit k h p branch × (may_have part.kind branch.group ≡ true)) (λ (branch : BranchPart). BranchFit l i q branch × (may_have part.kind branch.group ≡ true))
    (λ branch one. (branch_more k l h i p q queues handlers ports branch one.0, one.1)) part.branches fit

pub arbiter_more : (k l h i p q : ℕ) → k ≤ l → h ≤ i → p ≤ q → (part : ArbiterPart) → ArbiterFit k h p part → ArbiterFit l i q part
arbiter_more k l h i p q queues handlers ports part fit = (branches_more k l h i p q queues handlers ports part fit.0, fit.1)

post_more : (v p q c d : ℕ) → p ≤ q → c ≤ d → (post : Sent) → PostFit v p c post → PostFit v q d post
post_more v p q c d ports causes post fit = (omega (arith, fit.0), ports_more c d causes post.causes fit.1, fit.2, fit.3)

pub poster_more : (v p q c d : ℕ) → p ≤ q → c ≤ d → (part : PosterPart) → PosterFit v p c part → PosterFit v q d part
poster_more v p q c d ports causes part fit = each_more (PostFit v p c) (PostFit v q d) (post_more v p q c d ports causes) part.posts fit

interleave_more : (arbiters : List ArbiterPart) (arbiter : ArbiterPart) (n : ℕ) → InterleaveFit arbiters n → InterleaveFit (arbiters ++ arbiter ∷ []) n
interleave_more [] arbiter n fit = absurd cc
interleave_more (other ∷ arbiters) arbiter zero fit = fit
interleave_more (other ∷ arbiters) arbiter (suc n) fit = interleave_more arbiters arbiter n fit

pub domain_more : (arbiters : List ArbiterPart) (arbiter : ArbiterPart) (part : DomainPart) → DomainFit arbiters part → DomainFit (arbiters ++ arbiter ∷ []) part
domain_more arbiters arbiter part fit = (each_more (InterleaveFit arbiters) (InterleaveFit (arbiters ++ arbiter ∷ [])) (interleave_more arbiters arbiter) part.members fit.0, fit.1, fit.2)
