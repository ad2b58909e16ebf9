-- What a valid wiring has: numbers within their limits, references that name something, names apart, ports not crowded.
use Rattle.std.proofs.Common.{◌≡◌, ℕ, ◌<◌, ◌≤◌, Bool, true, false, List, [], ◌∷◌, length, inl, inr, refl, arith}
use Rattle.std.specs.Prelude.{◌==◌, ◌&&◌, ◌||◌, not, nat_lt}
use Rattle.std.specs.List.{list_any}
use Rattle.std.proofs.lemmas.Bool.Decides.{nat_tests}
use Rattle.std.proofs.lemmas.Bool.{ltb-false}
use Rattle.ccr_base.specs.declared.policies.Policy.{Policy}
use Rattle.ccr_base.specs.declared.policies.Policy.TheVariants as policies
use Rattle.ccr_base.specs.declared.handlers.Action.{Action}
use Rattle.ccr_base.specs.declared.handlers.Action.TheVariants as actions
use Rattle.ccr_base.specs.declared.handlers.Expr.{Expr}
use Rattle.ccr_base.specs.declared.handlers.Expr.TheVariants as exprs
use Rattle.ccr_base.specs.declared.messages.Sent.{Sent}
use Rattle.ccr_base.specs.declared.patterns.Slot.{Slot}
use Rattle.ccr_base.specs.declared.patterns.Pattern.{Pattern}
use Rattle.ccr_base.specs.declared.patterns.Pattern.TheVariants as patterns
use Rattle.ccr_base.proofs.Booleans.{not_true, not_refuted}
use Rattle.ccr_wiring.specs.declared.parts.Parts.{Parts}
use Rattle.ccr_wiring.specs.declared.parts.SetPart.{SetPart}
use Rattle.ccr_wiring.specs.declared.parts.HandlerPart.{HandlerPart}
use Rattle.ccr_wiring.specs.declared.parts.BranchPart.{BranchPart}
use Rattle.ccr_wiring.specs.declared.parts.ArbiterPart.{ArbiterPart}
use Rattle.ccr_wiring.specs.declared.parts.PosterPart.{PosterPart}
use Rattle.ccr_wiring.specs.declared.parts.DomainPart.{DomainPart}
use Rattle.ccr_wiring.specs.declared.parts.Kind.{Kind}
use Rattle.ccr_wiring.specs.Groups.{may_have, is_receive, is_one_named, is_misgrouped, has_strange_group, is_branchless}
use Rattle.ccr_wiring.specs.References.{is_beyond, has_beyond, action_is_dangling, pattern_is_dangling, branch_is_dangling, post_is_dangling, set_is_dangling, handler_is_dangling, arbiter_is_dangling, poster_is_dangling, no_interleave, domain_is_dangling}
use Rattle.ccr_wiring.specs.Repeats.{names_ports_once, branch_repeats, arbiter_repeats, set_repeats, post_repeats, poster_repeats}
use Rattle.ccr_wiring.specs.Limits.{is_outside, policy_is_outside, expr_is_outside, action_is_outside, slot_is_outside, pattern_is_outside, branch_is_outside, set_is_outside, handler_is_outside, arbiter_is_outside, domain_is_outside}
use Rattle.ccr_wiring.specs.Versions.{is_long, expr_is_newer, action_is_newer, handler_is_newer, poster_is_newer}
use Rattle.ccr_wiring.proofs.Soundness.{below}
use Rattle.ccr_wiretext.proofs.Each.{neither}
use Rattle.ccr_base.specs.Lists.{Each, are_apart}
use Rattle.ccr_wiring.proofs.Lists.{any_none}
use Rattle.ccr_wiretext.proofs.Fit.{PolicyFit, OldFit, ExprFit, PortsFit, ActionFit, SlotFit, PatternFit, BranchFit, BranchesFit, ArbiterFit, Shaped, SetFit, HandlerFit, PostFit, PosterFit, InterleaveFit, DomainFit}

-- ---- tests that fail

pub each_if : {X : Type 0} (P : X → Type 0) (f : X → Bool) → ((x : X) → f x ≡ false → P x) → (xs : List X) → list_any f xs ≡ false → Each P xs
each_if P f fact [] none = tt
each_if P f fact (x ∷ xs) none = let parts = neither (f x) (list_any f xs) none in (fact x parts.0, each_if P f fact xs parts.1)

pub none_of_two : {X : Type 0} (f g : X → Bool) (xs : List X) → list_any f xs ≡ false → list_any g xs ≡ false → list_any (λ x. f x || g x) xs ≡ false
none_of_two f g [] first second = refl
none_of_two f g (x ∷ xs) first second =
    let a = neither (f x) (list_any f xs) first in
    let b = neither (g x) (list_any g xs) second in
    rw (a.0, b.0, none_of_two f g xs a.1 b.1) refl

limits : (least most n : ℕ) → is_outside least most n ≡ false → (least ≤ n) × (n ≤ most)
limits least most n e = let parts = neither (nat_lt n least) (nat_lt most n) e in (grind (arith, nat_tests, parts.0), ltb-false most n parts.1)

numbers_fit : (count : ℕ) (numbers : List ℕ) → has_beyond count numbers ≡ false → PortsFit count numbers
numbers_fit count numbers none = each_if (λ n. n < count) (is_beyond count) (below count) numbers none

-- ---- each kind of part

pub policy_fits : (p : Policy) → policy_is_outside p ≡ false → PolicyFit p
policy_fits policies.Unbounded e = tt
policy_fits (policies.Discard n) e = limits 1 1000 n e
policy_fits (policies.Throttle n) e = limits 1 1000 n e

-- where the version isn't 2, and one of the items is newer
abbrev pub newer_in : {X : Type 0} → ℕ → (X → Bool) → X → Bool
newer_in version newer x = not (version == 2) && newer x

pub old_each : {X : Type 0} (version : ℕ) (newer : X → Bool) (xs : List X) → OldFit version (list_any newer xs) → list_any (newer_in version newer) xs ≡ false
old_each {X} version newer xs old = by (not (version == 2)) old
  where
    by : (t : Bool) → (t && list_any newer xs) ≡ false → list_any (λ (x : X). t && newer x) xs ≡ false
    by true e = e
    by false e = any_none (λ (x : X). false) xs (λ x. refl)

expr_fits : (version : ℕ) (value : Expr) → expr_is_outside value ≡ false → OldFit version (expr_is_newer value) → ExprFit version value
expr_fits version (exprs.Number value) e old = old
expr_fits version (exprs.Part message index) e old =
    let parts = neither (is_outside 0 65535 message) (is_outside 0 7 index) e in
    (old, (limits 0 65535 message parts.0).1, (limits 0 7 index parts.1).1)
expr_fits version (exprs.Arg k) e old = (limits 0 65535 k e).1
expr_fits version exprs.Sum e old = tt
expr_fits version exprs.Count e old = tt

action_fits : (parts : Parts) (action : Action) → action_is_dangling parts action ≡ false → action_is_outside action ≡ false → OldFit parts.version (action_is_newer action) → ActionFit parts.version (length parts.ports) (length parts.causes) action
action_fits parts (actions.Post port value) there inside old = (below (length parts.ports) port there, expr_fits parts.version value inside old)
action_fits parts (actions.Fail value) there inside old = expr_fits parts.version value inside old
action_fits parts (actions.Add cause) there inside old = below (length parts.causes) cause there
action_fits parts (actions.Remove cause) there inside old = below (length parts.causes) cause there
action_fits parts (actions.Await port) there inside old = below (length parts.ports) port there

pub handler_fits : (parts : Parts) (part : HandlerPart) → handler_is_dangling parts part ≡ false → handler_is_outside part ≡ false → OldFit parts.version (handler_is_newer part) → HandlerFit parts.version (length parts.ports) (length parts.causes) part
handler_fits parts part there inside old =
    let limit = neither (nat_lt 16 (length part.handler.actions)) (list_any action_is_outside part.handler.actions) inside in (
      each_if (ActionFit parts.version (length parts.ports) (length parts.causes)) (λ action. action_is_dangling parts action || (action_is_outside action || newer_in parts.version action_is_newer action))
          (λ action e.
          let a = neither (action_is_dangling parts action) (action_is_outside action || newer_in parts.version action_is_newer action) e in
          let b = neither (action_is_outside action) (newer_in parts.version action_is_newer action) a.1 in
          action_fits parts action a.0 b.0 b.1)
          part.handler.actions
          (none_of_two (action_is_dangling parts) (λ action. action_is_outside action || newer_in parts.version action_is_newer action) part.handler.actions there
          (none_of_two action_is_outside (newer_in parts.version action_is_newer) part.handler.actions limit.1 (old_each parts.version action_is_newer part.handler.actions old))),
      ltb-false 16 (length part.handler.actions) limit.0,
    )

slot_fits : (parts : Parts) (slot : Slot) → is_beyond (length parts.ports) slot.port ≡ false → slot_is_outside slot ≡ false → SlotFit (length parts.ports) slot
slot_fits parts slot there inside =
    let exact = neither (not (slot.least == slot.most)) (is_outside 1 1000 slot.least) inside in
    let same = not_refuted (slot.least == slot.most) exact.0 in
    let counted = limits 1 1000 slot.least exact.1 in
    (below (length parts.ports) slot.port there, grind (arith, nat_tests, same), counted.0, counted.1)

pattern_fits : (parts : Parts) (shape : Pattern) → pattern_is_dangling parts shape ≡ false → names_ports_once shape ≡ true → pattern_is_outside shape ≡ false → PatternFit (length parts.ports) shape
pattern_fits parts (patterns.Slots slots) there once inside =
    let limit = neither (is_outside 1 8 (length slots)) (list_any slot_is_outside slots) inside in
    let counted = limits 1 8 (length slots) limit.0 in (
      each_if (SlotFit (length parts.ports)) (λ (slot : Slot). is_beyond (length parts.ports) slot.port || slot_is_outside slot)
          (λ slot e. let a = neither (is_beyond (length parts.ports) slot.port) (slot_is_outside slot) e in slot_fits parts slot a.0 a.1) slots
          (none_of_two (λ (slot : Slot). is_beyond (length parts.ports) slot.port) slot_is_outside slots there limit.1),
      once,
      counted.0,
      counted.1,
    )
pattern_fits parts (patterns.Gather total first second) there once inside =
    let ports = neither (is_beyond (length parts.ports) first) (is_beyond (length parts.ports) second) there in
    let counted = limits 1 1000 total inside in
    (below (length parts.ports) first ports.0, below (length parts.ports) second ports.1, not_true (first == second) once, counted.0, counted.1)

branch_fits : (parts : Parts) (branch : BranchPart) → branch_is_dangling parts branch ≡ false → branch_repeats branch ≡ false → branch_is_outside branch ≡ false → BranchFit (length parts.queues) (length parts.handlers) (length parts.ports) branch
branch_fits parts branch there once inside =
    let a = neither (is_beyond (length parts.queues) branch.queue || is_beyond (length parts.handlers) branch.handler) (pattern_is_dangling parts branch.pattern) there in
    let b = neither (is_beyond (length parts.queues) branch.queue) (is_beyond (length parts.handlers) branch.handler) a.0 in
    (below (length parts.queues) branch.queue b.0, below (length parts.handlers) branch.handler b.1, pattern_fits parts branch.pattern a.1 (not_refuted (names_ports_once branch.pattern) once) inside)

abbrev strange : Kind → BranchPart → Bool
strange kind branch = not (may_have kind branch.group)

branches_fit : (parts : Parts) (part : ArbiterPart) → arbiter_is_dangling parts part ≡ false → arbiter_repeats part ≡ false → arbiter_is_outside part ≡ false → has_strange_group part ≡ false
    → BranchesFit (length parts.queues) (length parts.handlers) (length parts.ports) part
branches_fit parts part there once inside grouped =
    each_if (λ (branch : BranchPart). BranchFit (length parts.queues) (length parts.handlers) (length parts.ports) branch × (may_have part.kind branch.group ≡ true))
    (λ branch. (branch_is_dangling parts branch || branch_repeats branch) || (branch_is_outside branch || strange part.kind branch))
    (λ branch e.
    let a = neither (branch_is_dangling parts branch || branch_repeats branch) (branch_is_outside branch || strange part.kind branch) e in
    let b = neither (branch_is_dangling parts branch) (branch_repeats branch) a.0 in
    let c = neither (branch_is_outside branch) (strange part.kind branch) a.1 in
    (branch_fits parts branch b.0 b.1 c.0, not_refuted (may_have part.kind branch.group) c.1))
    part.branches
    (none_of_two (λ branch. branch_is_dangling parts branch || branch_repeats branch) (λ branch. branch_is_outside branch || strange part.kind branch) part.branches
    (none_of_two (branch_is_dangling parts) branch_repeats part.branches there once) (none_of_two branch_is_outside (strange part.kind) part.branches inside grouped))

shaped : (part : ArbiterPart) → (is_receive part.kind && not (is_one_named part.name part.branches)) ≡ false → is_branchless part ≡ false → Shaped part
shaped part one some = by (is_receive part.kind) refl one some
  where
    by : (t : Bool) → is_receive part.kind ≡ t → (t && not (is_one_named part.name part.branches)) ≡ false → (not t && (length part.branches == 0)) ≡ false → Shaped part
    by true is a b = inl (is, not_refuted (is_one_named part.name part.branches) a)
    by false is a b = inr (is, b)

pub arbiter_fits : (parts : Parts) (part : ArbiterPart) → arbiter_is_dangling parts part ≡ false → arbiter_repeats part ≡ false → arbiter_is_outside part ≡ false → is_misgrouped part ≡ false → is_branchless part ≡ false
    → ArbiterFit (length parts.queues) (length parts.handlers) (length parts.ports) part
arbiter_fits parts part there once inside grouped some =
    let a = neither (has_strange_group part) (is_receive part.kind && not (is_one_named part.name part.branches)) grouped in
    (branches_fit parts part there once inside a.0, shaped part a.1 some)

pub set_fits : (parts : Parts) (part : SetPart) → set_is_dangling parts part ≡ false → set_repeats part ≡ false → set_is_outside part ≡ false → SetFit (length parts.ports) part
set_fits parts part there once inside =
    let counted = limits 1 8 (length part.ports) inside in
    (numbers_fit (length parts.ports) part.ports there, not_refuted (are_apart part.ports) once, counted.0, counted.1)

post_fits : (parts : Parts) (post : Sent) → post_is_dangling parts post ≡ false → post_repeats post ≡ false → OldFit parts.version (is_long post.value) → PostFit parts.version (length parts.ports) (length parts.causes) post
post_fits parts post there once old =
    let a = neither (is_beyond (length parts.ports) post.port) (has_beyond (length parts.causes) post.causes) there in
    (below (length parts.ports) post.port a.0, numbers_fit (length parts.causes) post.causes a.1, not_refuted (are_apart post.causes) once, old)

pub poster_fits : (parts : Parts) (part : PosterPart) → poster_is_dangling parts part ≡ false → poster_repeats part ≡ false → OldFit parts.version (poster_is_newer part) → PosterFit parts.version (length parts.ports) (length parts.causes) part
poster_fits parts part there once old =
    each_if (PostFit parts.version (length parts.ports) (length parts.causes)) (λ post. post_is_dangling parts post || (post_repeats post || newer_in parts.version (λ (post : Sent). is_long post.value) post))
    (λ post e.
    let a = neither (post_is_dangling parts post) (post_repeats post || newer_in parts.version (λ (post : Sent). is_long post.value) post) e in
    let b = neither (post_repeats post) (newer_in parts.version (λ (post : Sent). is_long post.value) post) a.1 in
    post_fits parts post a.0 b.0 b.1)
    part.posts
    (none_of_two (post_is_dangling parts) (λ post. post_repeats post || newer_in parts.version (λ (post : Sent). is_long post.value) post) part.posts there
    (none_of_two post_repeats (newer_in parts.version (λ (post : Sent). is_long post.value)) part.posts once (old_each parts.version (λ (post : Sent). is_long post.value) part.posts old)))

pub domain_fits : (parts : Parts) (part : DomainPart) → domain_is_dangling parts part ≡ false → domain_is_outside part ≡ false → DomainFit parts.arbiters part
domain_fits parts part there inside =
    let counted = limits 2 8 (length part.members) inside in
    (each_if (InterleaveFit parts.arbiters) (no_interleave parts) (λ n e. e) part.members there, counted.0, counted.1)
