-- Facts that a line of the grammar tells.
use Rattle.std.proofs.Common.{◌≡◌, ℕ, ◌<◌, Bool, true, false, List, [], ◌∷◌, ◌++◌, length, Option, Some, inl, inr, refl, sym, ap, subst, arith, append_assoc, append-nil}
use Rattle.std.specs.Prelude.{◌==◌, ◌&&◌, not}
use Rattle.std.proofs.lemmas.List.{map_push}
use Rattle.ccr_base.specs.declared.handlers.Action.{Action}
use Rattle.ccr_base.specs.declared.handlers.Action.TheVariants as actions
use Rattle.ccr_base.specs.declared.handlers.Expr.{Expr}
use Rattle.ccr_base.specs.declared.handlers.Expr.TheVariants as exprs
use Rattle.ccr_base.specs.declared.policies.Group.{Group}
use Rattle.ccr_base.specs.declared.policies.Group.TheVariants as groups
use Rattle.ccr_base.specs.declared.policies.Policy.{Policy}
use Rattle.ccr_base.specs.declared.policies.Policy.TheVariants as policies
use Rattle.ccr_base.specs.declared.patterns.Slot.{Slot}
use Rattle.ccr_base.specs.declared.patterns.Pattern.{Pattern}
use Rattle.ccr_base.specs.declared.patterns.Pattern.TheVariants as patterns
use Rattle.ccr_base.proofs.Options.{some_then}
use Rattle.ccr_base.proofs.Lists.{none_of_both}
use Rattle.ccr_text.specs.Names.{meaning_of}
use Rattle.ccr_text.specs.Fields.{Words}
use Rattle.ccr_wiring.specs.declared.parts.Parts.{Parts}
use Rattle.ccr_wiring.specs.declared.parts.BranchPart.{BranchPart}
use Rattle.ccr_wiring.specs.declared.parts.DomainPart.{DomainPart}
use Rattle.ccr_wiring.specs.declared.parts.Kind.{Kind}
use Rattle.ccr_wiring.specs.declared.parts.Kind.TheVariants as arbiters
use Rattle.ccr_wiring.specs.Groups.{may_have}
use Rattle.ccr_wiring.specs.Repeats.{slot_ports, members_in_all}
use Rattle.ccr_wiring.specs.Versions.{is_long}
use Rattle.ccr_base.proofs.Apart.{apart_snoc}
use Rattle.ccr_wiretext.specs.declared.keyword.Keyword.{Keyword}
use Rattle.ccr_wiretext.specs.declared.keyword.Keyword.TheVariants as keywords
use Rattle.ccr_wiretext.specs.declared.named.Named.{Named}
use Rattle.ccr_wiretext.specs.declared.named.Named.TheVariants as kinds
use Rattle.ccr_wiretext.specs.Names.{Naming, as_port, as_queue, as_cause, as_handler}
use Rattle.ccr_wiretext.specs.Drafts.{Declared}
use Rattle.ccr_wiretext.specs.Grammar.{Refers, IsPort, IsPolicy, IsValueWord, IsExpr, IsSlots, IsPattern, ArePorts, AreInterleaves, AreCauses, IsGroup}
use Rattle.ccr_wiretext.specs.Patterns.{is_combined}
use Rattle.ccr_wiretext.specs.Blocks.{group_of}
use Rattle.ccr_wiretext.specs.Lines.{IsAction, IsBranchTail}
use Rattle.ccr_wiretext.proofs.Each.{neither}
use Rattle.ccr_base.specs.Lists.{Each, has_number, are_apart}
use Rattle.ccr_wiretext.proofs.Fit.{PolicyFit, OldFit, ExprFit, PortsFit, ActionFit, SlotFit, PatternFit, BranchFit, InterleaveFit}
use Rattle.ccr_wiretext.proofs.NamesApart.{named_each}
use Rattle.ccr_wiretext.proofs.Sound.{KindFit}

-- the table of names, each of which stands for something that is there
abbrev pub Known : Parts → ℕ → Naming → Type 0
Known parts handlers names = Each (λ (entry : List ℕ × Named). KindFit parts handlers entry.1) names

kind_port : (parts : Parts) (handlers n : ℕ) (what : Named) → KindFit parts handlers what → as_port what ≡ Some n → n < length parts.ports
kind_port parts handlers n (kinds.Port k) fit e = let same : k ≡ n = cc in omega arith
kind_port parts handlers n (kinds.Queue k) fit e = absurd cc
kind_port parts handlers n (kinds.Set k) fit e = absurd cc
kind_port parts handlers n (kinds.Cause k) fit e = absurd cc
kind_port parts handlers n (kinds.Handler k) fit e = absurd cc
kind_port parts handlers n (kinds.Arbiter k) fit e = absurd cc
kind_port parts handlers n kinds.Branch fit e = absurd cc
kind_port parts handlers n kinds.Poster fit e = absurd cc

kind_queue : (parts : Parts) (handlers n : ℕ) (what : Named) → KindFit parts handlers what → as_queue what ≡ Some n → n < length parts.queues
kind_queue parts handlers n (kinds.Queue k) fit e = let same : k ≡ n = cc in omega arith
kind_queue parts handlers n (kinds.Port k) fit e = absurd cc
kind_queue parts handlers n (kinds.Set k) fit e = absurd cc
kind_queue parts handlers n (kinds.Cause k) fit e = absurd cc
kind_queue parts handlers n (kinds.Handler k) fit e = absurd cc
kind_queue parts handlers n (kinds.Arbiter k) fit e = absurd cc
kind_queue parts handlers n kinds.Branch fit e = absurd cc
kind_queue parts handlers n kinds.Poster fit e = absurd cc

kind_cause : (parts : Parts) (handlers n : ℕ) (what : Named) → KindFit parts handlers what → as_cause what ≡ Some n → n < length parts.causes
kind_cause parts handlers n (kinds.Cause k) fit e = let same : k ≡ n = cc in omega arith
kind_cause parts handlers n (kinds.Queue k) fit e = absurd cc
kind_cause parts handlers n (kinds.Set k) fit e = absurd cc
kind_cause parts handlers n (kinds.Port k) fit e = absurd cc
kind_cause parts handlers n (kinds.Handler k) fit e = absurd cc
kind_cause parts handlers n (kinds.Arbiter k) fit e = absurd cc
kind_cause parts handlers n kinds.Branch fit e = absurd cc
kind_cause parts handlers n kinds.Poster fit e = absurd cc

kind_handler : (parts : Parts) (handlers n : ℕ) (what : Named) → KindFit parts handlers what → as_handler what ≡ Some n → n < handlers
kind_handler parts handlers n (kinds.Handler k) fit e = let same : k ≡ n = cc in omega arith
kind_handler parts handlers n (kinds.Queue k) fit e = absurd cc
kind_handler parts handlers n (kinds.Set k) fit e = absurd cc
kind_handler parts handlers n (kinds.Port k) fit e = absurd cc
kind_handler parts handlers n (kinds.Cause k) fit e = absurd cc
kind_handler parts handlers n (kinds.Arbiter k) fit e = absurd cc
kind_handler parts handlers n kinds.Branch fit e = absurd cc
kind_handler parts handlers n kinds.Poster fit e = absurd cc

-- what a reference refers to is there
referred : (as_kind : Named → Option ℕ) (P : Named → Type 0) (Q : ℕ → Type 0) → ((n : ℕ) (what : Named) → P what → as_kind what ≡ Some n → Q n)
    → (names : Naming) (word : List ℕ) (n : ℕ) → Each (λ (entry : List ℕ × Named). P entry.1) names → Refers as_kind names word n → Q n
referred as_kind P Q kind names word n known refers =
    let what = some_then as_kind (meaning_of names word) n refers in
    kind n what.0 (named_each P names word what.0 known what.1) what.2

pub port_there : (draft : Declared) (handlers : ℕ) (word : List ℕ) (n : ℕ) → Known draft.parts handlers draft.names → IsPort draft word n → n < length draft.parts.ports
port_there draft handlers word n known (inl (plain, refers)) = referred as_port (KindFit draft.parts handlers) (λ k. k < length draft.parts.ports) (kind_port draft.parts handlers) draft.names word n known refers
port_there draft handlers word n known (inr said) = referred as_port (KindFit draft.parts handlers) (λ k. k < length draft.parts.ports) (kind_port draft.parts handlers) draft.names said.name n known said.in_names

cause_there : (draft : Declared) (handlers : ℕ) (word : List ℕ) (n : ℕ) → Known draft.parts handlers draft.names → Refers as_cause draft.names word n → n < length draft.parts.causes
cause_there draft handlers word n known refers = referred as_cause (KindFit draft.parts handlers) (λ k. k < length draft.parts.causes) (kind_cause draft.parts handlers) draft.names word n known refers

pub policy_fit : (words : Words) (p : Policy) → IsPolicy words p → PolicyFit p
policy_fit words policies.Unbounded said = tt
policy_fit words (policies.Discard n) said = (said.2.above, said.2.below)
policy_fit words (policies.Throttle n) said = (said.2.above, said.2.below)

both_false : (a b : Bool) → b ≡ false → (a && b) ≡ false
both_false true b e = e
both_false false b e = refl

pub value_fit : (version : ℕ) (word value : List ℕ) → IsValueWord version word value → OldFit version (is_long value)
value_fit version word value (inl (older, said)) = both_false (not (version == 2)) (is_long value) (rw said.alone refl)
value_fit version word value (inr (newer, said)) = rw newer refl

expr_fit : (version : ℕ) (words : Words) (value : Expr) → IsExpr version words value → ExprFit version value
expr_fit version words (exprs.Number value) said = value_fit version said.0 value said.2
expr_fit version words (exprs.Part message index) said = (rw said.newer refl, said.counted.below, said.within.below)
expr_fit version words (exprs.Arg k) said = said.2.below
expr_fit version words exprs.Sum said = tt
expr_fit version words exprs.Count said = tt

-- ---- numbers of which each is none of those found before it

ports_fit : (draft : Declared) (handlers : ℕ) → Known draft.parts handlers draft.names → (found ports : List ℕ) (words : Words) → are_apart found ≡ true → ArePorts draft found ports words
    → PortsFit (length draft.parts.ports) ports × (are_apart (found ++ ports) ≡ true)
ports_fit draft handlers known found [] words apart said = (tt, rw (append-nil found) apart)
ports_fit draft handlers known found (port ∷ ports) words apart said =
    let rest = ports_fit draft handlers known (found ++ port ∷ []) ports said.1 (apart_snoc found port apart said.4) said.5 in
    ((port_there draft handlers said.0 port known said.3, rest.0), subst (λ all. are_apart all ≡ true) (append_assoc found (port ∷ []) ports) rest.1)

pub members_fit : (draft : Declared) (handlers : ℕ) → Known draft.parts handlers draft.names → (ports : List ℕ) (words : Words) → ArePorts draft [] ports words
    → PortsFit (length draft.parts.ports) ports × (are_apart ports ≡ true)
members_fit draft handlers known ports words said = ports_fit draft handlers known [] ports words refl said

-- what no domain has is none of all members
free_all : (domains : List DomainPart) (n : ℕ) → is_combined domains n ≡ false → has_number (members_in_all domains) n ≡ false
free_all [] n free = refl
free_all (domain ∷ domains) n free =
    let parts = neither (has_number domain.members n) (is_combined domains n) free in
    none_of_both (λ other. other == n) domain.members (members_in_all domains) parts.0 (free_all domains n parts.1)

pub interleaves_fit : (draft : Declared) (found members : List ℕ) (words : Words) → are_apart (members_in_all draft.parts.domains ++ found) ≡ true → AreInterleaves draft found members words
    → Each (InterleaveFit draft.parts.arbiters) members × (are_apart (members_in_all draft.parts.domains ++ (found ++ members)) ≡ true)
interleaves_fit draft found [] words apart said = (tt, rw (append-nil found) apart)
interleaves_fit draft found (n ∷ members) words apart said =
    let earlier : List ℕ = members_in_all draft.parts.domains in
    let new : has_number (earlier ++ found) n ≡ false = none_of_both (λ other. other == n) earlier found (free_all draft.parts.domains n said.4) said.5 in
    let next : are_apart (earlier ++ (found ++ n ∷ [])) ≡ true = subst (λ all. are_apart all ≡ true) (append_assoc earlier found (n ∷ [])) (apart_snoc (earlier ++ found) n apart new) in
    let rest = interleaves_fit draft (found ++ n ∷ []) members said.1 next said.6 in
    ((said.3.1, rest.0), subst (λ all. are_apart (earlier ++ all) ≡ true) (append_assoc found (n ∷ []) members) rest.1)

causes_go : (draft : Declared) (handlers : ℕ) → Known draft.parts handlers draft.names → (found causes : List ℕ) (words : Words) → are_apart found ≡ true → AreCauses draft.names found causes words
    → PortsFit (length draft.parts.causes) causes × (are_apart (found ++ causes) ≡ true)
causes_go draft handlers known found [] words apart said = (tt, rw (append-nil found) apart)
causes_go draft handlers known found (cause ∷ causes) words apart said =
    let rest = causes_go draft handlers known (found ++ cause ∷ []) causes said.1 (apart_snoc found cause apart said.4) said.5 in
    ((cause_there draft handlers said.0 cause known said.3, rest.0), subst (λ all. are_apart all ≡ true) (append_assoc found (cause ∷ []) causes) rest.1)

pub causes_fit : (draft : Declared) (handlers : ℕ) → Known draft.parts handlers draft.names → (causes : List ℕ) (words : Words) → AreCauses draft.names [] causes words
    → PortsFit (length draft.parts.causes) causes × (are_apart causes ≡ true)
causes_fit draft handlers known causes words said = causes_go draft handlers known [] causes words refl said

ports_push : (found : List Slot) (slot : Slot) → slot_ports (found ++ slot ∷ []) ≡ slot_ports found ++ slot.port ∷ []
ports_push found slot = map_push (λ (s : Slot). s.port) found slot

slots_fit : (draft : Declared) (handlers : ℕ) → Known draft.parts handlers draft.names → (found slots : List Slot) (words : Words) → are_apart (slot_ports found) ≡ true → IsSlots draft found slots words
    → Each (SlotFit (length draft.parts.ports)) slots × (are_apart (slot_ports (found ++ slots)) ≡ true)
slots_fit draft handlers known found [] words apart said = (tt, rw (append-nil found) apart)
slots_fit draft handlers known found (slot ∷ slots) words apart said =
    let new : are_apart (slot_ports (found ++ slot ∷ [])) ≡ true = rw (ports_push found slot) (apart_snoc (slot_ports found) slot.port apart said.4) in
    let rest = slots_fit draft handlers known (found ++ slot ∷ []) slots said.1 new said.5 in (
      ((port_there draft handlers said.3.port slot.port known said.3.refers, said.3.exact, said.3.counted.above, said.3.counted.below), rest.0),
      subst (λ all. are_apart (slot_ports all) ≡ true) (append_assoc found (slot ∷ []) slots) rest.1,
    )

pattern_fit : (draft : Declared) (handlers : ℕ) → Known draft.parts handlers draft.names → (words : Words) (shape : Pattern) → IsPattern draft words shape → PatternFit (length draft.parts.ports) shape
pattern_fit draft handlers known words (patterns.Slots slots) said =
    let fit = slots_fit draft handlers known [] slots said.0 refl said.2 in (fit.0, fit.1, said.3, said.4)
pattern_fit draft handlers known words (patterns.Gather total first second) said =
    let g = said.2 in
    (port_there draft handlers g.one first known g.refers, port_there draft handlers g.other second known g.other_refers, g.apart, g.counted.above, g.counted.below)

pub branch_fit : (draft : Declared) (handlers : ℕ) → Known draft.parts handlers draft.names → (words : Words) (branch : BranchPart) → IsBranchTail draft words branch → BranchFit (length draft.parts.queues) handlers (length draft.parts.ports) branch
branch_fit draft handlers known words branch said = (
  referred as_queue (KindFit draft.parts handlers) (λ k. k < length draft.parts.queues) (kind_queue draft.parts handlers) draft.names said.queue branch.queue known said.queued,
  referred as_handler (KindFit draft.parts handlers) (λ k. k < handlers) (kind_handler draft.parts handlers) draft.names said.handler branch.handler known said.handled,
  pattern_fit draft handlers known said.shape branch.pattern said.pattern,
)

pub action_fit : (draft : Declared) (handlers : ℕ) → Known draft.parts handlers draft.names → (first : Keyword) (words : Words) (action : Action) → IsAction draft first words action → ActionFit draft.parts.version (length draft.parts.ports) (length draft.parts.causes) action
action_fit draft handlers known keywords.Budget words action said = absurd said
action_fit draft handlers known keywords.Queue words action said = absurd said
action_fit draft handlers known keywords.Port words action said = absurd said
action_fit draft handlers known keywords.Portset words action said = absurd said
action_fit draft handlers known keywords.Cause words action said = absurd said
action_fit draft handlers known keywords.Handler words action said = absurd said
action_fit draft handlers known keywords.Receive words action said = absurd said
action_fit draft handlers known keywords.Choice words action said = absurd said
action_fit draft handlers known keywords.Interleave words action said = absurd said
action_fit draft handlers known keywords.Combine words action said = absurd said
action_fit draft handlers known keywords.Poster words action said = absurd said
action_fit draft handlers known keywords.Post words (actions.Post port value) said = (port_there draft handlers said.0 port known said.3, expr_fit draft.parts.version said.1 value said.4)
action_fit draft handlers known keywords.Post words (actions.Fail value) said = absurd said
action_fit draft handlers known keywords.Post words (actions.Add cause) said = absurd said
action_fit draft handlers known keywords.Post words (actions.Remove cause) said = absurd said
action_fit draft handlers known keywords.Post words (actions.Await port) said = absurd said
action_fit draft handlers known keywords.Fail words (actions.Post port value) said = absurd said
action_fit draft handlers known keywords.Fail words (actions.Fail value) said = expr_fit draft.parts.version words value said
action_fit draft handlers known keywords.Fail words (actions.Add cause) said = absurd said
action_fit draft handlers known keywords.Fail words (actions.Remove cause) said = absurd said
action_fit draft handlers known keywords.Fail words (actions.Await port) said = absurd said
action_fit draft handlers known keywords.Add words (actions.Post port value) said = absurd said
action_fit draft handlers known keywords.Add words (actions.Fail value) said = absurd said
action_fit draft handlers known keywords.Add words (actions.Add cause) said = cause_there draft handlers said.0 cause known said.2
action_fit draft handlers known keywords.Add words (actions.Remove cause) said = absurd said
action_fit draft handlers known keywords.Add words (actions.Await port) said = absurd said
action_fit draft handlers known keywords.Remove words (actions.Post port value) said = absurd said
action_fit draft handlers known keywords.Remove words (actions.Fail value) said = absurd said
action_fit draft handlers known keywords.Remove words (actions.Add cause) said = absurd said
action_fit draft handlers known keywords.Remove words (actions.Remove cause) said = cause_there draft handlers said.0 cause known said.2
action_fit draft handlers known keywords.Remove words (actions.Await port) said = absurd said
action_fit draft handlers known keywords.Await words (actions.Post port value) said = absurd said
action_fit draft handlers known keywords.Await words (actions.Fail value) said = absurd said
action_fit draft handlers known keywords.Await words (actions.Add cause) said = absurd said
action_fit draft handlers known keywords.Await words (actions.Remove cause) said = absurd said
action_fit draft handlers known keywords.Await words (actions.Await port) said = port_there draft handlers said.0 port known said.2
action_fit draft handlers known keywords.Branch words action said = absurd said
action_fit draft handlers known keywords.Teardown words action said = absurd said
action_fit draft handlers known keywords.Exclusive words action said = absurd said
action_fit draft handlers known keywords.Concurrent words action said = absurd said
action_fit draft handlers known keywords.End words action said = absurd said
action_fit draft handlers known keywords.Other words action said = absurd said

-- ---- the groups that a line may have

pub receive_group : (word : List ℕ) (g : Group) → IsGroup word g → may_have arbiters.Receive g ≡ true
receive_group word groups.Once said = refl
receive_group word groups.Always said = refl
receive_group word groups.Choice said = absurd said
receive_group word groups.Teardown said = absurd said
receive_group word groups.Exclusive said = absurd said
receive_group word groups.Concurrent said = absurd said

pub group_may : (kind : Kind) (first : Keyword) (g : Group) → group_of kind first ≡ Some g → may_have kind g ≡ true
group_may arbiters.Receive keywords.Budget g e = absurd cc
group_may arbiters.Receive keywords.Queue g e = absurd cc
group_may arbiters.Receive keywords.Port g e = absurd cc
group_may arbiters.Receive keywords.Portset g e = absurd cc
group_may arbiters.Receive keywords.Cause g e = absurd cc
group_may arbiters.Receive keywords.Handler g e = absurd cc
group_may arbiters.Receive keywords.Receive g e = absurd cc
group_may arbiters.Receive keywords.Choice g e = absurd cc
group_may arbiters.Receive keywords.Interleave g e = absurd cc
group_may arbiters.Receive keywords.Combine g e = absurd cc
group_may arbiters.Receive keywords.Poster g e = absurd cc
group_may arbiters.Receive keywords.Post g e = absurd cc
group_may arbiters.Receive keywords.Fail g e = absurd cc
group_may arbiters.Receive keywords.Add g e = absurd cc
group_may arbiters.Receive keywords.Remove g e = absurd cc
group_may arbiters.Receive keywords.Await g e = absurd cc
group_may arbiters.Receive keywords.Branch g e = absurd cc
group_may arbiters.Receive keywords.Teardown g e = absurd cc
group_may arbiters.Receive keywords.Exclusive g e = absurd cc
group_may arbiters.Receive keywords.Concurrent g e = absurd cc
group_may arbiters.Receive keywords.End g e = absurd cc
group_may arbiters.Receive keywords.Other g e = absurd cc
group_may arbiters.Choice keywords.Budget g e = absurd cc
group_may arbiters.Choice keywords.Queue g e = absurd cc
group_may arbiters.Choice keywords.Port g e = absurd cc
group_may arbiters.Choice keywords.Portset g e = absurd cc
group_may arbiters.Choice keywords.Cause g e = absurd cc
group_may arbiters.Choice keywords.Handler g e = absurd cc
group_may arbiters.Choice keywords.Receive g e = absurd cc
group_may arbiters.Choice keywords.Choice g e = absurd cc
group_may arbiters.Choice keywords.Interleave g e = absurd cc
group_may arbiters.Choice keywords.Combine g e = absurd cc
group_may arbiters.Choice keywords.Poster g e = absurd cc
group_may arbiters.Choice keywords.Post g e = absurd cc
group_may arbiters.Choice keywords.Fail g e = absurd cc
group_may arbiters.Choice keywords.Add g e = absurd cc
group_may arbiters.Choice keywords.Remove g e = absurd cc
group_may arbiters.Choice keywords.Await g e = absurd cc
group_may arbiters.Choice keywords.Branch g e = let same : groups.Choice ≡ g = cc in ap (may_have arbiters.Choice) (sym same)
group_may arbiters.Choice keywords.Teardown g e = absurd cc
group_may arbiters.Choice keywords.Exclusive g e = absurd cc
group_may arbiters.Choice keywords.Concurrent g e = absurd cc
group_may arbiters.Choice keywords.End g e = absurd cc
group_may arbiters.Choice keywords.Other g e = absurd cc
group_may arbiters.Interleave keywords.Budget g e = absurd cc
group_may arbiters.Interleave keywords.Queue g e = absurd cc
group_may arbiters.Interleave keywords.Port g e = absurd cc
group_may arbiters.Interleave keywords.Portset g e = absurd cc
group_may arbiters.Interleave keywords.Cause g e = absurd cc
group_may arbiters.Interleave keywords.Handler g e = absurd cc
group_may arbiters.Interleave keywords.Receive g e = absurd cc
group_may arbiters.Interleave keywords.Choice g e = absurd cc
group_may arbiters.Interleave keywords.Interleave g e = absurd cc
group_may arbiters.Interleave keywords.Combine g e = absurd cc
group_may arbiters.Interleave keywords.Poster g e = absurd cc
group_may arbiters.Interleave keywords.Post g e = absurd cc
group_may arbiters.Interleave keywords.Fail g e = absurd cc
group_may arbiters.Interleave keywords.Add g e = absurd cc
group_may arbiters.Interleave keywords.Remove g e = absurd cc
group_may arbiters.Interleave keywords.Await g e = absurd cc
group_may arbiters.Interleave keywords.Branch g e = absurd cc
group_may arbiters.Interleave keywords.Teardown g e = let same : groups.Teardown ≡ g = cc in ap (may_have arbiters.Interleave) (sym same)
group_may arbiters.Interleave keywords.Exclusive g e = let same : groups.Exclusive ≡ g = cc in ap (may_have arbiters.Interleave) (sym same)
group_may arbiters.Interleave keywords.Concurrent g e = let same : groups.Concurrent ≡ g = cc in ap (may_have arbiters.Interleave) (sym same)
group_may arbiters.Interleave keywords.End g e = absurd cc
group_may arbiters.Interleave keywords.Other g e = absurd cc
