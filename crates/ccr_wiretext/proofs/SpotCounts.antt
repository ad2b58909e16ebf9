-- The ports that the spots name.
use Rattle.std.proofs.Common.{◌≡◌, ℕ, ◌+◌, ◌<◌, ◌≤◌, Bool, true, false, List, [], ◌∷◌, ◌++◌, length, refl, ap, ◌∙◌, arith, sym}
use Rattle.std.specs.Prelude.{◌==◌, nat_lt}
use Rattle.std.specs.List.{list_any}
use Rattle.std.proofs.lemmas.Bool.Decides.{nat_tests}
use Rattle.std.proofs.lemmas.List.Sums.{length-filter}
use Rattle.ccr_wiring.proofs.Crowds.{times_append}
use Rattle.ccr_wiring.specs.declared.parts.Parts.{Parts}
use Rattle.ccr_wiring.specs.declared.parts.HandlerPart.{HandlerPart}
use Rattle.ccr_wiring.specs.declared.parts.BranchPart.{BranchPart}
use Rattle.ccr_wiring.specs.declared.parts.ArbiterPart.{ArbiterPart}
use Rattle.ccr_wiring.specs.declared.parts.Kind.{Kind}
use Rattle.ccr_wiring.specs.Groups.{may_have}
use Rattle.ccr_wiring.specs.Spots.{branch_named, branches_named, arbiters_named, times}
use Rattle.ccr_wiring.proofs.DomainsOfOwnKind.{member_fails}
use Rattle.ccr_wiretext.specs.Drafts.{Declared}
use Rattle.ccr_wiretext.specs.Forms.{crowds}
use Rattle.ccr_base.specs.Lists.{Each}
use Rattle.ccr_base.proofs.Options.{get-left}
use Rattle.ccr_base.proofs.Filters.{none_pass}
use Rattle.ccr_wiretext.proofs.Fit.{BranchFit, ArbiterFit}

-- the ports that an arbiter's spots name
abbrev pub arbiter_named : Parts → ArbiterPart → List ℕ
arbiter_named parts part = branches_named parts part.branches

-- ---- handlers behind those that a branch refers to change nothing

branch_same : (parts : Parts) (part : HandlerPart) (branch : BranchPart) → branch.handler < length parts.handlers
    → branch_named (record parts { handlers = parts.handlers ++ part ∷ [] }) branch ≡ branch_named parts branch
branch_same parts part branch less = rw (get-left parts.handlers (part ∷ []) branch.handler less) refl

branches_same : (queues ports : ℕ) (kind : Kind) (parts : Parts) (part : HandlerPart) (branches : List BranchPart)
    → Each (λ (branch : BranchPart). BranchFit queues (length parts.handlers) ports branch × (may_have kind branch.group ≡ true)) branches
    → branches_named (record parts { handlers = parts.handlers ++ part ∷ [] }) branches ≡ branches_named parts branches
branches_same queues ports kind parts part [] fit = refl
branches_same queues ports kind parts part (branch ∷ branches) fit =
    ap (λ (t : List ℕ). t ++ branches_named (record parts { handlers = parts.handlers ++ part ∷ [] }) branches) (branch_same parts part branch fit.0.0.1)
    ∙ ap (λ (t : List ℕ). branch_named parts branch ++ t) (branches_same queues ports kind parts part branches fit.1)

pub arbiters_same : (queues ports : ℕ) (parts : Parts) (part : HandlerPart) (arbiters : List ArbiterPart) → Each (ArbiterFit queues (length parts.handlers) ports) arbiters
    → arbiters_named (record parts { handlers = parts.handlers ++ part ∷ [] }) arbiters ≡ arbiters_named parts arbiters
arbiters_same queues ports parts part [] fit = refl
arbiters_same queues ports parts part (arbiter ∷ arbiters) fit =
    ap (λ (t : List ℕ). t ++ arbiters_named (record parts { handlers = parts.handlers ++ part ∷ [] }) arbiters) (branches_same queues ports arbiter.kind parts part arbiter.branches fit.0.0)
    ∙ ap (λ (t : List ℕ). branches_named parts arbiter.branches ++ t) (arbiters_same queues ports parts part arbiters fit.1)

-- ---- a branch that crowds no port

-- no port stands more than 16 times
abbrev pub Uncrowded : List ℕ → Type 0
Uncrowded ports = (port : ℕ) → times port ports ≤ 16

pub times_none : (port : ℕ) (ports : List ℕ) → list_any (λ other. other == port) ports ≡ false → times port ports ≡ 0
times_none port ports none = sym (length-filter (λ other. other == port) ports) ∙ ap length (none_pass (λ other. other == port) ports none)

pub uncrowded_more : (draft : Declared) (branch : BranchPart) → Uncrowded draft.spotted → crowds draft branch ≡ false → Uncrowded (draft.spotted ++ branch_named draft.parts branch)
unfolding crowds
uncrowded_more draft branch before none port = by (list_any (λ other. other == port) new) refl
  where
    new : List ℕ
    new = branch_named draft.parts branch

    by : (t : Bool) → list_any (λ other. other == port) new ≡ t → times port (draft.spotted ++ new) ≤ 16
    by true is = let test : nat_lt 16 (times port (draft.spotted ++ new)) ≡ false = member_fails (λ p. nat_lt 16 (times p (draft.spotted ++ new))) new port is none in grind (arith, nat_tests, test)
    by false is = let none_new = times_none port new is in let sum = times_append port draft.spotted new in omega (arith, none_new, sum, before port)
