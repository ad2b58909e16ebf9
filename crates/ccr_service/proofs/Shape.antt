-- What the branches and handlers of an expansion are.
use Rattle.std.proofs.Common.{◌≡◌, ◌⊎◌, inl, inr, ℕ, zero, suc, ◌+◌, ◌-◌, Bool, true, false, List, [], ◌∷◌, ◌++◌, length, map, Option, Some, None, refl, sym, ap, ◌∙◌, arith, subst, append-nil}
use Rattle.std.specs.Prelude.{codes, if◌then◌else◌, nat_lt}
use Rattle.std.specs.List.{slice_get, list_any}
use Rattle.std.proofs.lemmas.Bool.Decides.{nat_tests}
use Rattle.std.proofs.Math.Bool.{or-true}
use Rattle.ccr_base.specs.declared.handlers.Action.TheVariants.{Post, Fail}
use Rattle.ccr_base.specs.declared.handlers.Expr.TheVariants.{Arg}
use Rattle.ccr_base.specs.declared.patterns.Pred.{Pred}
use Rattle.ccr_base.specs.declared.patterns.Pred.TheVariants.{Any, Lt, Ge}
use Rattle.ccr_base.specs.declared.patterns.Slot.{Slot}
use Rattle.ccr_base.specs.declared.patterns.Pattern.TheVariants.{Slots}
use Rattle.ccr_base.specs.Selection.{holds}
use Rattle.ccr_wiring.specs.declared.parts.BranchPart.{BranchPart}
use Rattle.ccr_wiring.specs.declared.parts.Kind.TheVariants as kinds
use Rattle.ccr_wiring.specs.Wirings.{Placement, placement, placements, in_domain, actions_of, awaited}
use Rattle.ccr_wiring.specs.Wirings as wirings
use Rattle.ccr_wiring.specs.Valid.{HasQueues}
use Rattle.ccr_model.proofs.Members.{Among, Among-left, Among-right, Among-either, Among-at, index_of, Among-map, Among-mapped}
use Rattle.ccr_wiring.proofs.Positions.{get-front, get-back}
use Rattle.ccr_service.specs.declared.parts.OpPart.{OpPart}
use Rattle.ccr_service.specs.declared.parts.ServiceParts.{ServiceParts}
use Rattle.ccr_service.specs.Expansion.{request_port, response_port, one_action, handlers_from, handlers, fault_handler, is_bounded, takes_one, op_branches, branches_from, expansion}
use Rattle.ccr_service.specs.Stillness.{HasNoAwaits}

-- ---- branches

-- the one slot of a branch
abbrev pub one_slot : ℕ → Pred → Slot
one_slot port pred = record { port = port; least = 1; most = 1; pred = pred }

-- what a branch is for: what the operation does, or a fault
abbrev pub Role : ℕ → ℕ → OpPart → ℕ → Pred → Type 0
Role faults op part handler pred = ((handler ≡ op) × (((part.below ≡ None) × (pred ≡ Any)) ⊎ ((n : ℕ) × (part.below ≡ Some n) × (pred ≡ Lt n)))) ⊎ ((handler ≡ faults) × ((n : ℕ) × (part.below ≡ Some n) × (pred ≡ Ge n)))

pub record Serves (faults op : ℕ) (part : OpPart) (branch : BranchPart) (pred : Pred) : Type 0 where
  pub queue : branch.queue ≡ 0
  pub group : branch.group ≡ part.group
  pub pattern : branch.pattern ≡ Slots (one_slot (request_port op) pred ∷ [])
  pub role : Role faults op part branch.handler pred

pub serves_by : (faults op : ℕ) (part : OpPart) (o : Option ℕ) (b : BranchPart) → part.below ≡ o → Among b (op_branches faults op part o) → (pred : Pred) × Serves faults op part b pred
serves_by faults op part None b at (inl e) = (Any, record { queue = rw e refl; group = rw e refl; pattern = rw e refl; role = inl (rw e refl, inl (at, refl)) })
serves_by faults op part None b at (inr more) = absurd more
serves_by faults op part (Some n) b at (inl e) = (Lt n, record { queue = rw e refl; group = rw e refl; pattern = rw e refl; role = inl (rw e refl, inr (n, at, refl)) })
serves_by faults op part (Some n) b at (inr (inl e)) = (Ge n, record { queue = rw e refl; group = rw e refl; pattern = rw e refl; role = inr (rw e refl, (n, at, refl)) })
serves_by faults op part (Some n) b at (inr (inr more)) = absurd more

-- each branch serves an operation
pub serves_some : (faults n : ℕ) (ops : List OpPart) (b : BranchPart) → Among b (branches_from faults n ops) → (k : ℕ) × (part : OpPart) × (slice_get ops k ≡ Some part) × Among b (op_branches faults (n + k) part part.below)
serves_some faults n [] b among = absurd among
serves_some faults n (op ∷ ops) b among = here_or_later (Among-either b (op_branches faults n op op.below) (branches_from faults (n + 1) ops) among) (serves_some faults (n + 1) ops b)
  where
    here_or_later : Among b (op_branches faults n op op.below) ⊎ Among b (branches_from faults (n + 1) ops) → (Among b (branches_from faults (n + 1) ops) → (k : ℕ) × (part : OpPart) × (slice_get ops k ≡ Some part) × Among b (op_branches faults ((n + 1) + k) part part.below)) → (k : ℕ) × (part : OpPart) × (slice_get (op ∷ ops) k ≡ Some part) × Among b (op_branches faults (n + k) part part.below)
    here_or_later (inl here) rest = let e : n ≡ n + 0 = omega arith in (0, op, refl, subst (λ i. Among b (op_branches faults i op op.below)) e here)
    here_or_later (inr later) rest =
        let found = rest later in
        let e : (n + 1) + found.0 ≡ n + suc found.0 = omega arith in
        (suc found.0, found.1, found.2, subst (λ i. Among b (op_branches faults i found.1 found.1.below)) e found.3)

-- each branch of an operation is one of them all
among_all : (faults n k : ℕ) (ops : List OpPart) (part : OpPart) (b : BranchPart) → slice_get ops k ≡ Some part → Among b (op_branches faults (n + k) part part.below) → Among b (branches_from faults n ops)
among_all faults n k [] part b at among = absurd (cc)
among_all faults n zero (op ∷ ops) part b at among =
    let e : n + 0 ≡ n = omega arith in
    let same : part ≡ op = cc in
    Among-left b (op_branches faults n op op.below) (branches_from faults (n + 1) ops) (subst (λ (p : OpPart). Among b (op_branches faults n p p.below)) same (subst (λ i. Among b (op_branches faults i part part.below)) e among))
among_all faults n (suc k) (op ∷ ops) part b at among =
    let e : n + suc k ≡ (n + 1) + k = omega arith in
    Among-right b (op_branches faults n op op.below) (branches_from faults (n + 1) ops) (among_all faults (n + 1) k ops part b at (subst (λ i. Among b (op_branches faults i part part.below)) e among))

-- ---- placements

abbrev seated : BranchPart → Placement
seated b = record { domain = 0; kind = kinds.Interleave; branch = b }

placements_are : (s : ServiceParts) → placements (expansion s) ≡ map seated (branches_from (length s.ops) 0 s.ops)
placements_are s = ap (map (in_domain [])) (append-nil (map seated (branches_from (length s.ops) 0 s.ops))) ∙ alone (branches_from (length s.ops) 0 s.ops)
  where
    alone : (bs : List BranchPart) → map (in_domain []) (map seated bs) ≡ map seated bs
    alone [] = refl
    alone (b ∷ bs) = ap (λ (rs : List Placement). seated b ∷ rs) (alone bs)

-- what a placement of an expansion is
pub record PlacementFacts (s : ServiceParts) (r : Placement) : Type 0 where
  pub domain : r.domain ≡ 0
  pub kind : r.kind ≡ kinds.Interleave
  pub op : ℕ
  pub part : OpPart
  pub at : slice_get s.ops op ≡ Some part
  pub pred : Pred
  pub serves : Serves (length s.ops) op part r.branch pred

pub PlacementFacts-placement : (s : ServiceParts) (b : ℕ) (r : Placement) → placement (expansion s) b ≡ Some r → PlacementFacts s r
PlacementFacts-placement s b r is =
    let among = subst (Among r) (placements_are s) (Among-at (placements (expansion s)) b r is) in
    let found = Among-mapped seated (branches_from (length s.ops) 0 s.ops) r among in
    let its = serves_some (length s.ops) 0 s.ops found.0 found.1 in
    let e : 0 + its.0 ≡ its.0 = omega arith in
    let served = serves_by (length s.ops) its.0 its.1 its.1.below found.0 refl (subst (λ i. Among found.0 (op_branches (length s.ops) i its.1 its.1.below)) e its.3) in
    record {
      domain = ap (λ (x : Placement). x.domain) (sym found.2);
      kind = ap (λ (x : Placement). x.kind) (sym found.2);
      op = its.0;
      part = its.1;
      at = its.2;
      pred = served.0;
      serves = subst (λ (x : BranchPart). Serves (length s.ops) its.0 its.1 x served.0) (ap (λ (x : Placement). x.branch) found.2) served.1;
    }

-- each value has a branch of the operation that takes it
pub record TakesIt (s : ServiceParts) (op value : ℕ) : Type 0 where
  pub number : ℕ
  pub placement : Placement
  pub is_placement : wirings.placement (expansion s) number ≡ Some placement
  pub pred : Pred
  pub part : OpPart
  pub serves : Serves (length s.ops) op part placement.branch pred
  pub holds_so : holds pred (value ∷ []) ≡ true

takes_branch : (faults op value : ℕ) (part : OpPart) (o : Option ℕ) → part.below ≡ o → (b : BranchPart) × Among b (op_branches faults op part o) × ((pred : Pred) × Serves faults op part b pred × (holds pred (value ∷ []) ≡ true))
takes_branch faults op value part None at = (takes_one part.name part.group op (request_port op) Any, inl refl, (Any, record { queue = refl; group = refl; pattern = refl; role = inl (refl, inl (at, refl)) }, refl))
takes_branch faults op value part (Some n) at = by_test (nat_lt value n) refl
  where
    by_test : (x : Bool) → nat_lt value n ≡ x → (b : BranchPart) × Among b (op_branches faults op part (Some n)) × ((pred : Pred) × Serves faults op part b pred × (holds pred (value ∷ []) ≡ true))
    by_test true e = (takes_one part.name part.group op (request_port op) (Lt n), inl refl, (Lt n, record { queue = refl; group = refl; pattern = refl; role = inl (refl, inr (n, at, refl)) }, e))
    by_test false e = (takes_one (part.name ++ codes "-x") part.group faults (request_port op) (Ge n), inr (inl refl), (Ge n, record { queue = refl; group = refl; pattern = refl; role = inr (refl, (n, at, refl)) }, grind (arith, nat_tests, e)))

pub TakesIt-op : (s : ServiceParts) (op value : ℕ) (part : OpPart) → slice_get s.ops op ≡ Some part → TakesIt s op value
TakesIt-op s op value part at =
    let its = takes_branch (length s.ops) op value part part.below refl in
    let e : op ≡ 0 + op = omega arith in
    let among = among_all (length s.ops) 0 op s.ops part its.0 at (subst (λ i. Among its.0 (op_branches (length s.ops) i part part.below)) e its.1) in
    let index = index_of (placements (expansion s)) (seated its.0) (subst (Among (seated its.0)) (sym (placements_are s)) (Among-map seated (branches_from (length s.ops) 0 s.ops) its.0 among)) in
    record { number = index.0; placement = seated its.0; is_placement = index.1; pred = its.2.0; part = part; serves = its.2.1; holds_so = its.2.2 }

-- ---- handlers

handler_at : (n k : ℕ) (ops : List OpPart) (part : OpPart) → slice_get ops k ≡ Some part → slice_get (handlers_from n ops) k ≡ Some (one_action (part.name ++ codes "-h") (Post (response_port (n + k)) part.expr))
handler_at n k [] part at = absurd (cc)
handler_at n zero (op ∷ ops) part at = let same : op ≡ part = cc in let e : n + 0 ≡ n = omega arith in rw (same, e) refl
handler_at n (suc k) (op ∷ ops) part at = let e : n + suc k ≡ (n + 1) + k = omega arith in rw e (handler_at (n + 1) k ops part at)

pub handlers_length : (n : ℕ) (ops : List OpPart) → length (handlers_from n ops) ≡ length ops
handlers_length n [] = refl
handlers_length n (op ∷ ops) = ap suc (handlers_length (n + 1) ops)

pub some_bounded : (ops : List OpPart) (k : ℕ) (part : OpPart) → slice_get ops k ≡ Some part → is_bounded part ≡ true → list_any is_bounded ops ≡ true
some_bounded [] k part at is = absurd (cc)
some_bounded (op ∷ ops) zero part at is = let same : op ≡ part = cc in rw (same, is) refl
some_bounded (op ∷ ops) (suc k) part at is = rw (some_bounded ops k part at is) (or-true (is_bounded op))

-- an operation's handler posts its response
pub op_actions : (s : ServiceParts) (k : ℕ) (part : OpPart) → slice_get s.ops k ≡ Some part → actions_of (expansion s) k ≡ Post (response_port k) part.expr ∷ []
op_actions s k part at =
    let found : slice_get (handlers s.ops) k ≡ Some (one_action (part.name ++ codes "-h") (Post (response_port (0 + k)) part.expr)) = get-front (handlers_from 0 s.ops) _ k _ (handler_at 0 k s.ops part at) in
    let e : 0 + k ≡ k = omega arith in
    rw (found, e) refl

-- the handler of faults fails with the request's value
pub fault_actions : (s : ServiceParts) (k n : ℕ) (part : OpPart) → slice_get s.ops k ≡ Some part → part.below ≡ Some n → actions_of (expansion s) (length s.ops) ≡ Fail (Arg 0) ∷ []
fault_actions s k n part at bound =
    let long = handlers_length 0 s.ops in
    let is : is_bounded part ≡ true = rw bound refl in
    let any = some_bounded s.ops k part at is in
    let e : length s.ops - length (handlers_from 0 s.ops) ≡ 0 = omega (arith, long) in
    let back = get-back (handlers_from 0 s.ops) (if list_any is_bounded s.ops then fault_handler ∷ [] else []) (length s.ops) (omega (arith, long)) in
    let here : slice_get (if list_any is_bounded s.ops then fault_handler ∷ [] else []) (length s.ops - length (handlers_from 0 s.ops)) ≡ Some fault_handler = rw (any, e) refl in
    let found : slice_get (handlers s.ops) (length s.ops) ≡ Some fault_handler = back ∙ here in
    rw found refl

-- ---- what follows

no_awaits_in : (s : ServiceParts) (r : Placement) → PlacementFacts s r → awaited (actions_of (expansion s) r.branch.handler) ≡ []
no_awaits_in s r facts = by_role facts.serves.role
  where
    by_role : Role (length s.ops) facts.op facts.part r.branch.handler facts.pred → awaited (actions_of (expansion s) r.branch.handler) ≡ []
    by_role (inl own) = ap (λ h. awaited (actions_of (expansion s) h)) own.0 ∙ ap awaited (op_actions s facts.op facts.part facts.at)
    by_role (inr fault) = ap (λ h. awaited (actions_of (expansion s) h)) fault.0 ∙ ap awaited (fault_actions s facts.op fault.1.0 facts.part facts.at fault.1.1)

pub awaits_none : (s : ServiceParts) → HasNoAwaits (expansion s)
awaits_none s b r is = no_awaits_in s r (PlacementFacts-placement s b r is)

pub one_queue : (s : ServiceParts) → HasQueues (expansion s)
one_queue s b r is = let zero_queue = (PlacementFacts-placement s b r is).serves.queue in omega (arith, zero_queue)
