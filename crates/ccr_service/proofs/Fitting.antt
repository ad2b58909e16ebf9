-- The expansion of each service is valid.
use Rattle.std.proofs.Common.{◌≡◌, inl, inr, ℕ, suc, ◌+◌, ◌<◌, ◌≤◌, Bool, true, false, not, ◌||◌, List, [], ◌∷◌, ◌++◌, length, map, Option, Some, None, refl, sym, ap, ◌∙◌, arith, subst, append-nil}
use Rattle.std.specs.Prelude.{◌==◌, codes, if◌then◌else◌, nat_lt}
use Rattle.std.specs.List.{list_any, list_all, slice_get}
use Rattle.std.proofs.lemmas.List.{length-append, length-map}
use Rattle.std.proofs.lemmas.Bool.Decides.{nat_tests}
use Rattle.std.proofs.lemmas.Grind.{common_steps, flat_map-append}
use Rattle.std.proofs.lemmas.Bool.{le-ltb}
use Rattle.ccr_base.specs.declared.handlers.Action.TheVariants as actions
use Rattle.ccr_base.specs.declared.messages.Sent.{Sent}
use Rattle.ccr_base.specs.declared.patterns.Pred.{Pred}
use Rattle.ccr_base.specs.declared.patterns.Pred.TheVariants.{Any, Lt, Ge}
use Rattle.ccr_base.specs.declared.patterns.Pattern.{Pattern}
use Rattle.ccr_wiring.specs.declared.parts.BranchPart.{BranchPart}
use Rattle.ccr_wiring.specs.declared.parts.HandlerPart.{HandlerPart}
use Rattle.ccr_wiring.specs.declared.parts.PosterPart.{PosterPart}
use Rattle.ccr_wiring.specs.declared.parts.Kind.TheVariants as kinds
use Rattle.ccr_wiring.specs.Codes.{code_of}
use Rattle.ccr_wiring.specs.Groups.{may_have, has_misgrouped, has_branchless}
use Rattle.ccr_wiring.specs.Names.{has_repeated_name, has_malformed_name}
use Rattle.ccr_wiring.specs.References.{has_dangling, has_dangling_handler, has_dangling_arbiter, has_dangling_poster, cause_is_dangling, handler_is_dangling, branch_is_dangling, pattern_is_dangling, post_is_dangling, is_beyond, no_port}
use Rattle.ccr_wiring.specs.Repeats.{has_repeat, branch_repeats, poster_repeats, post_repeats, names_ports_once}
use Rattle.ccr_wiring.specs.Limits.{has_outside, posts_in_all, has_branches_above, has_posts_above, has_too_many, has_outside_handler, branch_is_outside, pattern_is_outside, handler_is_outside, expr_is_outside}
use Rattle.ccr_wiring.specs.Versions.{has_strange_version, has_newer, expr_is_newer, handler_is_newer, poster_is_newer, is_long}
use Rattle.ccr_wiring.specs.Spots.{has_crowded_port, named_ports, branch_named, branches_named, pattern_ports, times}
use Rattle.ccr_wiring.specs.Valid.{IsValid}
use Rattle.ccr_wiring.proofs.Validity.{no_code}
use Rattle.ccr_wiring.specs.Wirings.{actions_of, awaited}
use Rattle.ccr_wiring.proofs.Crowds.{times_append}
use Rattle.ccr_base.proofs.Booleans.{both, no_both, same_number, not_true, eq-self, none_or_false}
use Rattle.ccr_base.proofs.Options.{some-below}
use Rattle.ccr_model.proofs.Members.{Among, Among-at, all_pass}
use Rattle.ccr_service.specs.declared.parts.AskPart.{AskPart}
use Rattle.ccr_service.specs.declared.parts.ClientPart.{ClientPart}
use Rattle.ccr_service.specs.declared.parts.OpPart.{OpPart}
use Rattle.ccr_service.specs.declared.parts.ServiceParts.{ServiceParts}
use Rattle.ccr_service.specs.Expansion.{request_port, response_port, op_ports, ports, causes_from, one_action, handlers_from, handlers, fault_handler, is_bounded, takes_one, op_branches, branches_from, request, posters_from, expansion}
use Rattle.ccr_service.specs.Served.{asks_in_all}
use Rattle.ccr_service.specs.Services.{IsService, is_service_op, is_service_expr, are_asked}
use Rattle.ccr_service.proofs.Shape.{Role, Serves, serves_some, serves_by, handlers_length, some_bounded, op_actions, fault_actions}
use Rattle.ccr_service.proofs.Naming.{names_apart, names_formed}

none_any : {X : Type 0} (p : X → Bool) (xs : List X) → ((x : X) → Among x xs → p x ≡ false) → list_any p xs ≡ false
none_any p [] none = refl
none_any p (x ∷ xs) none = rw (none x (inl refl), none_any p xs (λ y is. none y (inr is))) refl

-- ---- how many there are

op_ports_length : (ops : List OpPart) → length (op_ports ops) ≡ length ops + length ops
op_ports_length [] = refl
op_ports_length (op ∷ ops) = let rest = op_ports_length ops in omega (arith, rest)

ports_length : (s : ServiceParts) → length (ports s) ≡ (length s.ops + length s.ops) + length s.clients
ports_length s =
    let a = op_ports_length s.ops in
    let b = length-map s.clients (λ (c : ClientPart). c.name ++ codes "-f") in
    let c = length-append (op_ports s.ops) (map (λ (c : ClientPart). c.name ++ codes "-f") s.clients) in
    omega (arith, a, b, c)

causes_length : (n : ℕ) (cs : List ClientPart) → length (causes_from n cs) ≡ length cs
causes_length n [] = refl
causes_length n (c ∷ cs) = ap suc (causes_length (n + 1) cs)

posters_length : (n : ℕ) (cs : List ClientPart) → length (posters_from n cs) ≡ length cs
posters_length n [] = refl
posters_length n (c ∷ cs) = ap suc (posters_length (n + 1) cs)

all_handlers_length : (ops : List OpPart) (b : Bool) → length (handlers_from 0 ops ++ (if b then fault_handler ∷ [] else [])) ≡ length ops + (if b then 1 else 0)
all_handlers_length ops b =
    let a = handlers_length 0 ops in
    let c = length-append (handlers_from 0 ops) (if b then fault_handler ∷ [] else []) in
    let d = last b in
    omega (arith, a, c, d)
  where
    last : (b : Bool) → length (if b then fault_handler ∷ [] else []) ≡ (if b then 1 else 0)
    last true = refl
    last false = refl

few_more : (b : Bool) → (if b then 1 else 0) ≤ 1
few_more true = omega arith
few_more false = omega arith

posts_all : (n : ℕ) (cs : List ClientPart) → posts_in_all (posters_from n cs) ≡ asks_in_all cs
posts_all n [] = refl
posts_all n (c ∷ cs) =
    let here = length-map c.asks (request n) in
    let rest = posts_all (n + 1) cs in
    let all : posts_in_all (posters_from n (c ∷ cs)) ≡ length (map (request n) c.asks) + posts_in_all (posters_from (n + 1) cs) = grind (arith, common_steps) in
    omega (arith, here, rest, all)

branches_many : (faults n : ℕ) (ops : List OpPart) → (length ops ≤ length (branches_from faults n ops)) × (length (branches_from faults n ops) ≤ length ops + length ops)
branches_many faults n [] = (omega arith, omega arith)
branches_many faults n (op ∷ ops) =
    let rest = branches_many faults (n + 1) ops in
    let here = one op.below in
    let all = length-append (op_branches faults n op op.below) (branches_from faults (n + 1) ops) in
    let low = rest.0 in
    let high = rest.1 in
    let some = here.0 in
    let few = here.1 in
    (omega (arith, low, some, all), omega (arith, high, few, all))
  where
    one : (o : Option ℕ) → (1 ≤ length (op_branches faults n op o)) × (length (op_branches faults n op o) ≤ 2)
    one None = (omega arith, omega arith)
    one (Some bound) = (omega arith, omega arith)

-- ---- the branches

-- what is known of a branch
record BranchSo (s : ServiceParts) (b : BranchPart) : Type 0 where
  op : ℕ
  part : OpPart
  at : slice_get s.ops op ≡ Some part
  pred : Pred
  serves : Serves (length s.ops) op part b pred

branch_so : (s : ServiceParts) (b : BranchPart) → Among b (branches_from (length s.ops) 0 s.ops) → BranchSo s b
branch_so s b among =
    let found = serves_some (length s.ops) 0 s.ops b among in
    let e : 0 + found.0 ≡ found.0 = omega arith in
    let served = serves_by (length s.ops) found.0 found.1 found.1.below b refl (subst (λ i. Among b (op_branches (length s.ops) i found.1 found.1.below)) e found.3) in
    record { op = found.0; part = found.1; at = found.2; pred = served.0; serves = served.1 }

op_so : (s : ServiceParts) → IsService s → (k : ℕ) (part : OpPart) → slice_get s.ops k ≡ Some part → (may_have kinds.Interleave part.group ≡ true) × (is_service_expr part.expr ≡ true)
op_so s is k part at = both (may_have kinds.Interleave part.group) (is_service_expr part.expr) (all_pass is_service_op s.ops part is.ops (Among-at s.ops k part at))

grouped : (s : ServiceParts) → IsService s → has_misgrouped (expansion s) ≡ false
grouped s is = rw (none_any (λ (b : BranchPart). not (may_have kinds.Interleave b.group)) (branches_from (length s.ops) 0 s.ops) each) refl
  where
    each : (b : BranchPart) → Among b (branches_from (length s.ops) 0 s.ops) → not (may_have kinds.Interleave b.group) ≡ false
    each b among = let so = branch_so s b among in ap (λ g. not (may_have kinds.Interleave g)) so.serves.group ∙ ap not (op_so s is so.op so.part so.at).0

-- its handler is there
handler_there : (s : ServiceParts) (b : BranchPart) → (so : BranchSo s b) → is_beyond (length (handlers s.ops)) b.handler ≡ false
handler_there s b so = by_role so.serves.role
  where
    below : so.op < length s.ops
    below = some-below s.ops so.op so.part so.at

    by_role : Role (length s.ops) so.op so.part b.handler so.pred → is_beyond (length (handlers s.ops)) b.handler ≡ false
    by_role (inl own) =
        let e = own.0 in
        let long = all_handlers_length s.ops (list_any is_bounded s.ops) in
        let lt = below in
        let fits : b.handler < length (handlers s.ops) = omega (arith, e, long, lt) in
        grind (arith, nat_tests, fits)
    by_role (inr fault) =
        let e = fault.0 in
        let bounded : is_bounded so.part ≡ true = rw fault.1.1 refl in
        let any = some_bounded s.ops so.op so.part so.at bounded in
        let long : length (handlers s.ops) ≡ length s.ops + 1 = all_handlers_length s.ops (list_any is_bounded s.ops) ∙ ap (λ x. length s.ops + (if x then 1 else 0)) any in
        let fits : b.handler < length (handlers s.ops) = omega (arith, e, long) in
        grind (arith, nat_tests, fits)

port_there : (s : ServiceParts) (port : ℕ) → port < (length s.ops + length s.ops) + length s.clients → no_port (expansion s) port ≡ false
port_there s port lt = let long = ports_length s in let fits : port < length (ports s) = omega (arith, lt, long) in grind (arith, nat_tests, fits)

branch_named_there : (s : ServiceParts) (b : BranchPart) → Among b (branches_from (length s.ops) 0 s.ops) → branch_is_dangling (expansion s) b ≡ false
branch_named_there s b among =
    let so = branch_so s b among in
    let lt = some-below s.ops so.op so.part so.at in
    let queue : is_beyond 1 b.queue ≡ false = ap (is_beyond 1) so.serves.queue in
    let port = port_there s (request_port so.op) (omega (arith, lt)) in
    let pattern : pattern_is_dangling (expansion s) b.pattern ≡ false = ap (pattern_is_dangling (expansion s)) so.serves.pattern ∙ rw port refl in
    rw (queue, handler_there s b so, pattern) refl

-- ---- causes, handlers and scripts

cause_there : (s : ServiceParts) (n : ℕ) (cs : List ClientPart) → n + length cs ≤ (length s.ops + length s.ops) + length s.clients → list_any (cause_is_dangling (expansion s)) (causes_from n cs) ≡ false
cause_there s n [] fits = refl
cause_there s n (c ∷ cs) fits = rw (port_there s n (omega (arith, fits)), cause_there s (n + 1) cs (omega (arith, fits))) refl

-- what is false of an operation's handler and of that of faults is false of all
handlers_none : (s : ServiceParts) (p : HandlerPart → Bool) → ((k : ℕ) (part : OpPart) → slice_get s.ops k ≡ Some part → p (one_action (part.name ++ codes "-h") (actions.Post (response_port k) part.expr)) ≡ false) → p fault_handler ≡ false → list_any p (handlers s.ops) ≡ false
handlers_none s p own fault = both_none (handlers_from 0 s.ops) (list_any is_bounded s.ops) (from 0 s.ops (λ k part at. let e : 0 + k ≡ k = omega arith in subst (λ i. p (one_action (part.name ++ codes "-h") (actions.Post (response_port i) part.expr)) ≡ false) (sym e) (own k part at)))
  where
    from : (n : ℕ) (ops : List OpPart) → ((k : ℕ) (part : OpPart) → slice_get ops k ≡ Some part → p (one_action (part.name ++ codes "-h") (actions.Post (response_port (n + k)) part.expr)) ≡ false) → list_any p (handlers_from n ops) ≡ false
    from n [] each = refl
    from n (op ∷ ops) each =
        let e : n + 0 ≡ n = omega arith in
        let here : p (one_action (op.name ++ codes "-h") (actions.Post (response_port n) op.expr)) ≡ false = subst (λ i. p (one_action (op.name ++ codes "-h") (actions.Post (response_port i) op.expr)) ≡ false) e (each 0 op refl) in
        let rest = from (n + 1) ops (λ k part at. let f : n + suc k ≡ (n + 1) + k = omega arith in subst (λ i. p (one_action (part.name ++ codes "-h") (actions.Post (response_port i) part.expr)) ≡ false) f (each (suc k) part at)) in
        rw (here, rest) refl

    both_none : (xs : List HandlerPart) (b : Bool) → list_any p xs ≡ false → list_any p (xs ++ (if b then fault_handler ∷ [] else [])) ≡ false
    both_none [] true none = rw fault refl
    both_none [] false none = refl
    both_none (x ∷ xs) b none = let parts = apart_or (p x) (list_any p xs) none in rw (parts.0, both_none xs b parts.1) refl
      where
        apart_or : (a c : Bool) → a || c ≡ false → (a ≡ false) × (c ≡ false)
        apart_or true c e = absurd (cc)
        apart_or false c e = (refl, e)

-- what is false of each request is false of all scripts
posts_none : (s : ServiceParts) → IsService s → (p : Sent → Bool) → ((client : ℕ) (ask : AskPart) → client < length s.clients → ask.op < length s.ops → p (request client ask) ≡ false) → list_any (λ (poster : PosterPart). list_any p poster.posts) (posters_from 0 s.clients) ≡ false
posts_none s is p each = from 0 s.clients is.asked (omega arith)
  where
    script : (client : ℕ) (asks : List AskPart) → client < length s.clients → are_asked (length s.ops) asks ≡ true → list_any p (map (request client) asks) ≡ false
    script client [] lt all = refl
    script client (a ∷ asks) lt all =
        let parts = both (nat_lt a.op (length s.ops)) (are_asked (length s.ops) asks) all in
        let first = parts.0 in
        let below : a.op < length s.ops = grind (arith, nat_tests, first) in
        rw (each client a lt below, script client asks lt parts.1) refl

    from : (n : ℕ) (cs : List ClientPart) → list_all (λ (c : ClientPart). are_asked (length s.ops) c.asks) cs ≡ true → n + length cs ≤ length s.clients → list_any (λ (poster : PosterPart). list_any p poster.posts) (posters_from n cs) ≡ false
    from n [] all fits = refl
    from n (c ∷ cs) all fits =
        let parts = both (are_asked (length s.ops) c.asks) (list_all (λ (x : ClientPart). are_asked (length s.ops) x.asks) cs) all in
        rw (script n c.asks (omega (arith, fits)) parts.0, from (n + 1) cs parts.1 (omega (arith, fits))) refl

-- ---- code by code

dangling : (s : ServiceParts) → IsService s → has_dangling (expansion s) ≡ false
dangling s is = rw (cause_there s (length s.ops + length s.ops) s.clients (omega arith), in_handlers, in_arbiter, in_posters) refl
  where
    in_handlers : has_dangling_handler (expansion s) ≡ false
    in_handlers = handlers_none s (handler_is_dangling (expansion s)) (λ k part at. none_or_false (no_port (expansion s) (response_port k)) (port_there s (response_port k) (let lt = some-below s.ops k part at in omega (arith, lt)))) refl

    in_arbiter : has_dangling_arbiter (expansion s) ≡ false
    in_arbiter = none_or_false (list_any (branch_is_dangling (expansion s)) (branches_from (length s.ops) 0 s.ops)) (none_any (branch_is_dangling (expansion s)) (branches_from (length s.ops) 0 s.ops) (branch_named_there s))

    in_posters : has_dangling_poster (expansion s) ≡ false
    in_posters = posts_none s is (post_is_dangling (expansion s)) each
      where
        each : (client : ℕ) (ask : AskPart) → client < length s.clients → ask.op < length s.ops → post_is_dangling (expansion s) (request client ask) ≡ false
        each client ask lt below =
            let port = port_there s (request_port ask.op) (omega (arith, below)) in
            let long = causes_length (length s.ops + length s.ops) s.clients in
            let fits : client < length (causes_from (length s.ops + length s.ops) s.clients) = omega (arith, lt, long) in
            let cause : is_beyond (length (causes_from (length s.ops + length s.ops) s.clients)) client ≡ false = grind (arith, nat_tests, fits) in
            rw (port, cause) refl

repeats : (s : ServiceParts) → IsService s → has_repeat (expansion s) ≡ false
repeats s is = rw (in_branches, in_posters) refl
  where
    in_branches : list_any branch_repeats (branches_from (length s.ops) 0 s.ops) ≡ false
    in_branches = none_any branch_repeats (branches_from (length s.ops) 0 s.ops) (λ b among. ap (λ (p : Pattern). not (names_ports_once p)) (branch_so s b among).serves.pattern)

    in_posters : list_any poster_repeats (posters_from 0 s.clients) ≡ false
    in_posters = posts_none s is post_repeats (λ client ask lt below. refl)

newer : (s : ServiceParts) → IsService s → has_newer (expansion s) ≡ false
newer s is = rw (in_handlers, in_posters) refl
  where
    in_handlers : list_any handler_is_newer (handlers s.ops) ≡ false
    in_handlers = handlers_none s handler_is_newer (λ k part at. none_or_false (expr_is_newer part.expr) (not_true (expr_is_newer part.expr) (both (not (expr_is_newer part.expr)) _ (op_so s is k part at).1).0)) refl

    in_posters : list_any poster_is_newer (posters_from 0 s.clients) ≡ false
    in_posters = posts_none s is (λ (post : Sent). is_long post.value) (λ client ask lt below. refl)

many : (s : ServiceParts) → IsService s → has_too_many (expansion s) ≡ false
many s is =
    let ops = is.few_ops in
    let clients = is.few_clients in
    let asks = is.few_asks in
    let p = ports_length s in
    let c = causes_length (length s.ops + length s.ops) s.clients in
    let h = all_handlers_length s.ops (list_any is_bounded s.ops) in
    let hb = few_more (list_any is_bounded s.ops) in
    let o = posters_length 0 s.clients in
    let b = (branches_many (length s.ops) 0 s.ops).1 in
    let a = posts_all 0 s.clients in
    let fp : length (ports s) ≤ 256 = omega (arith, p, ops, clients) in
    let fc : length (causes_from (length s.ops + length s.ops) s.clients) ≤ 32 = omega (arith, c, clients) in
    let fh : length (handlers s.ops) ≤ 256 = omega (arith, h, hb, ops) in
    let fo : length (posters_from 0 s.clients) ≤ 16 = omega (arith, o, clients) in
    let fb : length (branches_from (length s.ops) 0 s.ops) ≤ 256 = omega (arith, b, ops) in
    let fa : posts_in_all (posters_from 0 s.clients) ≤ 10000 = omega (arith, a, asks) in
    let tp = le-ltb 256 (length (ports s)) fp in
    let tc = le-ltb 32 (length (causes_from (length s.ops + length s.ops) s.clients)) fc in
    let th = le-ltb 256 (length (handlers s.ops)) fh in
    let to = le-ltb 16 (length (posters_from 0 s.clients)) fo in
    let tb : has_branches_above 256 (expansion s).arbiters ≡ false = grind (arith, nat_tests, fb) in
    let ta : has_posts_above 10000 (expansion s).posters ≡ false = le-ltb 10000 (posts_in_all (posters_from 0 s.clients)) fa in
    rw (tp, tc, th, to, tb, ta) refl

outside : (s : ServiceParts) → IsService s → has_outside (expansion s) ≡ false
outside s is = rw (many s is, is.policy, in_handlers, in_branches) refl
  where
    in_handlers : has_outside_handler (expansion s) ≡ false
    in_handlers = handlers_none s handler_is_outside (λ k part at. none_or_false (expr_is_outside part.expr) (not_true (expr_is_outside part.expr) (both (not (expr_is_newer part.expr)) (not (expr_is_outside part.expr)) (op_so s is k part at).1).1)) refl

    in_branches : list_any branch_is_outside (branches_from (length s.ops) 0 s.ops) ≡ false
    in_branches = none_any branch_is_outside (branches_from (length s.ops) 0 s.ops) (λ b among. ap pattern_is_outside (branch_so s b among).serves.pattern)

branchless : (s : ServiceParts) → IsService s → has_branchless (expansion s) ≡ false
branchless s is =
    let some = is.some_ops in
    let many_so = (branches_many (length s.ops) 0 s.ops).0 in
    let least : 0 < length (branches_from (length s.ops) 0 s.ops) = omega (arith, some, many_so) in
    let none : (length (branches_from (length s.ops) 0 s.ops) == 0) ≡ false = grind (arith, nat_tests, least) in
    rw none refl

-- ---- few branches name one port

-- the ports that a branch names
one_named : (s : ServiceParts) (k : ℕ) (part : OpPart) → slice_get s.ops k ≡ Some part → (b : BranchPart) → Among b (op_branches (length s.ops) k part part.below) → branch_named (expansion s) b ≡ request_port k ∷ []
one_named s k part at b among =
    let served = serves_by (length s.ops) k part part.below b refl among in
    let ports_so : pattern_ports b.pattern ≡ request_port k ∷ [] = ap pattern_ports served.1.pattern in
    rw (ports_so, by_role served.1.role) refl
  where
    by_role : {pred : Pred} → Role (length s.ops) k part b.handler pred → awaited (actions_of (expansion s) b.handler) ≡ []
    by_role (inl own) = ap (λ h. awaited (actions_of (expansion s) h)) own.0 ∙ ap awaited (op_actions s k part at)
    by_role (inr fault) = ap (λ h. awaited (actions_of (expansion s) h)) fault.0 ∙ ap awaited (fault_actions s k fault.1.0 part at fault.1.1)

-- how often an operation's branches name a port
record FewNamed (s : ServiceParts) (n port : ℕ) (bs : List BranchPart) : Type 0 where
  most : times port (branches_named (expansion s) bs) ≤ 2
  none : (port ≡ request_port n → ⊥) → times port (branches_named (expansion s) bs) ≡ 0

op_named : (s : ServiceParts) (k : ℕ) (part : OpPart) → slice_get s.ops k ≡ Some part → (port : ℕ) → FewNamed s k port (op_branches (length s.ops) k part part.below)
op_named s k part at port = by_below part.below (λ b among. one_named s k part at b among)
  where
    single : (b : BranchPart) → branch_named (expansion s) b ≡ request_port k ∷ [] → (times port (branch_named (expansion s) b) ≤ 1) × ((port ≡ request_port k → ⊥) → times port (branch_named (expansion s) b) ≡ 0)
    single b e = by_test (request_port k == port) refl
      where
        by_test : (x : Bool) → (request_port k == port) ≡ x → (times port (branch_named (expansion s) b) ≤ 1) × ((port ≡ request_port k → ⊥) → times port (branch_named (expansion s) b) ≡ 0)
        by_test true is = let one : times port (branch_named (expansion s) b) ≡ 1 = ap (times port) e ∙ rw is refl in (omega (arith, one), (λ other. absurd (other (sym (same_number (request_port k) port is)))))
        by_test false is = let none : times port (branch_named (expansion s) b) ≡ 0 = ap (times port) e ∙ rw is refl in (omega (arith, none), (λ other. none))

    by_below : (o : Option ℕ) → ((b : BranchPart) → Among b (op_branches (length s.ops) k part o) → branch_named (expansion s) b ≡ request_port k ∷ []) → FewNamed s k port (op_branches (length s.ops) k part o)
    by_below None each =
        let b = takes_one part.name part.group k (request_port k) Any in
        let one = single b (each b (inl refl)) in
        let all : times port (branches_named (expansion s) (op_branches (length s.ops) k part None)) ≡ times port (branch_named (expansion s) b) = ap (times port) (append-nil (branch_named (expansion s) b)) in
        let few = one.0 in
        record { most = omega (arith, all, few); none = λ other. all ∙ one.1 other }
    by_below (Some bound) each =
        let b = takes_one part.name part.group k (request_port k) (Lt bound) in
        let c = takes_one (part.name ++ codes "-x") part.group (length s.ops) (request_port k) (Ge bound) in
        let one = single b (each b (inl refl)) in
        let two = single c (each c (inr (inl refl))) in
        let all : times port (branches_named (expansion s) (op_branches (length s.ops) k part (Some bound))) ≡ times port (branch_named (expansion s) b) + times port (branch_named (expansion s) c) = ap (λ ps. times port (branch_named (expansion s) b ++ ps)) (append-nil (branch_named (expansion s) c)) ∙ times_append port (branch_named (expansion s) b) (branch_named (expansion s) c) in
        let few = one.0 in
        let fewer = two.0 in
        record { most = omega (arith, all, few, fewer); none = λ other. let x = one.1 other in let y = two.1 other in omega (arith, all, x, y) }

record FewFrom (s : ServiceParts) (n port : ℕ) (ops : List OpPart) : Type 0 where
  most : times port (branches_named (expansion s) (branches_from (length s.ops) n ops)) ≤ 2
  none : port < n + n → times port (branches_named (expansion s) (branches_from (length s.ops) n ops)) ≡ 0

few_from : (s : ServiceParts) (n port : ℕ) (ops : List OpPart) → ((k : ℕ) (part : OpPart) → slice_get ops k ≡ Some part → slice_get s.ops (n + k) ≡ Some part) → FewFrom s n port ops
few_from s n port [] within = record { most = omega arith; none = λ lt. refl }
few_from s n port (op ∷ ops) within =
    let e : n + 0 ≡ n = omega arith in
    let here = op_named s n op (subst (λ i. slice_get s.ops i ≡ Some op) e (within 0 op refl)) port in
    let rest = few_from s (n + 1) port ops (λ k part at. let f : n + suc k ≡ (n + 1) + k = omega arith in subst (λ i. slice_get s.ops i ≡ Some part) f (within (suc k) part at)) in
    let all : times port (branches_named (expansion s) (branches_from (length s.ops) n (op ∷ ops))) ≡ times port (branches_named (expansion s) (op_branches (length s.ops) n op op.below)) + times port (branches_named (expansion s) (branches_from (length s.ops) (n + 1) ops)) = ap (times port) (flat_map-append (branch_named (expansion s)) (op_branches (length s.ops) n op op.below) (branches_from (length s.ops) (n + 1) ops)) ∙ times_append port (branches_named (expansion s) (op_branches (length s.ops) n op op.below)) (branches_named (expansion s) (branches_from (length s.ops) (n + 1) ops)) in
    let high = here.most in
    let more = rest.most in
    record {
      most = by_test (port == request_port n) refl all high more here.none rest.none;
      none = λ lt. let one = here.none (λ same. omega (arith, lt, same)) in let others = rest.none (omega (arith, lt)) in omega (arith, all, one, others);
    }
  where
    by_test : (x : Bool) → (port == request_port n) ≡ x → {a b c : ℕ} → a ≡ b + c → b ≤ 2 → c ≤ 2 → ((port ≡ request_port n → ⊥) → b ≡ 0) → (port < (n + 1) + (n + 1) → c ≡ 0) → a ≤ 2
    by_test true is all high more none later = let same = same_number port (request_port n) is in let gone = later (omega (arith, same)) in omega (arith, all, high, gone)
    by_test false is all high more none later = let gone = none (λ same. differ same) in omega (arith, all, more, gone)
      where
        differ : port ≡ request_port n → ⊥
        differ same = no_both (ap (λ i. port == i) (sym same) ∙ eq-self port) is

uncrowded : (s : ServiceParts) → IsService s → has_crowded_port (expansion s) ≡ false
uncrowded s is = none_any (λ port. nat_lt 16 (times port (named_ports (expansion s)))) (named_ports (expansion s)) (λ port among. let few = most port in grind (arith, nat_tests, few))
  where
    most : (port : ℕ) → times port (named_ports (expansion s)) ≤ 2
    most port =
        let few = (few_from s 0 port s.ops (λ k part at. let e : k ≡ 0 + k = omega arith in subst (λ i. slice_get s.ops i ≡ Some part) e at)).most in
        let all : times port (named_ports (expansion s)) ≡ times port (branches_named (expansion s) (branches_from (length s.ops) 0 s.ops)) = ap (times port) (append-nil (branches_named (expansion s) (branches_from (length s.ops) 0 s.ops))) in
        omega (arith, few, all)

pub valid : (s : ServiceParts) → IsService s → IsValid (expansion s)
unfolding code_of
valid s is = no_code (has_strange_version (expansion s)) (has_misgrouped (expansion s)) (has_newer (expansion s)) (has_repeated_name (expansion s)) (has_dangling (expansion s)) (has_repeat (expansion s)) (has_outside (expansion s)) (has_branchless (expansion s)) (has_crowded_port (expansion s)) (has_malformed_name (expansion s))
    refl (grouped s is) (newer s is) (names_apart s is) (dangling s is) (repeats s is) (outside s is) (branchless s is) (uncrowded s is) (names_formed s is)
