-- The names of an expansion: of the form of names, and none twice.
use Rattle.std.proofs.Common.{◌≡◌, ◌⊎◌, inl, inr, ℕ, ◌+◌, ◌<◌, ◌≤◌, Bool, true, false, not, ◌&&◌, List, [], ◌∷◌, ◌++◌, length, map, flat_map, Option, Some, None, refl, sym, ap, ◌∙◌, arith, subst, append-nil, append_assoc}
use Rattle.std.specs.Prelude.{◌==◌, codes, if◌then◌else◌, nat_lt}
use Rattle.std.specs.List.{list_any, list_all}
use Rattle.std.specs.Str.{bytes_eq}
use Rattle.std.specs.Char.{is_ascii_alphabetic, is_ascii_alphanumeric}
use Rattle.std.specs.Cmp.Lexicographic.{bytes_decides}
use Rattle.std.proofs.lemmas.List.{length-append}
use Rattle.std.proofs.lemmas.Bool.Decides.{nat_tests}
use Rattle.ccr_base.specs.Values.{first_number}
use Rattle.ccr_text.specs.Words.{is_name_of, may_be_in_name}
use Rattle.ccr_wiring.specs.declared.parts.BranchPart.{BranchPart}
use Rattle.ccr_wiring.specs.declared.parts.HandlerPart.{HandlerPart}
use Rattle.ccr_wiring.specs.Names.{branch_names, cause_names, handler_names, poster_names, declared_names, has_name, has_repeated, has_malformed, has_repeated_name, has_malformed_name}
use Rattle.ccr_base.proofs.Booleans.{both, neither, no_both, refuted, same_number, not_true}
use Rattle.ccr_model.proofs.Members.{Among, Among-left, Among-right, Among-either, Among-map, all_pass, some_among, any_among, spread_some, both_among}
use Rattle.ccr_model.proofs.Pigeons.{Apart}
use Rattle.ccr_service.specs.declared.parts.ClientPart.{ClientPart}
use Rattle.ccr_service.specs.declared.parts.OpPart.{OpPart}
use Rattle.ccr_service.specs.declared.parts.ServiceParts.{ServiceParts}
use Rattle.ccr_service.specs.Expansion.{op_ports, ports, causes_from, handlers_from, handlers, fault_handler, is_bounded, op_branches, branches_from, posters_from, expansion}
use Rattle.ccr_service.specs.Services.{is_service_name, op_names, client_names, service_names, IsService}

-- ---- names in two parts

-- what stands before the first -, and what behind it
abbrev base : List ℕ → List ℕ
base [] = []
base (c ∷ cs) = if c == 45 then [] else c ∷ base cs

abbrev rest : List ℕ → List ℕ
rest [] = []
rest (c ∷ cs) = if c == 45 then cs else rest cs

abbrev IsPlain : List ℕ → Type 0
IsPlain cs = list_all (λ c. not (c == 45)) cs ≡ true

no_dash : (c : ℕ) → is_ascii_alphanumeric c ≡ true → (c == 45) ≡ false
no_dash c is = refuted (c == 45) (λ e. let same = same_number c 45 e in let gone : is_ascii_alphanumeric 45 ≡ true = subst (λ x. is_ascii_alphanumeric x ≡ true) same is in absurd (cc))

alphabetic_too : (c : ℕ) → is_ascii_alphabetic c ≡ true → is_ascii_alphanumeric c ≡ true
alphabetic_too c is = grind (arith, nat_tests, is)

plain_others : (cs : List ℕ) → list_all is_ascii_alphanumeric cs ≡ true → IsPlain cs
plain_others [] is = refl
plain_others (c ∷ cs) is = let parts = both (is_ascii_alphanumeric c) (list_all is_ascii_alphanumeric cs) is in rw (no_dash c parts.0, plain_others cs parts.1) refl

pub plain_name : (name : List ℕ) → is_service_name name ≡ true → IsPlain name
plain_name [] is = absurd (cc)
plain_name (c ∷ cs) is =
    let parts = both (is_ascii_alphabetic c && nat_lt (length cs) 12) (list_all is_ascii_alphanumeric cs) is in
    let first = (both (is_ascii_alphabetic c) (nat_lt (length cs) 12) parts.0).0 in
    rw (no_dash c (alphabetic_too c first), plain_others cs parts.1) refl

dash_off : (c : ℕ) (cs : List ℕ) → IsPlain (c ∷ cs) → ((c == 45) ≡ false) × IsPlain cs
dash_off c cs is = let parts = both (not (c == 45)) (list_all (λ d. not (d == 45)) cs) is in (not_true (c == 45) parts.0, parts.1)

base_plain : (cs : List ℕ) → IsPlain cs → base cs ≡ cs
base_plain [] is = refl
base_plain (c ∷ cs) is = let parts = dash_off c cs is in rw (parts.0, base_plain cs parts.1) refl

rest_plain : (cs : List ℕ) → IsPlain cs → rest cs ≡ []
rest_plain [] is = refl
rest_plain (c ∷ cs) is = let parts = dash_off c cs is in rw (parts.0, rest_plain cs parts.1) refl

base_dash : (cs ds : List ℕ) → IsPlain cs → base (cs ++ 45 ∷ ds) ≡ cs
base_dash [] ds is = refl
base_dash (c ∷ cs) ds is = let parts = dash_off c cs is in rw (parts.0, base_dash cs ds parts.1) refl

rest_dash : (cs ds : List ℕ) → IsPlain cs → rest (cs ++ 45 ∷ ds) ≡ ds
rest_dash [] ds is = refl
rest_dash (c ∷ cs) ds is = let parts = dash_off c cs is in rw (parts.0, rest_dash cs ds parts.1) refl

-- the order in which the names come, by the letter behind the first -
abbrev rank_of : ℕ → ℕ
rank_of d = if d == 113 then 1 else if d == 114 then 2 else if d == 102 then 3 else if d == 99 then 4 else if d == 104 then 5 else if d == 101 then 6 else if d == 105 then 7 else 8

abbrev rank : List ℕ → ℕ
rank name = rank_of (first_number (rest name))

-- ---- lists of names

pub apart_append : {X : Type 0} (xs ys : List X) → Apart xs → Apart ys → ((x : X) → Among x xs → Among x ys → ⊥) → Apart (xs ++ ys)
apart_append [] ys a b none = b
apart_append (x ∷ xs) ys a b none = (fresh, apart_append xs ys a.1 b (λ y is there. none y (inr is) there))
  where
    fresh : Among x (xs ++ ys) → ⊥
    fresh is = of_side (Among-either x xs ys is)
      where
        of_side : Among x xs ⊎ Among x ys → ⊥
        of_side (inl here) = a.0 here
        of_side (inr there) = none x (inl refl) there

pub name_among : (names : List (List ℕ)) (name : List ℕ) → has_name names name ≡ true → Among name names
name_among names name is = let found = some_among (λ other. bytes_eq other name) names is in subst (λ x. Among x names) ((bytes_decides found.0 name).0 found.2) found.1

among_name : (names : List (List ℕ)) (name : List ℕ) → Among name names → has_name names name ≡ true
among_name names name is = any_among (λ other. bytes_eq other name) names name is ((bytes_decides name name).1 refl)

pub not_repeated : (names : List (List ℕ)) → Apart names → has_repeated names ≡ false
not_repeated [] apart = refl
not_repeated (x ∷ names) apart = rw (refuted (has_name names x) (λ is. apart.0 (name_among names x is)), not_repeated names apart.1) refl

apart_names : (names : List (List ℕ)) → has_repeated names ≡ false → Apart names
apart_names [] none = tt
apart_names (x ∷ names) none = let parts = neither (has_name names x) (has_repeated names) none in ((λ is. no_both (among_name names x is) parts.0), apart_names names parts.1)

front_apart : {X : Type 0} (xs ys : List X) → Apart (xs ++ ys) → Apart xs
front_apart [] ys apart = tt
front_apart (x ∷ xs) ys apart = ((λ is. apart.0 (Among-left x xs ys is)), front_apart xs ys apart.1)

back_apart : {X : Type 0} (xs ys : List X) → Apart (xs ++ ys) → Apart ys
back_apart [] ys apart = apart
back_apart (x ∷ xs) ys apart = back_apart xs ys apart.1

parts_apart : {X : Type 0} (xs ys : List X) → Apart (xs ++ ys) → (x : X) → Among x xs → Among x ys → ⊥
parts_apart [] ys apart x here there = absurd here
parts_apart (y ∷ xs) ys apart x (inl e) there = apart.0 (Among-right y xs ys (subst (λ z. Among z ys) e there))
parts_apart (y ∷ xs) ys apart x (inr here) there = parts_apart xs ys apart.1 x here there

-- ---- names made from bases

-- what each makes has its base
abbrev KeepsBase : {X : Type 0} → (X → List ℕ) → (X → List (List ℕ)) → List X → Type 0
KeepsBase {X} name make xs = (x : X) → Among x xs → (n : List ℕ) → Among n (make x) → base n ≡ name x

spread_apart : {X : Type 0} (name : X → List ℕ) (make : X → List (List ℕ)) (xs : List X) → KeepsBase name make xs → ((x : X) → Among x xs → Apart (make x)) → Apart (map name xs) → Apart (flat_map make xs)
spread_apart name make [] keeps each apart = tt
spread_apart name make (x ∷ xs) keeps each apart = apart_append (make x) (flat_map make xs) (each x (inl refl)) (spread_apart name make xs (λ y is. keeps y (inr is)) (λ y is. each y (inr is)) apart.1) crossed
  where
    crossed : (n : List ℕ) → Among n (make x) → Among n (flat_map make xs) → ⊥
    crossed n here there =
        let it = spread_some make xs n there in
        let same : name x ≡ name it.0 = sym (keeps x (inl refl) n here) ∙ keeps it.0 (inr it.1) n it.2 in
        apart.0 (subst (λ m. Among m (map name xs)) (sym same) (Among-map name xs it.0 it.1))

-- all names have this rank; or at least this rank
abbrev HasRank : ℕ → List (List ℕ) → Type 0
HasRank r names = (n : List ℕ) → Among n names → rank n ≡ r

abbrev IsAbove : ℕ → List (List ℕ) → Type 0
IsAbove r names = (n : List ℕ) → Among n names → r < rank n

by_rank : (r : ℕ) (xs ys : List (List ℕ)) → HasRank r xs → IsAbove r ys → (n : List ℕ) → Among n xs → Among n ys → ⊥
by_rank r xs ys here above n is there = let a = here n is in let b = above n there in omega (arith, a, b)

above_both : (r q : ℕ) (xs ys : List (List ℕ)) → r < q → HasRank q xs → IsAbove q ys → IsAbove r (xs ++ ys)
above_both r q xs ys less here above n is = of_side (Among-either n xs ys is)
  where
    of_side : Among n xs ⊎ Among n ys → r < rank n
    of_side (inl one) = let e = here n one in omega (arith, less, e)
    of_side (inr other) = let e = above n other in omega (arith, less, e)

-- names that are made by a suffix
abbrev with_dash : {X : Type 0} → (X → List ℕ) → List ℕ → List X → List (List ℕ)
with_dash name ds xs = flat_map (λ x. (name x ++ 45 ∷ ds) ∷ []) xs

abbrev ArePlain : {X : Type 0} → (X → List ℕ) → List X → Type 0
ArePlain {X} name xs = (x : X) → Among x xs → IsPlain (name x)

dash_apart : {X : Type 0} (name : X → List ℕ) (ds : List ℕ) (xs : List X) → ArePlain name xs → Apart (map name xs) → Apart (with_dash name ds xs)
dash_apart name ds xs plain apart = spread_apart name (λ x. (name x ++ 45 ∷ ds) ∷ []) xs keeps (λ x is. ((λ gone. absurd gone), tt)) apart
  where
    keeps : KeepsBase name (λ x. (name x ++ 45 ∷ ds) ∷ []) xs
    keeps x is n (inl e) = ap base e ∙ base_dash (name x) ds (plain x is)
    keeps x is n (inr none) = absurd none

dash_rank : {X : Type 0} (name : X → List ℕ) (ds : List ℕ) (xs : List X) → ArePlain name xs → HasRank (rank_of (first_number ds)) (with_dash name ds xs)
dash_rank name ds xs plain n is =
    let it = spread_some (λ x. (name x ++ 45 ∷ ds) ∷ []) xs n is in
    let one : n ≡ name it.0 ++ 45 ∷ ds = only it.2 in
    ap rank one ∙ ap (λ r. rank_of (first_number r)) (rest_dash (name it.0) ds (plain it.0 it.1))
  where
    only : {m k : List ℕ} → Among m (k ∷ []) → m ≡ k
    only (inl e) = e
    only (inr none) = absurd none

-- ---- the names of an expansion

abbrev op_name : OpPart → List ℕ
op_name op = op.name

abbrev client_name : ClientPart → List ℕ
client_name client = client.name

-- the two ports of an operation
abbrev two_ports : OpPart → List (List ℕ)
two_ports op = (op.name ++ codes "-rq") ∷ (op.name ++ codes "-rs") ∷ []

op_ports_are : (ops : List OpPart) → op_ports ops ≡ flat_map two_ports ops
op_ports_are [] = refl
op_ports_are (op ∷ ops) = ap (λ ns. (op.name ++ codes "-rq") ∷ (op.name ++ codes "-rs") ∷ ns) (op_ports_are ops)

client_ports_are : (cs : List ClientPart) → map (λ (c : ClientPart). c.name ++ codes "-f") cs ≡ with_dash client_name (102 ∷ []) cs
client_ports_are [] = refl
client_ports_are (c ∷ cs) = ap (λ ns. (c.name ++ codes "-f") ∷ ns) (client_ports_are cs)

causes_are : (n : ℕ) (cs : List ClientPart) → cause_names (causes_from n cs) ≡ with_dash client_name (99 ∷ []) cs
causes_are n [] = refl
causes_are n (c ∷ cs) = ap (λ ns. (c.name ++ codes "-c") ∷ ns) (causes_are (n + 1) cs)

handlers_are : (n : ℕ) (ops : List OpPart) → handler_names (handlers_from n ops) ≡ with_dash op_name (104 ∷ []) ops
handlers_are n [] = refl
handlers_are n (op ∷ ops) = ap (λ ns. (op.name ++ codes "-h") ∷ ns) (handlers_are (n + 1) ops)

posters_are : (n : ℕ) (cs : List ClientPart) → poster_names (posters_from n cs) ≡ client_names cs
posters_are n [] = refl
posters_are n (c ∷ cs) = ap (λ ns. c.name ∷ ns) (posters_are (n + 1) cs)

abbrev fault_names : Bool → List (List ℕ)
fault_names b = if b then codes "svc-e" ∷ [] else []

-- the names of an operation's branches
abbrev its_branches : Option ℕ → List ℕ → List (List ℕ)
its_branches None name = name ∷ []
its_branches (Some bound) name = name ∷ (name ++ codes "-x") ∷ []

abbrev op_branch_names : OpPart → List (List ℕ)
op_branch_names op = its_branches op.below op.name

branches_are : (faults n : ℕ) (ops : List OpPart) → branch_names (branches_from faults n ops) ≡ flat_map op_branch_names ops
branches_are faults n [] = refl
branches_are faults n (op ∷ ops) = of_map (op_branches faults n op op.below) (branches_from faults (n + 1) ops) ∙ ap (λ ns. branch_names (op_branches faults n op op.below) ++ ns) (branches_are faults (n + 1) ops) ∙ ap (λ ns. ns ++ flat_map op_branch_names ops) (by_below op.below)
  where
    of_map : (xs ys : List BranchPart) → branch_names (xs ++ ys) ≡ branch_names xs ++ branch_names ys
    of_map [] ys = refl
    of_map (x ∷ xs) ys = ap (λ ns. x.name ∷ ns) (of_map xs ys)

    by_below : (o : Option ℕ) → branch_names (op_branches faults n op o) ≡ its_branches o op.name
    by_below None = refl
    by_below (Some bound) = refl

nested : {X : Type 0} (a b c d e f g : List X) → (((((a ++ b) ++ c) ++ d) ++ e) ++ f) ++ g ≡ a ++ (b ++ (c ++ (d ++ (e ++ (f ++ g)))))
nested a b c d e f g = append_assoc ((((a ++ b) ++ c) ++ d) ++ e) f g ∙ append_assoc (((a ++ b) ++ c) ++ d) e (f ++ g) ∙ append_assoc ((a ++ b) ++ c) d (e ++ (f ++ g)) ∙ append_assoc (a ++ b) c (d ++ (e ++ (f ++ g))) ∙ append_assoc a b (c ++ (d ++ (e ++ (f ++ g))))

-- behind the name of the queue
abbrev from_posters : ServiceParts → List (List ℕ)
from_posters s = flat_map op_branch_names s.ops ++ client_names s.clients

abbrev from_keep : ServiceParts → List (List ℕ)
from_keep s = codes "svc-i" ∷ from_posters s

abbrev from_fault : ServiceParts → List (List ℕ)
from_fault s = fault_names (list_any is_bounded s.ops) ++ from_keep s

abbrev from_handlers : ServiceParts → List (List ℕ)
from_handlers s = with_dash op_name (104 ∷ []) s.ops ++ from_fault s

abbrev from_causes : ServiceParts → List (List ℕ)
from_causes s = with_dash client_name (99 ∷ []) s.clients ++ from_handlers s

abbrev from_client_ports : ServiceParts → List (List ℕ)
from_client_ports s = with_dash client_name (102 ∷ []) s.clients ++ from_causes s

abbrev from_ports : ServiceParts → List (List ℕ)
from_ports s = flat_map two_ports s.ops ++ from_client_ports s

declared_are : (s : ServiceParts) → declared_names (expansion s) ≡ codes "svc-q" ∷ from_ports s
declared_are s =
    let hs : handler_names (handlers s.ops) ≡ with_dash op_name (104 ∷ []) s.ops ++ fault_names (list_any is_bounded s.ops) = of_map (handlers_from 0 s.ops) (list_any is_bounded s.ops) ∙ ap (λ ns. ns ++ fault_names (list_any is_bounded s.ops)) (handlers_are 0 s.ops) in
    let ps : ports s ≡ flat_map two_ports s.ops ++ with_dash client_name (102 ∷ []) s.clients = ap (λ ns. ns ++ map (λ (c : ClientPart). c.name ++ codes "-f") s.clients) (op_ports_are s.ops) ∙ ap (λ ns. flat_map two_ports s.ops ++ ns) (client_ports_are s.clients) in
    let bs : (codes "svc-i" ∷ branch_names (branches_from (length s.ops) 0 s.ops)) ++ [] ≡ codes "svc-i" ∷ flat_map op_branch_names s.ops = ap (λ ns. codes "svc-i" ∷ ns) (append-nil (branch_names (branches_from (length s.ops) 0 s.ops)) ∙ branches_are (length s.ops) 0 s.ops) in
    let cs = causes_are (length s.ops + length s.ops) s.clients in
    let is = posters_are 0 s.clients in
    nested (codes "svc-q" ∷ []) (ports s) [] (cause_names (causes_from (length s.ops + length s.ops) s.clients)) (handler_names (handlers s.ops)) ((codes "svc-i" ∷ branch_names (branches_from (length s.ops) 0 s.ops)) ++ []) (poster_names (posters_from 0 s.clients))
    ∙ ap (λ ns. codes "svc-q" ∷ ns) (
    ap (λ ns. ns ++ (cause_names (causes_from (length s.ops + length s.ops) s.clients) ++ (handler_names (handlers s.ops) ++ (((codes "svc-i" ∷ branch_names (branches_from (length s.ops) 0 s.ops)) ++ []) ++ poster_names (posters_from 0 s.clients))))) ps
    ∙ append_assoc (flat_map two_ports s.ops) (with_dash client_name (102 ∷ []) s.clients) _
    ∙ ap (λ ns. flat_map two_ports s.ops ++ (with_dash client_name (102 ∷ []) s.clients ++ ns)) (
    ap (λ ns. ns ++ (handler_names (handlers s.ops) ++ (((codes "svc-i" ∷ branch_names (branches_from (length s.ops) 0 s.ops)) ++ []) ++ poster_names (posters_from 0 s.clients)))) cs
    ∙ ap (λ ns. with_dash client_name (99 ∷ []) s.clients ++ ns) (
    ap (λ ns. ns ++ (((codes "svc-i" ∷ branch_names (branches_from (length s.ops) 0 s.ops)) ++ []) ++ poster_names (posters_from 0 s.clients))) hs
    ∙ append_assoc (with_dash op_name (104 ∷ []) s.ops) (fault_names (list_any is_bounded s.ops)) _
    ∙ ap (λ ns. with_dash op_name (104 ∷ []) s.ops ++ (fault_names (list_any is_bounded s.ops) ++ ns)) (ap (λ ns. ns ++ poster_names (posters_from 0 s.clients)) bs ∙ ap (λ ns. codes "svc-i" ∷ (flat_map op_branch_names s.ops ++ ns)) is))))
  where
    of_map : (xs : List HandlerPart) (b : Bool) → handler_names (xs ++ (if b then fault_handler ∷ [] else [])) ≡ handler_names xs ++ fault_names b
    of_map [] true = refl
    of_map [] false = refl
    of_map (x ∷ xs) b = ap (λ ns. x.name ∷ ns) (of_map xs b)

-- ---- none twice

plain_ops : (s : ServiceParts) → IsService s → ArePlain op_name s.ops
plain_ops s is op among = plain_name op.name (all_pass is_service_name (service_names s) op.name is.formed (Among-left op.name (op_names s.ops) (client_names s.clients) (Among-map op_name s.ops op among)))

plain_clients : (s : ServiceParts) → IsService s → ArePlain client_name s.clients
plain_clients s is c among = plain_name c.name (all_pass is_service_name (service_names s) c.name is.formed (Among-right c.name (op_names s.ops) (client_names s.clients) (Among-map client_name s.clients c among)))

abbrev second : List ℕ → ℕ
second [] = 0
second (c ∷ cs) = first_number cs

-- the two ports
two_apart : (s : ServiceParts) → IsService s → Apart (op_names s.ops) → Apart (flat_map two_ports s.ops)
two_apart s is apart = spread_apart op_name two_ports s.ops keeps each apart
  where
    keeps : KeepsBase op_name two_ports s.ops
    keeps op among n (inl e) = ap base e ∙ base_dash op.name _ (plain_ops s is op among)
    keeps op among n (inr (inl e)) = ap base e ∙ base_dash op.name _ (plain_ops s is op among)
    keeps op among n (inr (inr none)) = absurd none

    each : (op : OpPart) → Among op s.ops → Apart (two_ports op)
    each op among = (twice, ((λ gone. absurd gone), tt))
      where
        differ : op.name ++ codes "-rq" ≡ op.name ++ codes "-rs" → ⊥
        differ e = let plain = plain_ops s is op among in let same : codes "rq" ≡ codes "rs" = sym (rest_dash op.name (codes "rq") plain) ∙ ap rest e ∙ rest_dash op.name (codes "rs") plain in let e : 113 ≡ 115 = ap second same in omega (arith, e)

        twice : Among (op.name ++ codes "-rq") ((op.name ++ codes "-rs") ∷ []) → ⊥
        twice (inl e) = differ e
        twice (inr none) = absurd none

two_rank : (s : ServiceParts) → IsService s → HasRank 2 (flat_map two_ports s.ops)
two_rank s is n among = by_port (spread_some two_ports s.ops n among)
  where
    by_port : (op : OpPart) × Among op s.ops × Among n (two_ports op) → rank n ≡ 2
    by_port (op, at, inl e) = ap rank e ∙ ap (λ r. rank_of (first_number r)) (rest_dash op.name (codes "rq") (plain_ops s is op at))
    by_port (op, at, inr (inl e)) = ap rank e ∙ ap (λ r. rank_of (first_number r)) (rest_dash op.name (codes "rs") (plain_ops s is op at))
    by_port (op, at, inr (inr none)) = absurd none

-- what an operation's branches are named
branch_name : (name n : List ℕ) (o : Option ℕ) → Among n (its_branches o name) → (n ≡ name) ⊎ (n ≡ name ++ codes "-x")
branch_name name n None (inl e) = inl e
branch_name name n None (inr none) = absurd none
branch_name name n (Some bound) (inl e) = inl e
branch_name name n (Some bound) (inr (inl e)) = inr e
branch_name name n (Some bound) (inr (inr none)) = absurd none

branch_base : (name n : List ℕ) → IsPlain name → (n ≡ name) ⊎ (n ≡ name ++ codes "-x") → base n ≡ name
branch_base name n plain (inl e) = ap base e ∙ base_plain name plain
branch_base name n plain (inr e) = ap base e ∙ base_dash name _ plain

branch_rank : (name n : List ℕ) → IsPlain name → (n ≡ name) ⊎ (n ≡ name ++ codes "-x") → rank n ≡ 8
branch_rank name n plain (inl e) = ap rank e ∙ ap (λ r. rank_of (first_number r)) (rest_plain name plain)
branch_rank name n plain (inr e) = ap rank e ∙ ap (λ r. rank_of (first_number r)) (rest_dash name (codes "x") plain)

its_apart : (name : List ℕ) (o : Option ℕ) → IsPlain name → Apart (its_branches o name)
its_apart name None plain = ((λ gone. absurd gone), tt)
its_apart name (Some bound) plain = (twice, ((λ gone. absurd gone), tt))
  where
    differ : name ≡ name ++ codes "-x" → ⊥
    differ e = let same : [] ≡ codes "x" = sym (rest_plain name plain) ∙ ap rest e ∙ rest_dash name (codes "x") plain in absurd (cc)

    twice : Among name ((name ++ codes "-x") ∷ []) → ⊥
    twice (inl e) = differ e
    twice (inr none) = absurd none

last_apart : (s : ServiceParts) → IsService s → Apart (from_posters s)
last_apart s is = apart_append (flat_map op_branch_names s.ops) (client_names s.clients) (spread_apart op_name op_branch_names s.ops keeps (λ op among. its_apart op.name op.below (plain_ops s is op among)) (front_apart (op_names s.ops) (client_names s.clients) names)) (back_apart (op_names s.ops) (client_names s.clients) names) crossed
  where
    names : Apart (service_names s)
    names = apart_names (service_names s) is.apart

    keeps : KeepsBase op_name op_branch_names s.ops
    keeps op among n here = branch_base op.name n (plain_ops s is op among) (branch_name op.name n op.below here)

    crossed : (n : List ℕ) → Among n (flat_map op_branch_names s.ops) → Among n (client_names s.clients) → ⊥
    crossed n here there =
        let it = spread_some op_branch_names s.ops n here in
        let op = it.0 in
        let plain_n : IsPlain n = plain_name n (all_pass is_service_name (service_names s) n is.formed (Among-right n (op_names s.ops) (client_names s.clients) there)) in
        let same : op.name ≡ n = sym (keeps op it.1 n it.2) ∙ base_plain n plain_n in
        parts_apart (op_names s.ops) (client_names s.clients) names n (subst (λ m. Among m (op_names s.ops)) same (Among-map op_name s.ops op it.1)) there

last_above : (s : ServiceParts) → IsService s → IsAbove 7 (from_posters s)
last_above s is n among = of_side (Among-either n (flat_map op_branch_names s.ops) (client_names s.clients) among)
  where
    of_side : Among n (flat_map op_branch_names s.ops) ⊎ Among n (client_names s.clients) → 7 < rank n
    of_side (inl here) =
        let it = spread_some op_branch_names s.ops n here in
        let e = branch_rank it.0.name n (plain_ops s is it.0 it.1) (branch_name it.0.name n it.0.below it.2) in
        omega (arith, e)
    of_side (inr there) =
        let plain_n : IsPlain n = plain_name n (all_pass is_service_name (service_names s) n is.formed (Among-right n (op_names s.ops) (client_names s.clients) there)) in
        let e : rank n ≡ 8 = ap (λ r. rank_of (first_number r)) (rest_plain n plain_n) in
        omega (arith, e)

one_rank : (name : List ℕ) (r : ℕ) → rank name ≡ r → HasRank r (name ∷ [])
one_rank name r e n (inl same) = ap rank same ∙ e
one_rank name r e n (inr none) = absurd none

one_apart : (name : List ℕ) → Apart (name ∷ [])
one_apart name = ((λ gone. absurd gone), tt)

fault_rank : (b : Bool) → HasRank 6 (fault_names b)
fault_rank true = one_rank (codes "svc-e") 6 refl
fault_rank false = λ n gone. absurd gone

fault_apart : (b : Bool) → Apart (fault_names b)
fault_apart true = one_apart (codes "svc-e")
fault_apart false = tt

-- one list before the others
before_all : (r : ℕ) (xs ys : List (List ℕ)) → HasRank r xs → Apart xs → IsAbove r ys → Apart ys → Apart (xs ++ ys)
before_all r xs ys here a above b = apart_append xs ys a b (by_rank r xs ys here above)

pub names_apart : (s : ServiceParts) → IsService s → has_repeated_name (expansion s) ≡ false
names_apart s is = ap has_repeated (declared_are s) ∙ not_repeated (codes "svc-q" ∷ from_ports s) all
  where
    names : Apart (service_names s)
    names = apart_names (service_names s) is.apart

    ops : Apart (op_names s.ops)
    ops = front_apart (op_names s.ops) (client_names s.clients) names

    clients : Apart (client_names s.clients)
    clients = back_apart (op_names s.ops) (client_names s.clients) names

    po : ArePlain op_name s.ops
    po = plain_ops s is

    pc : ArePlain client_name s.clients
    pc = plain_clients s is

    keep_above : IsAbove 6 (from_keep s)
    keep_above = above_both 6 7 (codes "svc-i" ∷ []) (from_posters s) (omega arith) (one_rank (codes "svc-i") 7 refl) (last_above s is)

    keep_apart : Apart (from_keep s)
    keep_apart = before_all 7 (codes "svc-i" ∷ []) (from_posters s) (one_rank (codes "svc-i") 7 refl) (one_apart (codes "svc-i")) (last_above s is) (last_apart s is)

    fault_above : IsAbove 5 (from_fault s)
    fault_above = above_both 5 6 (fault_names (list_any is_bounded s.ops)) (from_keep s) (omega arith) (fault_rank (list_any is_bounded s.ops)) keep_above

    fault_all : Apart (from_fault s)
    fault_all = before_all 6 (fault_names (list_any is_bounded s.ops)) (from_keep s) (fault_rank (list_any is_bounded s.ops)) (fault_apart (list_any is_bounded s.ops)) keep_above keep_apart

    handlers_above : IsAbove 4 (from_handlers s)
    handlers_above = above_both 4 5 (with_dash op_name (104 ∷ []) s.ops) (from_fault s) (omega arith) (dash_rank op_name (104 ∷ []) s.ops po) fault_above

    handlers_all : Apart (from_handlers s)
    handlers_all = before_all 5 (with_dash op_name (104 ∷ []) s.ops) (from_fault s) (dash_rank op_name (104 ∷ []) s.ops po) (dash_apart op_name (104 ∷ []) s.ops po ops) fault_above fault_all

    causes_above : IsAbove 3 (from_causes s)
    causes_above = above_both 3 4 (with_dash client_name (99 ∷ []) s.clients) (from_handlers s) (omega arith) (dash_rank client_name (99 ∷ []) s.clients pc) handlers_above

    causes_all : Apart (from_causes s)
    causes_all = before_all 4 (with_dash client_name (99 ∷ []) s.clients) (from_handlers s) (dash_rank client_name (99 ∷ []) s.clients pc) (dash_apart client_name (99 ∷ []) s.clients pc clients) handlers_above handlers_all

    client_above : IsAbove 2 (from_client_ports s)
    client_above = above_both 2 3 (with_dash client_name (102 ∷ []) s.clients) (from_causes s) (omega arith) (dash_rank client_name (102 ∷ []) s.clients pc) causes_above

    client_all : Apart (from_client_ports s)
    client_all = before_all 3 (with_dash client_name (102 ∷ []) s.clients) (from_causes s) (dash_rank client_name (102 ∷ []) s.clients pc) (dash_apart client_name (102 ∷ []) s.clients pc clients) causes_above causes_all

    ports_above : IsAbove 1 (from_ports s)
    ports_above = above_both 1 2 (flat_map two_ports s.ops) (from_client_ports s) (omega arith) (two_rank s is) client_above

    ports_all : Apart (from_ports s)
    ports_all = before_all 2 (flat_map two_ports s.ops) (from_client_ports s) (two_rank s is) (two_apart s is ops) client_above client_all

    all : Apart (codes "svc-q" ∷ from_ports s)
    all = before_all 1 (codes "svc-q" ∷ []) (from_ports s) (one_rank (codes "svc-q") 1 refl) (one_apart (codes "svc-q")) ports_above ports_all

-- ---- of the form of names

long_name : (name suffix : List ℕ) → is_service_name name ≡ true → length suffix ≤ 3 → list_all may_be_in_name suffix ≡ true → is_name_of (name ++ suffix) ≡ true
long_name [] suffix is few may = absurd (cc)
long_name (c ∷ cs) suffix is few may =
    let parts = both (is_ascii_alphabetic c && nat_lt (length cs) 12) (list_all is_ascii_alphanumeric cs) is in
    let front = both (is_ascii_alphabetic c) (nat_lt (length cs) 12) parts.0 in
    let long = length-append cs suffix in
    let short = front.1 in
    let fits : nat_lt (length (cs ++ suffix)) 16 ≡ true = rw long (fit (length cs) (length suffix) short few) in
    rw (front.0, fits) (all_may cs parts.1)
  where
    fit : (a b : ℕ) → nat_lt a 12 ≡ true → b ≤ 3 → nat_lt (a + b) 16 ≡ true
    fit a b x y = grind (arith, nat_tests, x, y)

    all_may : (ds : List ℕ) → list_all is_ascii_alphanumeric ds ≡ true → list_all may_be_in_name (ds ++ suffix) ≡ true
    all_may [] all = may
    all_may (d ∷ ds) all = let it = both (is_ascii_alphanumeric d) (list_all is_ascii_alphanumeric ds) all in rw (it.0, all_may ds it.1) refl

abbrev AreNames : List (List ℕ) → Type 0
AreNames names = (n : List ℕ) → Among n names → is_name_of n ≡ true

names_both : (xs ys : List (List ℕ)) → AreNames xs → AreNames ys → AreNames (xs ++ ys)
names_both = both_among (λ n. is_name_of n ≡ true)

none_malformed : (names : List (List ℕ)) → AreNames names → has_malformed names ≡ false
none_malformed [] all = refl
none_malformed (n ∷ names) all = rw (all n (inl refl), none_malformed names (λ m is. all m (inr is))) refl

-- names of the service with this suffix
with_suffix : {X : Type 0} (name : X → List ℕ) (ds : List ℕ) (xs : List X) → ((x : X) → Among x xs → is_service_name (name x) ≡ true) → length (45 ∷ ds) ≤ 3 → list_all may_be_in_name (45 ∷ ds) ≡ true → AreNames (with_dash name ds xs)
with_suffix name ds xs formed few may n is =
    let it = spread_some (λ x. (name x ++ 45 ∷ ds) ∷ []) xs n is in
    ap is_name_of (only it.2) ∙ long_name (name it.0) (45 ∷ ds) (formed it.0 it.1) few may
  where
    only : {m k : List ℕ} → Among m (k ∷ []) → m ≡ k
    only (inl e) = e
    only (inr none) = absurd none

pub names_formed : (s : ServiceParts) → IsService s → has_malformed_name (expansion s) ≡ false
names_formed s is = ap has_malformed (declared_are s) ∙ none_malformed (codes "svc-q" ∷ from_ports s) all
  where
    fo : (op : OpPart) → Among op s.ops → is_service_name op.name ≡ true
    fo op among = all_pass is_service_name (service_names s) op.name is.formed (Among-left op.name (op_names s.ops) (client_names s.clients) (Among-map op_name s.ops op among))

    fc : (c : ClientPart) → Among c s.clients → is_service_name c.name ≡ true
    fc c among = all_pass is_service_name (service_names s) c.name is.formed (Among-right c.name (op_names s.ops) (client_names s.clients) (Among-map client_name s.clients c among))

    whole_name : (name : List ℕ) → is_service_name name ≡ true → is_name_of name ≡ true
    whole_name name ok = subst (λ n. is_name_of n ≡ true) (append-nil name) (long_name name [] ok (omega arith) refl)

    named : (n : List ℕ) (op : OpPart) → Among op s.ops → (n ≡ op.name) ⊎ (n ≡ op.name ++ codes "-x") → is_name_of n ≡ true
    named n op among (inl e) = ap is_name_of e ∙ whole_name op.name (fo op among)
    named n op among (inr e) = ap is_name_of e ∙ long_name op.name (codes "-x") (fo op among) (omega arith) refl

    branches : AreNames (flat_map op_branch_names s.ops)
    branches n at = let it = spread_some op_branch_names s.ops n at in named n it.0 it.1 (branch_name it.0.name n it.0.below it.2)

    clients : AreNames (client_names s.clients)
    clients n at = whole_name n (all_pass is_service_name (service_names s) n is.formed (Among-right n (op_names s.ops) (client_names s.clients) at))

    two : (n : List ℕ) → (op : OpPart) × Among op s.ops × Among n (two_ports op) → is_name_of n ≡ true
    two n (op, at, inl e) = ap is_name_of e ∙ long_name op.name (codes "-rq") (fo op at) (omega arith) refl
    two n (op, at, inr (inl e)) = ap is_name_of e ∙ long_name op.name (codes "-rs") (fo op at) (omega arith) refl
    two n (op, at, inr (inr none)) = absurd none

    one : (name : List ℕ) → is_name_of name ≡ true → AreNames (name ∷ [])
    one name ok n (inl e) = ap is_name_of e ∙ ok
    one name ok n (inr none) = absurd none

    fault_ok : (b : Bool) → AreNames (fault_names b)
    fault_ok true = one (codes "svc-e") refl
    fault_ok false = λ n gone. absurd gone

    all : AreNames (codes "svc-q" ∷ from_ports s)
    all = names_both (codes "svc-q" ∷ []) (from_ports s) (one (codes "svc-q") refl)
        (names_both (flat_map two_ports s.ops) (from_client_ports s) (λ n at. two n (spread_some two_ports s.ops n at))
        (names_both (with_dash client_name (102 ∷ []) s.clients) (from_causes s) (with_suffix client_name (102 ∷ []) s.clients fc (omega arith) refl)
        (names_both (with_dash client_name (99 ∷ []) s.clients) (from_handlers s) (with_suffix client_name (99 ∷ []) s.clients fc (omega arith) refl)
        (names_both (with_dash op_name (104 ∷ []) s.ops) (from_fault s) (with_suffix op_name (104 ∷ []) s.ops fo (omega arith) refl)
        (names_both (fault_names (list_any is_bounded s.ops)) (from_keep s) (fault_ok (list_any is_bounded s.ops))
        (names_both (codes "svc-i" ∷ []) (from_posters s) (one (codes "svc-i") refl)
        (names_both (flat_map op_branch_names s.ops) (client_names s.clients) branches clients)))))))
