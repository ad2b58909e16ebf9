-- What a text says is a service: the reading keeps the limits.
use Rattle.std.proofs.Common.{◌≡◌, ◌⊎◌, inl, inr, ℕ, ◌+◌, ◌<◌, ◌≤◌, Bool, true, false, not, List, [], ◌∷◌, ◌++◌, length, Option, Some, None, Result, Ok, Err, refl, sym, ap, ◌∙◌, arith, subst, append-nil, option_to_list}
use Rattle.std.specs.Prelude.{◌==◌, codes, if◌then◌else◌, nat_lt, is_some, max}
use Rattle.std.specs.List.{list_all}
use Rattle.std.specs.Option.{option_and_then}
use Rattle.std.specs.Str.{bytes_eq}
use Rattle.std.specs.Cmp.Lexicographic.{bytes_decides}
use Rattle.std.proofs.lemmas.List.{length-append, map-append as mapped_append}
use Rattle.std.proofs.lemmas.Bool.Decides.{nat_tests}
use Rattle.ccr_base.specs.declared.policies.Policy.{Policy}
use Rattle.ccr_base.specs.declared.policies.Policy.TheVariants as policies
use Rattle.ccr_base.specs.declared.policies.Group.{Group}
use Rattle.ccr_base.specs.declared.policies.Group.TheVariants as groups
use Rattle.ccr_base.specs.declared.handlers.Expr.{Expr}
use Rattle.ccr_base.specs.declared.handlers.Expr.TheVariants as exprs
use Rattle.ccr_text.specs.declared.lines.Line.{Line}
use Rattle.ccr_text.specs.Names.{meaning_of}
use Rattle.ccr_text.specs.Fields.{Words, ◌>>=◌, unless, or_code, limited, word, no_more, number, number_within, policy}
use Rattle.ccr_text.specs.Words.{number_of, is_comment}
use Rattle.ccr_text.proofs.Steps.{unless_ok, or_code_ok, word_ok, limit_ok}
use Rattle.ccr_text.proofs.Meanings.{meaning_none}
use Rattle.ccr_wiring.specs.declared.parts.Kind.TheVariants as kinds
use Rattle.ccr_wiring.specs.Groups.{may_have}
use Rattle.ccr_wiring.specs.Limits.{policy_is_outside, is_outside}
use Rattle.ccr_wiretext.specs.Reading.{at_line}
use Rattle.ccr_wiretext.proofs.ReadTellsSteps.{bind_ok as then_ok, ok_is}
use Rattle.ccr_wiretext.proofs.FieldsRead.{within_said}
use Rattle.ccr_base.proofs.Booleans.{both, no_both}
use Rattle.ccr_base.proofs.Options.{none_is}
use Rattle.ccr_base.proofs.Lists.{all_more}
use Rattle.ccr_model.proofs.Members.{Among, Among-either, all_from, Among-last}
use Rattle.ccr_model.proofs.Pigeons.{Apart}
use Rattle.ccr_service.specs.declared.names.OpOrClient.{OpOrClient}
use Rattle.ccr_service.specs.declared.names.OpOrClient.TheVariants as named
use Rattle.ccr_service.specs.declared.parts.AskPart.{AskPart}
use Rattle.ccr_service.specs.declared.parts.ClientPart.{ClientPart}
use Rattle.ccr_service.specs.declared.parts.OpPart.{OpPart}
use Rattle.ccr_service.specs.declared.parts.ServiceParts.{ServiceParts}
use Rattle.ccr_service.specs.Naming.{Naming, as_op}
use Rattle.ccr_service.specs.Fields.{new_name, op_name, group, expr, bound}
use Rattle.ccr_service.specs.Drafts.{Drafted, nothing, with_policy, with_op, with_client, with_ask, end_client, policy_form, op_form, client_form, ask_form, outside_line, client_line, apart, line_in}
use Rattle.ccr_service.specs.Reading.{So, is_version, after_words, after_all, after_line, closed, at_end, reading_after, reading_text}
use Rattle.ccr_service.specs.Grammar.{IsNew}
use Rattle.ccr_service.specs.Served.{asks_in_all}
use Rattle.ccr_service.specs.Services.{IsService, is_service_name, op_names, client_names, service_names, is_service_expr, is_service_op, are_asked}
use Rattle.ccr_service.proofs.Naming.{apart_append, not_repeated}

-- ---- steps

-- ---- fields

-- a name that is declared is new, and one that is asked is an operation's
pub record NewSaid (names : Naming) (words : Words) (p : List ℕ × Words) : Type 0 where
  pub spelled : words ≡ p.0 ∷ p.1
  pub new : IsNew names p.0

pub new_said : (names : Naming) (words : Words) (p : List ℕ × Words) → new_name names words ≡ Ok p → NewSaid names words p
unfolding new_name
new_said names words p e =
    let a = then_ok (word words) _ p e in
    let b = then_ok (unless (is_service_name a.0.0) 14) _ p a.2 in
    let c = then_ok (unless (not (is_some (meaning_of names a.0.0))) 6) _ p b.2 in
    let same : a.0 ≡ p = ok_is _ _ c.2 in
    subst (NewSaid names words) same (record { spelled = word_ok words a.0 a.1; new = record { formed = unless_ok (is_service_name a.0.0) 14 b.0 b.1; new = none_is (meaning_of names a.0.0) (unless_ok _ 6 c.0 c.1) } })

pub record OpSaid (names : Naming) (words : Words) (p : ℕ × Words) : Type 0 where
  pub name : List ℕ
  pub spelled : words ≡ name ∷ p.1
  pub refers : meaning_of names name ≡ Some (named.Op p.0)

pub op_said : (names : Naming) (words : Words) (p : ℕ × Words) → op_name names words ≡ Ok p → OpSaid names words p
unfolding op_name
op_said names words p e =
    let a = then_ok (word words) _ p e in
    let b = then_ok (or_code (option_and_then as_op (meaning_of names a.0.0)) 7) _ p a.2 in
    let same : (b.0, a.0.1) ≡ p = ok_is _ _ b.2 in
    subst (OpSaid names words) same (record { name = a.0.0; spelled = word_ok words a.0 a.1; refers = of_op (meaning_of names a.0.0) b.0 (or_code_ok _ 7 b.0 b.1) })
  where
    of_op : (o : Option OpOrClient) (k : ℕ) → option_and_then as_op o ≡ Some k → o ≡ Some (named.Op k)
    of_op None k is = absurd (cc)
    of_op (Some named.Client) k is = absurd (cc)
    of_op (Some (named.Op n)) k is = let same : n ≡ k = cc in ap (λ i. Some (named.Op i)) same

within_ok : (low high : ℕ) (words : Words) (p : ℕ × Words) → number_within low high words ≡ Ok p → (low ≤ p.0) × (p.0 ≤ high)
within_ok low high words p e = let said = within_said low high words p e in (said.2.above, said.2.below)

inside : (low high n : ℕ) → low ≤ n → n ≤ high → is_outside low high n ≡ false
inside low high n a b = grind (arith, nat_tests, a, b)

policy_ok : (words : Words) (p : Policy × Words) → policy 1000 words ≡ Ok p → policy_is_outside p.0 ≡ false
unfolding policy
policy_ok words p e =
    let a = then_ok (word words) _ p e in
    by_first (bytes_eq a.0.0 (codes "unbounded")) (bytes_eq a.0.0 (codes "discard")) (bytes_eq a.0.0 (codes "throttle")) a.0.1 a.2
  where
    by_first : (x y z : Bool) (rest : Words) → (if x then Ok (policies.Unbounded, rest) else if y then (number_within 1 1000 rest >>= λ limit. Ok (policies.Discard limit.0, limit.1)) else if z then (number_within 1 1000 rest >>= λ limit. Ok (policies.Throttle limit.0, limit.1)) else Err 3) ≡ Ok p → policy_is_outside p.0 ≡ false
    by_first true y z rest is = ap (λ (q : Policy × Words). policy_is_outside q.0) (sym (ok_is _ _ is))
    by_first false true z rest is = let n = then_ok (number_within 1 1000 rest) _ p is in let w = within_ok 1 1000 rest n.0 n.1 in ap (λ (q : Policy × Words). policy_is_outside q.0) (sym (ok_is _ _ n.2)) ∙ inside 1 1000 n.0.0 w.0 w.1
    by_first false false true rest is = let n = then_ok (number_within 1 1000 rest) _ p is in let w = within_ok 1 1000 rest n.0 n.1 in ap (λ (q : Policy × Words). policy_is_outside q.0) (sym (ok_is _ _ n.2)) ∙ inside 1 1000 n.0.0 w.0 w.1
    by_first false false false rest is = absurd (cc)

abbrev pub group_by : Bool → Bool → Bool → Words → Result (Group × Words) ℕ
group_by x y z rest = if x then Ok (groups.Teardown, rest) else if y then Ok (groups.Exclusive, rest) else if z then Ok (groups.Concurrent, rest) else Err 3

group_ok : (words : Words) (p : Group × Words) → group words ≡ Ok p → may_have kinds.Interleave p.0 ≡ true
unfolding group
group_ok words p e =
    let a = then_ok (word words) _ p e in
    by_first (bytes_eq a.0.0 (codes "teardown")) (bytes_eq a.0.0 (codes "exclusive")) (bytes_eq a.0.0 (codes "concurrent")) a.0.1 a.2
  where
    by_first : (x y z : Bool) (rest : Words) → group_by x y z rest ≡ Ok p → may_have kinds.Interleave p.0 ≡ true
    by_first true y z rest is = ap (λ (q : Group × Words). may_have kinds.Interleave q.0) (sym (ok_is _ _ is))
    by_first false true z rest is = ap (λ (q : Group × Words). may_have kinds.Interleave q.0) (sym (ok_is _ _ is))
    by_first false false true rest is = ap (λ (q : Group × Words). may_have kinds.Interleave q.0) (sym (ok_is _ _ is))
    by_first false false false rest is = absurd (cc)

expr_ok : (words : Words) (p : Expr × Words) → expr words ≡ Ok p → is_service_expr p.0 ≡ true
unfolding expr
expr_ok words p e =
    let a = then_ok (word words) _ p e in
    by_first (bytes_eq a.0.0 (codes "sum")) (bytes_eq a.0.0 (codes "count")) (bytes_eq a.0.0 (codes "arg")) a.0.0 a.0.1 a.2
  where
    by_first : (x y z : Bool) (name : List ℕ) (rest : Words) → (if x then Ok (exprs.Sum, rest) else if y then Ok (exprs.Count, rest) else if z then (number_within 0 65535 rest >>= λ place. Ok (exprs.Arg place.0, place.1)) else (or_code (number_of name) 5 >>= λ n. Ok (exprs.Number (n ∷ []), rest))) ≡ Ok p → is_service_expr p.0 ≡ true
    by_first true y z name rest is = ap (λ (q : Expr × Words). is_service_expr q.0) (sym (ok_is _ _ is))
    by_first false true z name rest is = ap (λ (q : Expr × Words). is_service_expr q.0) (sym (ok_is _ _ is))
    by_first false false true name rest is = let n = then_ok (number_within 0 65535 rest) _ p is in let w = within_ok 0 65535 rest n.0 n.1 in ap (λ (q : Expr × Words). is_service_expr q.0) (sym (ok_is _ _ n.2)) ∙ ap not (inside 0 65535 n.0.0 w.0 w.1)
    by_first false false false name rest is = let n = then_ok (or_code (number_of name) 5) _ p is in ap (λ (q : Expr × Words). is_service_expr q.0) (sym (ok_is _ _ n.2))

-- ---- names

meaning_some : (names : Naming) (key n : List ℕ) (v m : OpOrClient) → meaning_of (names ++ (key, v) ∷ []) n ≡ Some m → (meaning_of names n ≡ Some m) ⊎ (m ≡ v)
meaning_some [] key n v m is = by_test (bytes_eq n key) is
  where
    by_test : (b : Bool) → (if b then Some v else None) ≡ Some m → (None ≡ Some m) ⊎ (m ≡ v)
    by_test true e = inr (cc)
    by_test false e = absurd (cc)
meaning_some (entry ∷ names) key n v m is = by_test (bytes_eq n entry.0) is (meaning_some names key n v m)
  where
    by_test : (b : Bool) → (if b then Some entry.1 else meaning_of (names ++ (key, v) ∷ []) n) ≡ Some m → (meaning_of (names ++ (key, v) ∷ []) n ≡ Some m → (meaning_of names n ≡ Some m) ⊎ (m ≡ v)) → ((if b then Some entry.1 else meaning_of names n) ≡ Some m) ⊎ (m ≡ v)
    by_test true e rest = inl e
    by_test false e rest = rest e

-- ---- what is kept

-- of the parts so far, where the client whose block is open counts as one of them
record IsKept (rule : Policy) (ops : List OpPart) (clients : List ClientPart) (names : Naming) (asks : ℕ) : Type 0 where
  few_ops : length ops ≤ 32
  few_clients : length clients ≤ 16
  counted : asks ≡ asks_in_all clients
  few_asks : asks ≤ 10000
  ops_formed : (n : List ℕ) → Among n (op_names ops) → is_service_name n ≡ true
  clients_formed : (n : List ℕ) → Among n (client_names clients) → is_service_name n ≡ true
  ops_apart : Apart (op_names ops)
  clients_apart : Apart (client_names clients)
  crossed : (n : List ℕ) → Among n (op_names ops) → Among n (client_names clients) → ⊥
  inside_so : policy_is_outside rule ≡ false
  ops_so : list_all is_service_op ops ≡ true
  asked : list_all (λ (c : ClientPart). are_asked (length ops) c.asks) clients ≡ true
  fresh : (n : List ℕ) → meaning_of names n ≡ None → (Among n (op_names ops) → ⊥) × (Among n (client_names clients) → ⊥)
  numbered : (n : List ℕ) (k : ℕ) → meaning_of names n ≡ Some (named.Op k) → k < length ops

all_front : {X : Type 0} (p : X → Bool) (xs : List X) (x : X) → list_all p (xs ++ x ∷ []) ≡ true → (list_all p xs ≡ true) × (p x ≡ true)
all_front p [] x all = (refl, (both (p x) true all).0)
all_front p (y ∷ xs) x all = let parts = both (p y) (list_all p (xs ++ x ∷ [])) all in let rest = all_front p xs x parts.1 in (rw (parts.0, rest.0) refl, rest.1)

apart_more : {X : Type 0} (xs : List X) (x : X) → Apart xs → (Among x xs → ⊥) → Apart (xs ++ x ∷ [])
apart_more xs x apart_so new = apart_append xs (x ∷ []) apart_so ((λ gone. absurd gone), tt) crossed
  where
    crossed : (y : _) → Among y xs → Among y (x ∷ []) → ⊥
    crossed y here (inl e) = new (subst (λ z. Among z xs) e here)
    crossed y here (inr none) = absurd none

asks_append : (xs : List ClientPart) (c : ClientPart) → asks_in_all (xs ++ c ∷ []) ≡ asks_in_all xs + length c.asks
asks_append [] c = omega arith
asks_append (x ∷ xs) c = let rest = asks_append xs c in omega (arith, rest)

asked_more : (n : ℕ) (asks : List AskPart) → are_asked n asks ≡ true → are_asked (n + 1) asks ≡ true
asked_more n [] is = refl
asked_more n (a ∷ asks) is = let parts = both (nat_lt a.op n) (are_asked n asks) is in let first = parts.0 in let here : nat_lt a.op (n + 1) ≡ true = grind (arith, nat_tests, first) in rw (here, asked_more n asks parts.1) refl

all_asked_more : (n : ℕ) (cs : List ClientPart) → list_all (λ (c : ClientPart). are_asked n c.asks) cs ≡ true → list_all (λ (c : ClientPart). are_asked (n + 1) c.asks) cs ≡ true
all_asked_more n [] is = refl
all_asked_more n (c ∷ cs) is = let parts = both (are_asked n c.asks) (list_all (λ (x : ClientPart). are_asked n x.asks) cs) is in rw (asked_more n c.asks parts.0, all_asked_more n cs parts.1) refl

kept_op : (rule : Policy) (ops : List OpPart) (cs : List ClientPart) (names : Naming) (asks : ℕ) (part : OpPart) → IsKept rule ops cs names asks → length ops < 32 → IsNew names part.name → is_service_op part ≡ true → IsKept rule (ops ++ part ∷ []) cs (names ++ (part.name, named.Op (length ops)) ∷ []) asks
kept_op rule ops cs names asks part kept room name is_op =
    let long : length (ops ++ part ∷ []) ≡ length ops + 1 = length-append ops (part ∷ []) in
    let all : op_names (ops ++ part ∷ []) ≡ op_names ops ++ part.name ∷ [] = mapped_append (λ (op : OpPart). op.name) ops (part ∷ []) in
    let new = kept.fresh part.name name.new in
    record {
      few_ops = omega (arith, long, room);
      few_clients = kept.few_clients;
      counted = kept.counted;
      few_asks = kept.few_asks;
      ops_formed = λ n is. of_side (λ m. is_service_name m ≡ true) n (Among-last n part.name (op_names ops) (subst (Among n) all is)) (kept.ops_formed n) name.formed;
      clients_formed = kept.clients_formed;
      ops_apart = subst Apart (sym all) (apart_more (op_names ops) part.name kept.ops_apart new.0);
      clients_apart = kept.clients_apart;
      crossed = λ n is there. of_side (λ m. Among m (client_names cs) → ⊥) n (Among-last n part.name (op_names ops) (subst (Among n) all is)) (kept.crossed n) new.1 there;
      inside_so = kept.inside_so;
      ops_so = all_more is_service_op ops part kept.ops_so is_op;
      asked = subst (λ k. list_all (λ (c : ClientPart). are_asked k c.asks) cs ≡ true) (sym long) (all_asked_more (length ops) cs kept.asked);
      fresh = λ n none. let parts = meaning_none names part.name n (named.Op (length ops)) none in let apart : n ≡ part.name → ⊥ = λ same. no_both ((bytes_decides n part.name).1 same) parts.1 in let old = kept.fresh n parts.0 in ((λ is. of_new n (Among-last n part.name (op_names ops) (subst (Among n) all is)) old.0 apart), old.1);
      numbered = λ n k is. of_number k n (meaning_some names part.name n (named.Op (length ops)) (named.Op k) is) (kept.numbered n k) long;
    }
  where
    of_side : (P : List ℕ → Type 0) (n : List ℕ) → Among n (op_names ops) ⊎ (n ≡ part.name) → (Among n (op_names ops) → P n) → P part.name → P n
    of_side P n (inl here) old new = old here
    of_side P n (inr e) old new = subst P (sym e) new

    of_new : (n : List ℕ) → Among n (op_names ops) ⊎ (n ≡ part.name) → (Among n (op_names ops) → ⊥) → (n ≡ part.name → ⊥) → ⊥
    of_new n (inl here) old new = old here
    of_new n (inr e) old new = new e

    of_number : (k : ℕ) (n : List ℕ) → (meaning_of names n ≡ Some (named.Op k)) ⊎ (named.Op k ≡ named.Op (length ops)) → (meaning_of names n ≡ Some (named.Op k) → k < length ops) → length (ops ++ part ∷ []) ≡ length ops + 1 → k < length (ops ++ part ∷ [])
    of_number k n (inl old) before long = let lt = before old in omega (arith, lt, long)
    of_number k n (inr e) before long = let same : k ≡ length ops = cc in omega (arith, same, long)

kept_client : (rule : Policy) (ops : List OpPart) (cs : List ClientPart) (names : Naming) (asks : ℕ) (name : List ℕ) → IsKept rule ops cs names asks → length cs < 16 → IsNew names name → IsKept rule ops (cs ++ record { name = name; asks = [] } ∷ []) (names ++ (name, named.Client) ∷ []) asks
kept_client rule ops cs names asks name kept room is_new =
    let part : ClientPart = record { name = name; asks = [] } in
    let long : length (cs ++ part ∷ []) ≡ length cs + 1 = length-append cs (part ∷ []) in
    let all : client_names (cs ++ part ∷ []) ≡ client_names cs ++ name ∷ [] = mapped_append (λ (c : ClientPart). c.name) cs (part ∷ []) in
    let more : asks_in_all (cs ++ part ∷ []) ≡ asks_in_all cs + 0 = asks_append cs part in
    let before = kept.counted in
    let new = kept.fresh name is_new.new in
    record {
      few_ops = kept.few_ops;
      few_clients = omega (arith, long, room);
      counted = omega (arith, before, more);
      few_asks = kept.few_asks;
      ops_formed = kept.ops_formed;
      clients_formed = λ n is. of_side (λ m. is_service_name m ≡ true) n (Among-last n name (client_names cs) (subst (Among n) all is)) (kept.clients_formed n) is_new.formed;
      ops_apart = kept.ops_apart;
      clients_apart = subst Apart (sym all) (apart_more (client_names cs) name kept.clients_apart new.1);
      crossed = λ n is there. of_side (λ m. Among m (op_names ops) → ⊥) n (Among-last n name (client_names cs) (subst (Among n) all there)) (λ here op. kept.crossed n op here) new.0 is;
      inside_so = kept.inside_so;
      ops_so = kept.ops_so;
      asked = all_more (λ (c : ClientPart). are_asked (length ops) c.asks) cs part kept.asked refl;
      fresh = λ n none. let parts = meaning_none names name n named.Client none in let apart : n ≡ name → ⊥ = λ same. no_both ((bytes_decides n name).1 same) parts.1 in let old = kept.fresh n parts.0 in (old.0, (λ is. of_new n (Among-last n name (client_names cs) (subst (Among n) all is)) old.1 apart));
      numbered = λ n k is. of_number k n (meaning_some names name n named.Client (named.Op k) is) (kept.numbered n k);
    }
  where
    of_side : (P : List ℕ → Type 0) (n : List ℕ) → Among n (client_names cs) ⊎ (n ≡ name) → (Among n (client_names cs) → P n) → P name → P n
    of_side P n (inl here) old new = old here
    of_side P n (inr e) old new = subst P (sym e) new

    of_new : (n : List ℕ) → Among n (client_names cs) ⊎ (n ≡ name) → (Among n (client_names cs) → ⊥) → (n ≡ name → ⊥) → ⊥
    of_new n (inl here) old new = old here
    of_new n (inr e) old new = new e

    of_number : (k : ℕ) (n : List ℕ) → (meaning_of names n ≡ Some (named.Op k)) ⊎ (named.Op k ≡ named.Client) → (meaning_of names n ≡ Some (named.Op k) → k < length ops) → k < length ops
    of_number k n (inl old) before = before old
    of_number k n (inr e) before = absurd (cc)

kept_ask : (rule : Policy) (ops : List OpPart) (cs : List ClientPart) (names : Naming) (asks : ℕ) (part : ClientPart) (ask : AskPart) → IsKept rule ops (cs ++ part ∷ []) names asks → asks < 10000 → ask.op < length ops → IsKept rule ops (cs ++ record part { asks = part.asks ++ ask ∷ [] } ∷ []) names (asks + 1)
kept_ask rule ops cs names asks part ask kept room lt =
    let more : ClientPart = record part { asks = part.asks ++ ask ∷ [] } in
    let long : length (cs ++ more ∷ []) ≡ length (cs ++ part ∷ []) = length-append cs (more ∷ []) ∙ sym (length-append cs (part ∷ [])) in
    let same : client_names (cs ++ part ∷ []) ≡ client_names (cs ++ more ∷ []) = mapped_append (λ (c : ClientPart). c.name) cs (part ∷ []) ∙ sym (mapped_append (λ (c : ClientPart). c.name) cs (more ∷ [])) in
    let old_asks = asks_append cs part in
    let new_asks = asks_append cs more in
    let longer : length (part.asks ++ ask ∷ []) ≡ length part.asks + 1 = length-append part.asks (ask ∷ []) in
    let before = kept.counted in
    let few = kept.few_clients in
    let asked_so = all_front (λ (c : ClientPart). are_asked (length ops) c.asks) cs part kept.asked in
    let now : nat_lt ask.op (length ops) ≡ true = grind (arith, nat_tests, lt) in
    record {
      few_ops = kept.few_ops;
      few_clients = omega (arith, few, long);
      counted = omega (arith, before, old_asks, new_asks, longer);
      few_asks = omega (arith, room);
      ops_formed = kept.ops_formed;
      clients_formed = subst (λ ns. (n : List ℕ) → Among n ns → is_service_name n ≡ true) same kept.clients_formed;
      ops_apart = kept.ops_apart;
      clients_apart = subst Apart same kept.clients_apart;
      crossed = subst (λ ns. (n : List ℕ) → Among n (op_names ops) → Among n ns → ⊥) same kept.crossed;
      inside_so = kept.inside_so;
      ops_so = kept.ops_so;
      asked = all_more (λ (c : ClientPart). are_asked (length ops) c.asks) cs more asked_so.0 (all_more (λ (a : AskPart). nat_lt a.op (length ops)) part.asks ask asked_so.1 now);
      fresh = subst (λ ns. (n : List ℕ) → meaning_of names n ≡ None → (Among n (op_names ops) → ⊥) × (Among n ns → ⊥)) same kept.fresh;
      numbered = kept.numbered;
    }

kept_none : IsKept policies.Unbounded [] [] [] 0
kept_none = record {
  few_ops = omega arith;
  few_clients = omega arith;
  counted = refl;
  few_asks = omega arith;
  ops_formed = λ n is. absurd is;
  clients_formed = λ n is. absurd is;
  ops_apart = tt;
  clients_apart = tt;
  crossed = λ n is there. absurd is;
  inside_so = refl;
  ops_so = refl;
  asked = refl;
  fresh = λ n none. ((λ is. absurd is), (λ is. absurd is));
  numbered = λ n k is. absurd (cc);
}

-- the service at the end
kept_service : (parts : ServiceParts) (names : Naming) (asks : ℕ) → IsKept parts.policy parts.ops parts.clients names asks → 0 < length parts.ops → IsService parts
kept_service parts names asks kept some =
    let counted = kept.counted in
    let few = kept.few_asks in
    record {
      some_ops = some;
      few_ops = kept.few_ops;
      few_clients = kept.few_clients;
      few_asks = omega (arith, counted, few);
      formed = all_from is_service_name (service_names parts) (λ n is. of_side n (Among-either n (op_names parts.ops) (client_names parts.clients) is));
      apart = not_repeated (service_names parts) (apart_append (op_names parts.ops) (client_names parts.clients) kept.ops_apart kept.clients_apart kept.crossed);
      policy = kept.inside_so;
      ops = kept.ops_so;
      asked = kept.asked;
    }
  where
    of_side : (n : List ℕ) → Among n (op_names parts.ops) ⊎ Among n (client_names parts.clients) → is_service_name n ≡ true
    of_side n (inl op) = kept.ops_formed n op
    of_side n (inr client) = kept.clients_formed n client

-- ---- line by line

abbrev Keeps : Drafted → Type 0
Keeps d = IsKept d.parts.policy d.parts.ops (d.parts.clients ++ option_to_list d.block) d.names d.asks

op_form_ok : (d : Drafted) (words : Words) (part : OpPart) → op_form d words ≡ Ok part → (length d.parts.ops < 32) × IsNew d.names part.name × (is_service_op part ≡ true)
unfolding op_form
op_form_ok d words part e =
    let a = then_ok (limited 32 (length d.parts.ops)) _ part e in
    let b = then_ok (new_name d.names words) _ part a.2 in
    let c = then_ok (group b.0.1) _ part b.2 in
    let f = then_ok (expr c.0.1) _ part c.2 in
    let g = then_ok (bound f.0.1) _ part f.2 in
    let h = then_ok (no_more g.0.1) _ part g.2 in
    let same : record { name = b.0.0; group = c.0.0; expr = f.0.0; below = g.0.0 } ≡ part = ok_is _ _ h.2 in
    let fits : is_service_op (record { name = b.0.0; group = c.0.0; expr = f.0.0; below = g.0.0 }) ≡ true = rw (group_ok b.0.1 c.0 c.1, expr_ok c.0.1 f.0 f.1) refl in
    (limit_ok 32 (length d.parts.ops) a.0 a.1, subst (λ (p : OpPart). IsNew d.names p.name) same (new_said d.names words b.0 b.1).new, subst (λ (p : OpPart). is_service_op p ≡ true) same fits)

client_form_ok : (d : Drafted) (words : Words) (name : List ℕ) → client_form d words ≡ Ok name → (length d.parts.clients < 16) × IsNew d.names name
unfolding client_form
client_form_ok d words name e =
    let a = then_ok (limited 16 (length d.parts.clients)) _ name e in
    let b = then_ok (new_name d.names words) _ name a.2 in
    let c = then_ok (no_more b.0.1) _ name b.2 in
    let same : b.0.0 ≡ name = ok_is _ _ c.2 in
    (limit_ok 16 (length d.parts.clients) a.0 a.1, subst (IsNew d.names) same (new_said d.names words b.0 b.1).new)

ask_form_ok : (d : Drafted) (words : Words) (ask : AskPart) → ask_form d words ≡ Ok ask → (d.asks < 10000) × ((name : List ℕ) × (meaning_of d.names name ≡ Some (named.Op ask.op)))
unfolding ask_form
ask_form_ok d words ask e =
    let a = then_ok (limited 10000 d.asks) _ ask e in
    let b = then_ok (op_name d.names words) _ ask a.2 in
    let c = then_ok (number b.0.1) _ ask b.2 in
    let f = then_ok (no_more c.0.1) _ ask c.2 in
    let same : b.0.0 ≡ ask.op = ap (λ (x : AskPart). x.op) (ok_is _ _ f.2) in
    let found = op_said d.names words b.0 b.1 in
    (limit_ok 10000 d.asks a.0 a.1, (found.name, found.refers ∙ ap (λ i. Some (named.Op i)) same))

policy_form_ok : (d : Drafted) (words : Words) (rule : Policy) → policy_form d words ≡ Ok rule → policy_is_outside rule ≡ false
unfolding policy_form
policy_form_ok d words rule e =
    let a = then_ok (unless (not d.policied) 13) _ rule e in
    let b = then_ok (policy 1000 words) _ rule a.2 in
    let c = then_ok (no_more b.0.1) _ rule b.2 in
    let same : b.0.0 ≡ rule = ok_is _ _ c.2 in
    subst (λ r. policy_is_outside r ≡ false) same (policy_ok words b.0 b.1)

outside_kept : (d e : Drafted) (first : List ℕ) (words : Words) → Keeps (apart d) → outside_line (apart d) first words ≡ Ok e → Keeps e
unfolding outside_line
outside_kept d e first words kept is = by_first (bytes_eq first (codes "policy")) (bytes_eq first (codes "op")) (bytes_eq first (codes "client")) is
  where
    plain : IsKept d.parts.policy d.parts.ops d.parts.clients d.names d.asks
    plain = subst (λ cs. IsKept d.parts.policy d.parts.ops cs d.names d.asks) (append-nil d.parts.clients) kept

    by_first : (x y z : Bool) → (if x then (policy_form (apart d) words >>= λ rule. Ok (with_policy (apart d) rule)) else if y then (op_form (apart d) words >>= λ part. Ok (with_op (apart d) part)) else if z then (client_form (apart d) words >>= λ name. Ok (with_client (apart d) name)) else Err 3) ≡ Ok e → Keeps e
    by_first true y z at =
        let a = then_ok (policy_form (apart d) words) _ e at in
        let rule_ok = policy_form_ok (apart d) words a.0 a.1 in
        subst Keeps (ok_is _ _ a.2) (record {
          few_ops = kept.few_ops;
          few_clients = kept.few_clients;
          counted = kept.counted;
          few_asks = kept.few_asks;
          ops_formed = kept.ops_formed;
          clients_formed = kept.clients_formed;
          ops_apart = kept.ops_apart;
          clients_apart = kept.clients_apart;
          crossed = kept.crossed;
          inside_so = rule_ok;
          ops_so = kept.ops_so;
          asked = kept.asked;
          fresh = kept.fresh;
          numbered = kept.numbered;
        })
    by_first false true z at =
        let a = then_ok (op_form (apart d) words) _ e at in
        let ok = op_form_ok (apart d) words a.0 a.1 in
        subst Keeps (ok_is _ _ a.2) (kept_op d.parts.policy d.parts.ops (d.parts.clients ++ []) d.names d.asks a.0 kept ok.0 ok.1 ok.2)
    by_first false false true at =
        let a = then_ok (client_form (apart d) words) _ e at in
        let ok = client_form_ok (apart d) words a.0 a.1 in
        subst Keeps (ok_is _ _ a.2) (kept_client d.parts.policy d.parts.ops d.parts.clients d.names d.asks a.0 plain ok.0 ok.1)
    by_first false false false at = absurd (cc)

client_kept : (d e : Drafted) (part : ClientPart) (first : List ℕ) (words : Words) → IsKept d.parts.policy d.parts.ops (d.parts.clients ++ part ∷ []) d.names d.asks → client_line (apart d) part first words ≡ Ok e → Keeps e
unfolding client_line
client_kept d e part first words kept is = by_first (bytes_eq first (codes "ask")) (bytes_eq first (codes "end")) is
  where
    by_first : (x y : Bool) → (if x then (ask_form (apart d) words >>= λ ask. Ok (with_ask (apart d) part ask)) else if y then (no_more words >>= λ done. Ok (end_client (apart d) part)) else Err 3) ≡ Ok e → Keeps e
    by_first true y at =
        let a = then_ok (ask_form (apart d) words) _ e at in
        let ok = ask_form_ok (apart d) words a.0 a.1 in
        subst Keeps (ok_is _ _ a.2) (kept_ask d.parts.policy d.parts.ops d.parts.clients d.names d.asks part a.0 kept ok.0 (kept.numbered ok.1.0 a.0.op ok.1.1))
    by_first false true at =
        let a = then_ok (no_more words) _ e at in
        subst Keeps (ok_is _ _ a.2) (subst (λ cs. IsKept d.parts.policy d.parts.ops cs d.names d.asks) (sym (append-nil (d.parts.clients ++ part ∷ []))) kept)
    by_first false false at = absurd (cc)

line_kept : (d e : Drafted) (o : Option ClientPart) (first : List ℕ) (words : Words) → IsKept d.parts.policy d.parts.ops (d.parts.clients ++ option_to_list o) d.names d.asks → line_in o d first words ≡ Ok e → Keeps e
unfolding line_in
line_kept d e None first words kept is = outside_kept d e first words kept is
line_kept d e (Some part) first words kept is = client_kept d e part first words kept is

abbrev KeepsSo : So → Type 0
KeepsSo None = Unit {0}
KeepsSo (Some d) = Keeps d

nothing_kept : Keeps nothing
nothing_kept = kept_none

words_kept : (so new : So) (first : List ℕ) (words : Words) → KeepsSo so → after_words so first words ≡ Ok new → KeepsSo new
unfolding after_words
words_kept None new first words kept is = let a = then_ok (unless (is_version (first ∷ words)) 2) _ new is in subst KeepsSo (ok_is _ _ a.2) nothing_kept
words_kept (Some d) new first words kept is = let a = then_ok (line_in d.block d first words) _ new is in subst KeepsSo (ok_is _ _ a.2) (line_kept d a.0 d.block first words kept a.1)

all_kept : (so new : So) (words : Words) → KeepsSo so → after_all so words ≡ Ok new → KeepsSo new
unfolding after_all
all_kept so new [] kept is = subst KeepsSo (ok_is _ _ is) kept
all_kept so new (first ∷ words) kept is = by_comment (is_comment first) is
  where
    by_comment : (b : Bool) → (if b then Ok so else after_words so first words) ≡ Ok new → KeepsSo new
    by_comment true at = subst KeepsSo (ok_is _ _ at) kept
    by_comment false at = words_kept so new first words kept at

after_kept : (so new : So) (line : Line) → KeepsSo so → after_line so line ≡ Ok new → KeepsSo new
unfolding after_line
after_kept so new line kept is = by_clean line.clean is
  where
    by_clean : (b : Bool) → (if b then after_all so line.words else Err 1) ≡ Ok new → KeepsSo new
    by_clean true at = all_kept so new line.words kept at
    by_clean false at = absurd (cc)

end_kept : (so : So) (parts : ServiceParts) → KeepsSo so → at_end so ≡ Ok parts → IsService parts
unfolding at_end
end_kept None parts kept is = absurd (cc)
end_kept (Some d) parts kept is = by_block d.block kept is
  where
    by_block : (o : Option ClientPart) → IsKept d.parts.policy d.parts.ops (d.parts.clients ++ option_to_list o) d.names d.asks → closed o d.parts ≡ Ok parts → IsService parts
    by_block (Some part) so at = absurd (cc)
    by_block None so at =
        let a = then_ok (unless (not (length d.parts.ops == 0)) 11) _ parts at in
        let some = unless_ok (not (length d.parts.ops == 0)) 11 a.0 a.1 in
        let least : 0 < length d.parts.ops = grind (arith, nat_tests, some) in
        subst IsService (ok_is _ _ a.2) (kept_service d.parts d.names d.asks (subst (λ cs. IsKept d.parts.policy d.parts.ops cs d.names d.asks) (append-nil d.parts.clients) so) least)

abbrev pub reading_on : Line → List Line → Result So ℕ → Result ServiceParts (ℕ × ℕ)
reading_on line lines r = elim r [ Ok new ↦ reading_after new line.number lines | Err code ↦ Err (line.number, code) ]

lines_kept : (so : So) (last : ℕ) (lines : List Line) (parts : ServiceParts) → KeepsSo so → reading_after so last lines ≡ Ok parts → IsService parts
unfolding reading_after
lines_kept so last [] parts kept is = by_end (at_end so) refl (max last 1) is
  where
    by_end : (r : Result ServiceParts ℕ) → at_end so ≡ r → (n : ℕ) → at_line n r ≡ Ok parts → IsService parts
    by_end (Ok found) e n at = end_kept so parts kept (e ∙ ap Ok (cc))
    by_end (Err code) e n at = absurd (cc)
lines_kept so last (line ∷ lines) parts kept is = by_line (after_line so line) refl is (λ new kept_so at. lines_kept new line.number lines parts kept_so at)
  where
    by_line : (r : Result So ℕ) → after_line so line ≡ r → reading_on line lines r ≡ Ok parts → ((new : So) → KeepsSo new → reading_after new line.number lines ≡ Ok parts → IsService parts) → IsService parts
    by_line (Ok new) e at rest = rest new (after_kept so new line kept e) at
    by_line (Err code) e at rest = absurd (cc)

-- what a text says is a service
pub read_so : (text : List ℕ) (parts : ServiceParts) → reading_text text ≡ Ok parts → IsService parts
read_so text parts is = lines_kept None 0 _ parts tt is
