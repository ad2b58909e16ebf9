-- The names that the canonical lines declare, in their order, and that a name means what it was declared for.
use Rattle.std.proofs.Common.{◌≡◌, ℕ, zero, suc, ◌+◌, Bool, true, false, cond, List, [], ◌∷◌, ◌++◌, length, map, Option, Some, None, refl, sym, ap, subst, ◌∙◌, arith, append_assoc, zero-add, add-zero}
use Rattle.std.specs.Prelude.{not}
use Rattle.std.specs.List.{slice_get}
use Rattle.std.specs.Option.{option_and_then}
use Rattle.std.specs.Str.{bytes_eq}
use Rattle.std.proofs.lemmas.List.{map-append}
use Rattle.std.proofs.lemmas.Option.{same_Some}
use Rattle.ccr_base.proofs.Texts.{same_text}
use Rattle.ccr_base.proofs.Booleans.{not_refuted}
use Rattle.ccr_base.proofs.Lists.{any_parts}
use Rattle.ccr_text.specs.Words.{is_name_of}
use Rattle.ccr_text.specs.Names.{meaning_of}
use Rattle.ccr_wiring.specs.Names.{has_name, has_repeated, has_malformed}
use Rattle.ccr_wiring.proofs.RepeatedNames.{apart_left}
use Rattle.ccr_wiretext.specs.declared.named.Named.{Named}
use Rattle.ccr_wiretext.specs.Names.{Naming}
use Rattle.ccr_wiretext.specs.Grammar.{IsNew, Refers}
use Rattle.ccr_wiretext.proofs.Each.{neither}

abbrev pub names_of : Naming → List (List ℕ)
names_of names = map (λ (entry : List ℕ × Named). entry.0) names

-- names that are numbered, the first by start
abbrev pub entries : {X : Type 0} → (X → List ℕ) → (ℕ → Named) → ℕ → List X → Naming
entries name make start [] = []
entries name make start (x ∷ xs) = (name x, make start) ∷ entries name make (start + 1) xs

-- no name stands twice, and each has the form of a name
pub record Good (names : List (List ℕ)) : Type 0 where
  pub apart : has_repeated names ≡ false
  pub formed : has_malformed names ≡ false

pub names_append : (xs ys : Naming) → names_of (xs ++ ys) ≡ names_of xs ++ names_of ys
names_append xs ys = map-append (λ (entry : List ℕ × Named). entry.0) xs ys

pub names_entries : {X : Type 0} (name : X → List ℕ) (make : ℕ → Named) (start : ℕ) (xs : List X) → names_of (entries name make start xs) ≡ map name xs
names_entries name make start [] = refl
names_entries name make start (x ∷ xs) = ap (λ (v : List (List ℕ)). name x ∷ v) (names_entries name make (start + 1) xs)

pub good_front : (xs ys : List (List ℕ)) → Good (xs ++ ys) → Good xs
good_front xs ys good = record { apart = apart_left xs ys good.apart; formed = (any_parts (λ name. not (is_name_of name)) xs ys good.formed).0 }

pub fresh : (names : Naming) (name : List ℕ) (rest : List (List ℕ)) → has_repeated (names_of names ++ name ∷ rest) ≡ false → meaning_of names name ≡ None
fresh [] name rest e = refl
fresh (entry ∷ names) name rest e =
    let parts = neither (has_name (names_of names ++ name ∷ rest) entry.0) (has_repeated (names_of names ++ name ∷ rest)) e in
    let here = any_parts (λ other. bytes_eq other entry.0) (names_of names) (name ∷ rest) parts.0 in
    let other = neither (bytes_eq name entry.0) (has_name rest entry.0) here.1 in
    rw other.0 (fresh names name rest parts.1)

-- the next of the names is a new one
pub is_new : (names : Naming) (name : List ℕ) (what : Named) (rest : Naming) → Good (names_of (names ++ (name, what) ∷ rest)) → IsNew names name
is_new names name what rest good =
    let split : names_of (names ++ (name, what) ∷ rest) ≡ names_of names ++ name ∷ names_of rest = names_append names ((name, what) ∷ rest) in
    let formed = any_parts (λ name. not (is_name_of name)) (names_of names) (name ∷ names_of rest) (ap has_malformed (sym split) ∙ good.formed) in
    record {
      formed = not_refuted (is_name_of name) (neither (not (is_name_of name)) (has_malformed (names_of rest)) formed.1).0;
      new = fresh names name (names_of rest) (ap has_repeated (sym split) ∙ good.apart);
    }

-- what is declared stays declared
named_more : (names more : Naming) (word : List ℕ) (what : Named) → meaning_of names word ≡ Some what → meaning_of (names ++ more) word ≡ Some what
named_more [] more word what e = absurd cc
named_more (entry ∷ names) more word what e = by (bytes_eq word entry.0) e (named_more names more word what)
  where
    by : (t : Bool) → cond t (Some entry.1) (meaning_of names word) ≡ Some what → (meaning_of names word ≡ Some what → meaning_of (names ++ more) word ≡ Some what) → cond t (Some entry.1) (meaning_of (names ++ more) word) ≡ Some what
    by true h next = h
    by false h next = next h

-- a new name means what it is declared for
pub named_at : (names : Naming) (name : List ℕ) (what : Named) (more : Naming) → meaning_of names name ≡ None → meaning_of (names ++ (name, what) ∷ more) name ≡ Some what
named_at [] name what more e = rw (same_text name) refl
named_at (entry ∷ names) name what more e = by (bytes_eq name entry.0) e (named_at names name what more)
  where
    by : (t : Bool) → cond t (Some entry.1) (meaning_of names name) ≡ None → (meaning_of names name ≡ None → meaning_of (names ++ (name, what) ∷ more) name ≡ Some what) → cond t (Some entry.1) (meaning_of (names ++ (name, what) ∷ more) name) ≡ Some what
    by true h next = absurd cc
    by false h next = next h

entries_named : {X : Type 0} (name : X → List ℕ) (make : ℕ → Named) (front : Naming) (start : ℕ) (xs : List X) (k : ℕ) (x : X) → slice_get xs k ≡ Some x
    → has_repeated (names_of (front ++ entries name make start xs)) ≡ false → meaning_of (front ++ entries name make start xs) (name x) ≡ Some (make (start + k))
entries_named name make front start [] k x e apart = absurd cc
entries_named name make front start (y ∷ ys) zero x e apart =
    let split : names_of (front ++ (name y, make start) ∷ entries name make (start + 1) ys) ≡ names_of front ++ name y ∷ names_of (entries name make (start + 1) ys) = names_append front ((name y, make start) ∷ entries name make (start + 1) ys) in
    let here : meaning_of (front ++ (name y, make start) ∷ entries name make (start + 1) ys) (name y) ≡ Some (make start) =
    named_at front (name y) (make start) (entries name make (start + 1) ys) (fresh front (name y) (names_of (entries name make (start + 1) ys)) (ap has_repeated (sym split) ∙ apart)) in
    let counted : start + 0 ≡ start = omega arith in
    rw counted (subst (λ z. meaning_of (front ++ (name y, make start) ∷ entries name make (start + 1) ys) (name z) ≡ Some (make start)) (same_Some y x e) here)
entries_named name make front start (y ∷ ys) (suc k) x e apart =
    let same : (front ++ (name y, make start) ∷ []) ++ entries name make (start + 1) ys ≡ front ++ (name y, make start) ∷ entries name make (start + 1) ys = append_assoc front ((name y, make start) ∷ []) (entries name make (start + 1) ys) in
    let counted : start + suc k ≡ start + 1 + k = omega arith in
    rw counted (subst (λ (all : Naming). meaning_of all (name x) ≡ Some (make (start + 1 + k))) same
    (entries_named name make (front ++ (name y, make start) ∷ []) (start + 1) ys k x e (ap (λ (all : Naming). has_repeated (names_of all)) same ∙ apart)))

formed_get : {X : Type 0} (name : X → List ℕ) (make : ℕ → Named) (start : ℕ) (xs : List X) (k : ℕ) (x : X) → slice_get xs k ≡ Some x → has_malformed (names_of (entries name make start xs)) ≡ false → is_name_of (name x) ≡ true
formed_get name make start [] k x e formed = absurd cc
formed_get name make start (y ∷ ys) zero x e formed =
    let parts = neither (not (is_name_of (name y))) (has_malformed (names_of (entries name make (start + 1) ys))) formed in
    subst (λ z. is_name_of (name z) ≡ true) (same_Some y x e) (not_refuted (is_name_of (name y)) parts.0)
formed_get name make start (y ∷ ys) (suc k) x e formed =
    formed_get name make (start + 1) ys k x e (neither (not (is_name_of (name y))) (has_malformed (names_of (entries name make (start + 1) ys))) formed).1

-- ---- numbered names, one more at a time

entries_append : {X : Type 0} (name : X → List ℕ) (make : ℕ → Named) (start : ℕ) (xs ys : List X) → entries name make start (xs ++ ys) ≡ entries name make start xs ++ entries name make (start + length xs) ys
entries_append name make start [] ys = rw (add-zero start) refl
entries_append name make start (x ∷ xs) ys =
    let counted : start + length (x ∷ xs) ≡ start + 1 + length xs = omega arith in
    rw counted (ap (λ (v : Naming). (name x, make start) ∷ v) (entries_append name make (start + 1) xs ys))

-- one more name stands behind those before it
pub next_names : {X : Type 0} (name : X → List ℕ) (make : ℕ → Named) (front : Naming) (done : List X) (x : X)
    → (front ++ entries name make 0 done) ++ (name x, make (length done)) ∷ [] ≡ front ++ entries name make 0 (done ++ x ∷ [])
next_names name make front done x =
    append_assoc front (entries name make 0 done) ((name x, make (length done)) ∷ [])
    ∙ ap (λ n. front ++ (entries name make 0 done ++ (name x, make n) ∷ [])) (sym (zero-add (length done)))
    ∙ ap (λ (v : Naming). front ++ v) (sym (entries_append name make 0 done (x ∷ [])))

-- and it is a new one
pub next_new : {X : Type 0} (name : X → List ℕ) (make : ℕ → Named) (front : Naming) (done : List X) (x : X) (rest all : List X) → done ++ x ∷ rest ≡ all
    → Good (names_of (front ++ entries name make 0 all)) → IsNew (front ++ entries name make 0 done) (name x)
next_new name make front done x rest all e good =
    let split : front ++ entries name make 0 all ≡ (front ++ entries name make 0 done) ++ (name x, make (0 + length done)) ∷ entries name make (0 + length done + 1) rest =
    ap (λ xs. front ++ entries name make 0 xs) (sym e) ∙ ap (λ (v : Naming). front ++ v) (entries_append name make 0 done (x ∷ rest))
    ∙ sym (append_assoc front (entries name make 0 done) (entries name make (0 + length done) (x ∷ rest))) in
    is_new (front ++ entries name make 0 done) (name x) (make (0 + length done)) (entries name make (0 + length done + 1) rest) (subst (λ (v : Naming). Good (names_of v)) split good)

-- ---- names that are referred to

-- a name of a kind that the text may refer to
pub record IsKnown (as_kind : Named → Option ℕ) (names : Naming) (name : List ℕ) (number : ℕ) : Type 0 where
  pub formed : is_name_of name ≡ true
  pub refers : Refers as_kind names name number

pub known_get : {X : Type 0} (as_kind : Named → Option ℕ) (name : X → List ℕ) (make : ℕ → Named) → ((n : ℕ) → as_kind (make n) ≡ Some n) → (front : Naming) (xs : List X) → Good (names_of (front ++ entries name make 0 xs))
    → (k : ℕ) (x : X) → slice_get xs k ≡ Some x → IsKnown as_kind (front ++ entries name make 0 xs) (name x) k
known_get as_kind name make kind front xs good k x e =
    let split = names_append front (entries name make 0 xs) in
    let formed = any_parts (λ name. not (is_name_of name)) (names_of front) (names_of (entries name make 0 xs)) (ap has_malformed (sym split) ∙ good.formed) in
    record {
      formed = formed_get name make 0 xs k x e formed.1;
      refers = rw (entries_named name make front 0 xs k x e good.apart) (kind (0 + k) ∙ ap Some (zero-add k));
    }

pub known_more : (as_kind : Named → Option ℕ) (names more : Naming) (name : List ℕ) (number : ℕ) → IsKnown as_kind names name number → IsKnown as_kind (names ++ more) name number
known_more as_kind names more name number known = record { formed = known.formed; refers = by (meaning_of names name) refl known.refers }
  where
    by : (o : Option Named) → meaning_of names name ≡ o → option_and_then as_kind o ≡ Some number → option_and_then as_kind (meaning_of (names ++ more) name) ≡ Some number
    by None is e = absurd cc
    by (Some what) is e = rw (named_more names more name what is) e
