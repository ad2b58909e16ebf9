-- A port that is referred to: what is read is in the grammar, and what is in the grammar is read.
use Rattle.std.proofs.Common.{◌≡◌, ℕ, ◌+◌, ◌<◌, Bool, true, false, List, [], ◌∷◌, ◌++◌, length, take, drop, Option, Some, None, Ok, ◌⊎◌, inl, inr, refl, sym, ap, subst, ◌∙◌, arith, length-append}
use Rattle.std.specs.Prelude.{nat_lt, ◌==◌, ◌||◌}
use Rattle.std.specs.Option.{option_and_then}
use Rattle.std.specs.List.{list_any, position_or_len}
use Rattle.std.proofs.lemmas.Bool.Decides.{nat_tests}
use Rattle.std.proofs.Math.Seq.{take-append_seam}
use Rattle.ccr_base.proofs.Options.{some_then}
use Rattle.ccr_base.proofs.Booleans.{chosen}
use Rattle.ccr_base.specs.Lists.{has_number}
use Rattle.ccr_base.proofs.Lists.{drop_past}
use Rattle.ccr_text.specs.Names.{meaning_of}
use Rattle.ccr_text.specs.Fields.{Words, or_code, word}
use Rattle.ccr_wiretext.specs.Names.{as_port, as_set}
use Rattle.ccr_wiretext.specs.Drafts.{Declared, members_of}
use Rattle.ccr_wiretext.specs.Fields.{slash_index, member, set_port, port_at, port_of, port}
use Rattle.ccr_wiretext.specs.Grammar.{IsPlain, IsPort}
use Rattle.ccr_wiretext.proofs.ReadTellsSteps.{bind_ok, ok_is, or_code_ok}

abbrev is_slash : ℕ → Bool
is_slash b = b == 47

abbrev before : List ℕ → ℕ
before bytes = position_or_len is_slash bytes

-- the first slash splits the bytes
record IsSplit (bytes : List ℕ) : Type 0 where
  set : List ℕ
  name : List ℕ
  spelled : bytes ≡ set ++ 47 ∷ name
  plain : list_any is_slash set ≡ false
  index : before bytes ≡ length set

split_at : (bytes : List ℕ) → ((list_any is_slash bytes ≡ false) × (before bytes ≡ length bytes)) ⊎ IsSplit bytes
split_at [] = inl (refl, refl)
split_at (b ∷ bytes) = by (is_slash b) refl (split_at bytes)
  where
    by : (t : Bool) → is_slash b ≡ t → ((list_any is_slash bytes ≡ false) × (before bytes ≡ length bytes)) ⊎ IsSplit bytes
        → ((list_any is_slash (b ∷ bytes) ≡ false) × (before (b ∷ bytes) ≡ length (b ∷ bytes))) ⊎ IsSplit (b ∷ bytes)
    by true e rest = let is : b ≡ 47 = grind (arith, nat_tests, e) in
        inr (record { set = []; name = bytes; spelled = ap (λ (v : ℕ). v ∷ bytes) is; plain = refl; index = rw e refl })
    by false e (inl (plain, index)) = inl (rw (e, plain) refl, rw (e, index) (omega arith))
    by false e (inr split) = inr (record { set = b ∷ split.set; name = split.name; spelled = ap (λ (v : List ℕ). b ∷ v) split.spelled; plain = rw (e, split.plain) refl; index = rw (e, split.index) (omega arith) })

shorter : (set name : List ℕ) → length set < length (set ++ 47 ∷ name)
shorter set name = omega (arith, length-append {A = ℕ} set (47 ∷ name))

split_index : (word : List ℕ) (split : IsSplit word) → slash_index word ≡ Some (length split.set)
unfolding slash_index
split_index word split =
    let less : before word < length word = subst (λ w. before word < length w) (sym split.spelled) (subst (λ n. n < length (split.set ++ 47 ∷ split.name)) (sym split.index) (shorter split.set split.name)) in
    let test : nat_lt (before word) (length word) ≡ true = grind (arith, nat_tests, less) in
    rw test (ap Some split.index)

before_slash : (set name : List ℕ) → list_any is_slash set ≡ false → before (set ++ 47 ∷ name) ≡ length set
before_slash [] name plain = refl
before_slash (b ∷ set) name plain = by (is_slash b) refl plain (before_slash set name)
  where
    by : (t : Bool) → is_slash b ≡ t → (t || list_any is_slash set) ≡ false → (list_any is_slash set ≡ false → before (set ++ 47 ∷ name) ≡ length set) → before (b ∷ set ++ 47 ∷ name) ≡ length (b ∷ set)
    by true e f next = absurd cc
    by false e f next = rw (e, next f) (omega arith)

slash_at : (set name : List ℕ) → IsPlain set → slash_index (set ++ 47 ∷ name) ≡ Some (length set)
slash_at set name plain = split_index (set ++ 47 ∷ name) (record { set = set; name = name; spelled = refl; plain = plain; index = before_slash set name plain })

plain_none : (word : List ℕ) → IsPlain word → slash_index word ≡ None
unfolding slash_index
plain_none word plain = elim (split_at word) [
  | inl parts ↦ let test : nat_lt (before word) (length word) ≡ false = grind (arith, nat_tests, parts.1) in rw test refl
  | inr split ↦ absurd (slashed split.set split.name split.plain (ap (list_any is_slash) (sym split.spelled) ∙ plain))
]
  where
    slashed : (set name : List ℕ) → list_any is_slash set ≡ false → list_any is_slash (set ++ 47 ∷ name) ≡ false → ⊥
    slashed [] name e f = absurd cc
    slashed (b ∷ set) name e f = by (is_slash b) e f (slashed set name)
      where
        by : (t : Bool) → (t || list_any is_slash set) ≡ false → (t || list_any is_slash (set ++ 47 ∷ name)) ≡ false → (list_any is_slash set ≡ false → list_any is_slash (set ++ 47 ∷ name) ≡ false → ⊥) → ⊥
        by true e f next = absurd cc
        by false e f next = next e f

index_split : (word : List ℕ) (index : ℕ) → slash_index word ≡ Some index → (split : IsSplit word) × (index ≡ length split.set)
index_split word index e = elim (split_at word) [
  | inl parts ↦ absurd (let h : None ≡ Some index = sym (plain_none word parts.0) ∙ e in cc)
  | inr split ↦ (split, (let h : Some (length split.set) ≡ Some index = sym (split_index word split) ∙ e in cc))
]

port_is : (draft : Declared) (word : List ℕ) (n : ℕ) → port_of draft word ≡ Some n → IsPort draft word n
port_is draft word n e = by (slash_index word) refl e
  where
    by : (o : Option ℕ) → slash_index word ≡ o → port_at draft word o ≡ Some n → IsPort draft word n
    by None at h = inl (unslashed, h)
      where
        unslashed : IsPlain word
        unslashed = elim (split_at word) [ inl parts ↦ parts.0 | inr split ↦ absurd (let found : slash_index word ≡ Some (length split.set) = split_index word split in let h2 : None ≡ Some (length split.set) = sym at ∙ found in cc) ]
    by (Some index) at h =
        let split = index_split word index at in
        let set = some_then (set_port draft (drop (index + 1) word)) (option_and_then as_set (meaning_of draft.names (take index word))) n h in
        let other = some_then (member draft set.0) (option_and_then as_port (meaning_of draft.names (drop (index + 1) word))) n set.2 in
        let front : take index word ≡ split.0.set = ap (λ k. take k word) split.1 ∙ ap (take (length split.0.set)) split.0.spelled ∙ take-append_seam split.0.set (47 ∷ split.0.name) in
        let behind : drop (index + 1) word ≡ split.0.name = ap (λ k. drop (k + 1) word) split.1 ∙ ap (drop (length split.0.set + 1)) split.0.spelled ∙ drop_past split.0.set 47 split.0.name in
        elim (chosen (has_number (members_of draft set.0) other.0) (Some other.0) None (Some n) other.2) [
          | inl is ↦
              let same : other.0 ≡ n = (let s : Some other.0 ≡ Some n = is.1 in cc) in
              inr (record {
                set = split.0.set;
                name = split.0.name;
                spelled = split.0.spelled;
                plain = split.0.plain;
                number = set.0;
                in_set = subst (λ w. option_and_then as_set (meaning_of draft.names w) ≡ Some set.0) front set.1;
                in_names = subst (λ w. option_and_then as_port (meaning_of draft.names w) ≡ Some n) behind (other.1 ∙ ap Some same);
                member = subst (λ p. has_number (members_of draft set.0) p ≡ true) same is.0;
              })
          | inr is ↦ absurd (let s : None ≡ Some n = is.1 in cc)
        ]

port_means : (draft : Declared) (word : List ℕ) (n : ℕ) → IsPort draft word n → port_of draft word ≡ Some n
port_means draft word n (inl (plain, refers)) = rw (plain_none word plain) refers
port_means draft word n (inr said) =
    rw (said.spelled, slash_at said.set said.name said.plain, take-append_seam said.set (47 ∷ said.name), drop_past said.set 47 said.name, said.in_set, said.in_names, said.member) refl

-- PORT
pub port_said : (draft : Declared) (words : Words) (x : ℕ × Words) → port draft words ≡ Ok x → (name : List ℕ) × (words ≡ name ∷ x.1) × IsPort draft name x.0
unfolding port
port_said draft [] x e = absurd cc
port_said draft (name ∷ words) x e =
    let a = bind_ok (or_code (port_of draft name) 7) (λ number. Ok (number, words)) x e in
    subst (λ (y : ℕ × Words). (n : List ℕ) × (name ∷ words ≡ n ∷ y.1) × IsPort draft n y.0) (ok_is (a.0, words) x a.2) (name, refl, port_is draft name a.0 (or_code_ok _ 7 a.0 a.1))

pub port_read : (draft : Declared) (name : List ℕ) (n : ℕ) (rest : Words) → IsPort draft name n → port draft (name ∷ rest) ≡ Ok (n, rest)
unfolding port
port_read draft name n rest said = rw (port_means draft name n said) refl
