-- The fields of one word or two: what is read is in the grammar, and what is in the grammar is read.
use Rattle.std.proofs.Common.{◌≡◌, ℕ, true, List, [], ◌∷◌, ◌++◌, Option, Result, Ok, Err, inl, inr, refl, ap, subst, ◌∙◌, arith}
use Rattle.std.specs.Prelude.{nat_le, ◌&&◌, ◌==◌, not, is_some, codes}
use Rattle.std.specs.Option.{option_and_then}
use Rattle.std.specs.Str.{bytes_eq}
use Rattle.std.proofs.lemmas.Bool.Decides.{nat_tests}
use Rattle.ccr_base.specs.declared.policies.Policy.{Policy}
use Rattle.ccr_base.specs.declared.policies.Policy.TheVariants as policies
use Rattle.ccr_base.specs.declared.policies.Group.{Group}
use Rattle.ccr_base.specs.declared.policies.Group.TheVariants as groups
use Rattle.ccr_base.specs.declared.handlers.Expr.{Expr}
use Rattle.ccr_base.specs.declared.handlers.Expr.TheVariants as exprs
use Rattle.ccr_base.proofs.Texts.{same_word}
use Rattle.ccr_base.proofs.Booleans.{not_true, chosen}
use Rattle.ccr_base.proofs.Options.{none_is}
use Rattle.ccr_text.specs.Words.{number_of, is_name_of}
use Rattle.ccr_text.specs.Names.{meaning_of}
use Rattle.ccr_text.specs.Fields.{Words, ◌>>=◌, unless, or_code, word, number, number_within, policy}
use Rattle.ccr_wiring.specs.References.{no_interleave}
use Rattle.ccr_wiretext.specs.declared.named.Named.{Named}
use Rattle.ccr_wiretext.specs.Names.{Naming, as_arbiter}
use Rattle.ccr_wiretext.specs.Drafts.{Declared}
use Rattle.ccr_wiretext.specs.Fields.{new_name, reference, numbers_after, several, single, value_in, value, part, group, expr, interleave}
use Rattle.ccr_wiretext.specs.Grammar.{IsNew, Refers, IsNumber, IsWithin, IsPolicy, IsGroup, IsValueWord, IsExpr, IsInterleave}
use Rattle.ccr_wiretext.proofs.ReadTellsSteps.{bind_ok, ok_is, unless_ok, or_code_ok, word_ok}
use Rattle.ccr_wiretext.proofs.Each.{both}
use Rattle.ccr_wiretext.proofs.ValuesRead.{value_in_said, value_in_read, no_value}

-- NAME
pub new_name_said : (names : Naming) (words : Words) (x : List ℕ × Words) → new_name names words ≡ Ok x → (words ≡ x.0 ∷ x.1) × IsNew names x.0
unfolding new_name
new_name_said names words x e =
    let a = bind_ok (word words) (λ name. unless (is_name_of name.0) 14 >>= λ formed. unless (not (is_some (meaning_of names name.0))) 6 >>= λ new. Ok name) x e in
    let b = bind_ok (unless (is_name_of a.0.0) 14) (λ formed. unless (not (is_some (meaning_of names a.0.0))) 6 >>= λ new. Ok a.0) x a.2 in
    let c = bind_ok (unless (not (is_some (meaning_of names a.0.0))) 6) (λ new. Ok a.0) x b.2 in
    subst (λ (y : List ℕ × Words). (words ≡ y.0 ∷ y.1) × IsNew names y.0) (ok_is a.0 x c.2)
    (word_ok words a.0 a.1, record { formed = unless_ok _ 14 b.0 b.1; new = none_is _ (unless_ok _ 6 c.0 c.1) })

pub new_name_read : (names : Naming) (name : List ℕ) (rest : Words) → IsNew names name → new_name names (name ∷ rest) ≡ Ok (name, rest)
unfolding new_name
new_name_read names name rest said = rw (said.formed, said.new) refl

-- a name that is referred to
pub reference_said : (as_kind : Named → Option ℕ) (names : Naming) (words : Words) (x : ℕ × Words) → reference as_kind names words ≡ Ok x
    → (name : List ℕ) × (words ≡ name ∷ x.1) × Refers as_kind names name x.0
unfolding reference
reference_said as_kind names [] x e = absurd cc
reference_said as_kind names (name ∷ words) x e =
    let a = bind_ok (or_code (option_and_then as_kind (meaning_of names name)) 7) (λ number. Ok (number, words)) x e in
    subst (λ (y : ℕ × Words). (n : List ℕ) × (name ∷ words ≡ n ∷ y.1) × Refers as_kind names n y.0) (ok_is (a.0, words) x a.2) (name, refl, or_code_ok _ 7 a.0 a.1)

pub reference_read : (as_kind : Named → Option ℕ) (names : Naming) (name : List ℕ) (number : ℕ) (rest : Words) → Refers as_kind names name number
    → reference as_kind names (name ∷ rest) ≡ Ok (number, rest)
unfolding reference
reference_read as_kind names name number rest said = rw said refl

-- N
pub number_said : (words : Words) (x : ℕ × Words) → number words ≡ Ok x → (digits : List ℕ) × (words ≡ digits ∷ x.1) × IsNumber digits x.0
unfolding number
number_said [] x e = absurd cc
number_said (digits ∷ words) x e =
    let a = bind_ok (or_code (number_of digits) 5) (λ value. Ok (value, words)) x e in
    subst (λ (y : ℕ × Words). (ds : List ℕ) × (digits ∷ words ≡ ds ∷ y.1) × IsNumber ds y.0) (ok_is (a.0, words) x a.2) (digits, refl, or_code_ok _ 5 a.0 a.1)

pub number_read : (digits : List ℕ) (n : ℕ) (rest : Words) → IsNumber digits n → number (digits ∷ rest) ≡ Ok (n, rest)
unfolding number
number_read digits n rest said = rw said refl

-- N within bounds
pub within_said : (low high : ℕ) (words : Words) (x : ℕ × Words) → number_within low high words ≡ Ok x → (digits : List ℕ) × (words ≡ digits ∷ x.1) × IsWithin low high digits x.0
unfolding number_within
within_said low high words x e =
    let a = bind_ok (number words) (λ value. unless (nat_le low value.0 && nat_le value.0 high) 10 >>= λ within. Ok value) x e in
    let c = bind_ok (unless (nat_le low a.0.0 && nat_le a.0.0 high) 10) (λ within. Ok a.0) x a.2 in
    let test = unless_ok (nat_le low a.0.0 && nat_le a.0.0 high) 10 c.0 c.1 in
    let said = number_said words a.0 a.1 in
    subst (λ (y : ℕ × Words). (ds : List ℕ) × (words ≡ ds ∷ y.1) × IsWithin low high ds y.0) (ok_is a.0 x c.2)
    (said.0, said.1, record { value = said.2; above = grind (arith, nat_tests, test); below = grind (arith, nat_tests, test) })

pub within_read : (low high : ℕ) (digits : List ℕ) (n : ℕ) (rest : Words) → IsWithin low high digits n → number_within low high (digits ∷ rest) ≡ Ok (n, rest)
unfolding number_within
within_read low high digits n rest said =
    let test : (nat_le low n && nat_le n high) ≡ true = grind (arith, nat_tests, said.above, said.below) in
    rw (number_read digits n rest said.value, test) refl

abbrev pub limit_as : {X : Type 0} → (ℕ → X) → ℕ × Words → Result (X × Words) ℕ
limit_as make limit = Ok (make limit.0, limit.1)

-- a value with a number within bounds
pub bounded_said : {X : Type 0} (low high : ℕ) (make : ℕ → X) (words : Words) (x : X × Words) → (number_within low high words >>= limit_as make) ≡ Ok x
    → (n : ℕ) × (digits : List ℕ) × (words ≡ digits ∷ x.1) × IsWithin low high digits n × (make n ≡ x.0)
bounded_said {X} low high make words x e =
    let a = bind_ok (number_within low high words) (limit_as make) x e in
    let said = within_said low high words a.0 a.1 in
    let same = ok_is (make a.0.0, a.0.1) x a.2 in
    (a.0.0, said.0, said.1 ∙ ap (λ (p : X × Words). said.0 ∷ p.1) same, said.2, ap (λ (p : X × Words). p.0) same)

-- a value with any number
pub numbered_said : {X : Type 0} (make : ℕ → X) (words : Words) (x : X × Words) → (number words >>= limit_as make) ≡ Ok x
    → (n : ℕ) × (digits : List ℕ) × (words ≡ digits ∷ x.1) × IsNumber digits n × (make n ≡ x.0)
numbered_said {X} make words x e =
    let a = bind_ok (number words) (limit_as make) x e in
    let said = number_said words a.0 a.1 in
    let same = ok_is (make a.0.0, a.0.1) x a.2 in
    (a.0.0, said.0, said.1 ∙ ap (λ (p : X × Words). said.0 ∷ p.1) same, said.2, ap (λ (p : X × Words). p.0) same)

-- a keyword and a number
pub keyed : (w : List ℕ) (text : List ℕ) (digits : List ℕ) → bytes_eq w text ≡ true → w ∷ digits ∷ [] ≡ text ∷ digits ∷ []
keyed w text digits e = ap (λ (v : List ℕ). v ∷ digits ∷ []) (same_word w text e)

-- POLICY
pub policy_said : (words : Words) (x : Policy × Words) → policy 1000 words ≡ Ok x → (front : Words) × (words ≡ front ++ x.1) × IsPolicy front x.0
unfolding policy
policy_said [] x e = absurd cc
policy_said (w ∷ words) x e = elim (chosen (bytes_eq w (codes "unbounded")) (Ok (policies.Unbounded, words)) _ (Ok x) e) [
  | inl here ↦
      subst (λ (y : Policy × Words). (front : Words) × (w ∷ words ≡ front ++ y.1) × IsPolicy front y.0) (ok_is (policies.Unbounded, words) x here.1)
      (w ∷ [], refl, ap (λ (v : List ℕ). v ∷ []) (same_word w (codes "unbounded") here.0))
  | inr other1 ↦ elim (chosen (bytes_eq w (codes "discard")) (number_within 1 1000 words >>= limit_as policies.Discard) _ (Ok x) other1.1) [
    | inl here ↦
        let said = bounded_said 1 1000 policies.Discard words x here.1 in
        (w ∷ said.1 ∷ [], ap (λ (v : Words). w ∷ v) said.2, subst (IsPolicy (w ∷ said.1 ∷ [])) said.4 (said.1, keyed w (codes "discard") said.1 here.0, said.3))
    | inr other2 ↦ elim (chosen (bytes_eq w (codes "throttle")) (number_within 1 1000 words >>= limit_as policies.Throttle) _ (Ok x) other2.1) [
      | inl here ↦
          let said = bounded_said 1 1000 policies.Throttle words x here.1 in
          (w ∷ said.1 ∷ [], ap (λ (v : Words). w ∷ v) said.2, subst (IsPolicy (w ∷ said.1 ∷ [])) said.4 (said.1, keyed w (codes "throttle") said.1 here.0, said.3))
      | inr other3 ↦ absurd (let h : Err 3 ≡ Ok x = other3.1 in cc)
    ]
  ]
]

pub policy_read : (front : Words) (p : Policy) (rest : Words) → IsPolicy front p → policy 1000 (front ++ rest) ≡ Ok (p, rest)
unfolding policy
policy_read front policies.Unbounded rest said = rw said refl
policy_read front (policies.Discard n) rest said = rw (said.1, within_read 1 1000 said.0 n rest said.2) refl
policy_read front (policies.Throttle n) rest said = rw (said.1, within_read 1 1000 said.0 n rest said.2) refl

-- once or always
pub group_said : (words : Words) (x : Group × Words) → group words ≡ Ok x → (word : List ℕ) × (words ≡ word ∷ x.1) × IsGroup word x.0
unfolding group
group_said [] x e = absurd cc
group_said (w ∷ words) x e = elim (chosen (bytes_eq w (codes "once")) (Ok (groups.Once, words)) _ (Ok x) e) [
  | inl here ↦
      subst (λ (y : Group × Words). (v : List ℕ) × (w ∷ words ≡ v ∷ y.1) × IsGroup v y.0) (ok_is (groups.Once, words) x here.1) (w, refl, same_word w (codes "once") here.0)
  | inr other1 ↦ elim (chosen (bytes_eq w (codes "always")) (Ok (groups.Always, words)) _ (Ok x) other1.1) [
    | inl here ↦
        subst (λ (y : Group × Words). (v : List ℕ) × (w ∷ words ≡ v ∷ y.1) × IsGroup v y.0) (ok_is (groups.Always, words) x here.1) (w, refl, same_word w (codes "always") here.0)
    | inr other2 ↦ absurd (let h : Err 3 ≡ Ok x = other2.1 in cc)
  ]
]

pub group_read : (word : List ℕ) (g : Group) (rest : Words) → IsGroup word g → group (word ∷ rest) ≡ Ok (g, rest)
unfolding group
group_read word groups.Once rest said = rw said refl
group_read word groups.Always rest said = rw said refl
group_read word groups.Choice rest said = absurd said
group_read word groups.Teardown rest said = absurd said
group_read word groups.Exclusive rest said = absurd said
group_read word groups.Concurrent rest said = absurd said

-- an Interleave
pub interleave_said : (draft : Declared) (words : Words) (x : ℕ × Words) → interleave draft words ≡ Ok x → (word : List ℕ) × (words ≡ word ∷ x.1) × IsInterleave draft word x.0
unfolding interleave
interleave_said draft words x e =
    let a = bind_ok (reference as_arbiter draft.names words) (λ arbiter. unless (not (no_interleave draft.parts arbiter.0)) 7 >>= λ kind. Ok arbiter) x e in
    let b = bind_ok (unless (not (no_interleave draft.parts a.0.0)) 7) (λ kind. Ok a.0) x a.2 in
    let said = reference_said as_arbiter draft.names words a.0 a.1 in
    subst (λ (y : ℕ × Words). (word : List ℕ) × (words ≡ word ∷ y.1) × IsInterleave draft word y.0) (ok_is a.0 x b.2) (said.0, said.1, (said.2, not_true _ (unless_ok _ 7 b.0 b.1)))

pub interleave_read : (draft : Declared) (word : List ℕ) (n : ℕ) (rest : Words) → IsInterleave draft word n → interleave draft (word ∷ rest) ≡ Ok (n, rest)
unfolding interleave
interleave_read draft word n rest said = rw (reference_read as_arbiter draft.names word n rest said.0, said.1) refl

-- VALUE
pub value_said : (version : ℕ) (words : Words) (x : List ℕ × Words) → value version words ≡ Ok x → (word : List ℕ) × (words ≡ word ∷ x.1) × IsValueWord version word x.0
unfolding value
value_said version [] x e = absurd cc
value_said version (w ∷ words) x e =
    let a = bind_ok (value_in version w) (λ numbers. Ok (numbers, words)) x e in
    subst (λ (y : List ℕ × Words). (word : List ℕ) × (w ∷ words ≡ word ∷ y.1) × IsValueWord version word y.0) (ok_is (a.0, words) x a.2) (w, refl, value_in_said version w a.0 a.1)

pub value_read : (version : ℕ) (word numbers : List ℕ) (rest : Words) → IsValueWord version word numbers → value version (word ∷ rest) ≡ Ok (numbers, rest)
unfolding value
value_read version word numbers rest said = rw (value_in_read version word numbers said) refl

-- what is told of the two numbers behind `part`
record IsTwo (words : Words) (x : Expr × Words) : Type 0 where
  message : ℕ
  index : ℕ
  first : List ℕ
  second : List ℕ
  spelled : words ≡ first ∷ second ∷ x.1
  counted : IsWithin 0 65535 first message
  within : IsWithin 0 7 second index
  is : exprs.Part message index ≡ x.0

part_said : (words : Words) (x : Expr × Words) → part words ≡ Ok x → IsTwo words x
unfolding part
part_said words x e =
    let a = bind_ok (number_within 0 65535 words) _ x e in
    let b = bind_ok (number_within 0 7 a.0.1) _ x a.2 in
    let one = within_said 0 65535 words a.0 a.1 in
    let two = within_said 0 7 a.0.1 b.0 b.1 in
    let same : (exprs.Part a.0.0 b.0.0, b.0.1) ≡ x = ok_is (exprs.Part a.0.0 b.0.0, b.0.1) x b.2 in
    record {
      message = a.0.0;
      index = b.0.0;
      first = one.0;
      second = two.0;
      spelled = one.1 ∙ ap (λ (v : Words). one.0 ∷ v) two.1 ∙ ap (λ (p : Expr × Words). one.0 ∷ two.0 ∷ p.1) same;
      counted = one.2;
      within = two.2;
      is = ap (λ (p : Expr × Words). p.0) same;
    }

part_read : (first second : List ℕ) (message index : ℕ) (rest : Words) → IsWithin 0 65535 first message → IsWithin 0 7 second index → part (first ∷ second ∷ rest) ≡ Ok (exprs.Part message index, rest)
unfolding part
part_read first second message index rest counted within = rw (within_read 0 65535 first message (second ∷ rest) counted, within_read 0 7 second index rest within) refl

-- EXPR
pub expr_said : (version : ℕ) (words : Words) (x : Expr × Words) → expr version words ≡ Ok x → (front : Words) × (words ≡ front ++ x.1) × IsExpr version front x.0
unfolding expr
expr_said version [] x e = absurd cc
expr_said version (w ∷ words) x e = elim (chosen (bytes_eq w (codes "sum")) (Ok (exprs.Sum, words)) _ (Ok x) e) [
  | inl here ↦
      subst (λ (y : Expr × Words). (front : Words) × (w ∷ words ≡ front ++ y.1) × IsExpr version front y.0) (ok_is (exprs.Sum, words) x here.1)
      (w ∷ [], refl, ap (λ (v : List ℕ). v ∷ []) (same_word w (codes "sum") here.0))
  | inr other1 ↦ elim (chosen (bytes_eq w (codes "count")) (Ok (exprs.Count, words)) _ (Ok x) other1.1) [
    | inl here ↦
        subst (λ (y : Expr × Words). (front : Words) × (w ∷ words ≡ front ++ y.1) × IsExpr version front y.0) (ok_is (exprs.Count, words) x here.1)
        (w ∷ [], refl, ap (λ (v : List ℕ). v ∷ []) (same_word w (codes "count") here.0))
    | inr other2 ↦ elim (chosen (bytes_eq w (codes "arg")) (number_within 0 65535 words >>= limit_as exprs.Arg) _ (Ok x) other2.1) [
      | inl here ↦
          let said = bounded_said 0 65535 exprs.Arg words x here.1 in
          (w ∷ said.1 ∷ [], ap (λ (v : Words). w ∷ v) said.2, subst (IsExpr version (w ∷ said.1 ∷ [])) said.4 (said.1, keyed w (codes "arg") said.1 here.0, said.3))
      | inr other3 ↦ elim (chosen (bytes_eq w (codes "part") && (version == 2)) (part words) _ (Ok x) other3.1) [
        | inl here ↦
            let said = part_said words x here.1 in
            let tests = both (bytes_eq w (codes "part")) (version == 2) here.0 in (
              w ∷ said.first ∷ said.second ∷ [],
              ap (λ (v : Words). w ∷ v) said.spelled,
              subst (IsExpr version (w ∷ said.first ∷ said.second ∷ [])) said.is (record {
                newer = tests.1;
                first = said.first;
                second = said.second;
                spelled = ap (λ (v : List ℕ). v ∷ said.first ∷ said.second ∷ []) (same_word w (codes "part") tests.0);
                counted = said.counted;
                within = said.within;
              }),
            )
        | inr other4 ↦
            let a = bind_ok (value_in version w) (λ numbers. Ok (exprs.Number numbers, words)) x other4.1 in
            subst (λ (y : Expr × Words). (front : Words) × (w ∷ words ≡ front ++ y.1) × IsExpr version front y.0) (ok_is (exprs.Number a.0, words) x a.2)
            (w ∷ [], refl, (w, refl, value_in_said version w a.0 a.1))
      ]
    ]
  ]
]

-- keywords are no values
sum_none : (several (codes "sum") ≡ Err 5) × (single (codes "sum") ≡ Err 5)
unfolding several numbers_after single
sum_none = (refl, refl)

count_none : (several (codes "count") ≡ Err 5) × (single (codes "count") ≡ Err 5)
unfolding several numbers_after single
count_none = (refl, refl)

arg_none : (several (codes "arg") ≡ Err 5) × (single (codes "arg") ≡ Err 5)
unfolding several numbers_after single
arg_none = (refl, refl)

part_none : (several (codes "part") ≡ Err 5) × (single (codes "part") ≡ Err 5)
unfolding several numbers_after single
part_none = (refl, refl)

number_expr : (version : ℕ) (word value : List ℕ) (rest : Words) → IsValueWord version word value → expr version (word ∷ rest) ≡ Ok (exprs.Number value, rest)
unfolding expr
number_expr version word value rest said =
    let not_sum = no_value version word value (codes "sum") said sum_none.0 sum_none.1 in
    let not_count = no_value version word value (codes "count") said count_none.0 count_none.1 in
    let not_arg = no_value version word value (codes "arg") said arg_none.0 arg_none.1 in
    let not_part = no_value version word value (codes "part") said part_none.0 part_none.1 in
    rw (not_sum, not_count, not_arg, not_part, value_in_read version word value said) refl

pub expr_read : (version : ℕ) (front : Words) (value : Expr) (rest : Words) → IsExpr version front value → expr version (front ++ rest) ≡ Ok (value, rest)
unfolding expr
expr_read version front (exprs.Number value) rest said = ap (λ (v : Words). expr version (v ++ rest)) said.1 ∙ number_expr version said.0 value rest said.2
expr_read version front (exprs.Part message index) rest said = rw (said.spelled, said.newer, part_read said.first said.second message index rest said.counted said.within) refl
expr_read version front (exprs.Arg k) rest said = rw (said.1, within_read 0 65535 said.0 k rest said.2) refl
expr_read version front exprs.Sum rest said = rw said refl
expr_read version front exprs.Count rest said = rw said refl
