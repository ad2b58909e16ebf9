-- Numbers that are taken one behind another.
use Rattle.std.proofs.Common.{◌≡◌, ℕ, ◌^◌, ◌<◌, ◌≤◌, true, false, cond, List, [], ◌∷◌, ◌++◌, length, Option, Some, None, refl, sym, ap, ◌∙◌, arith}
use Rattle.std.specs.Prelude.{◌==◌, nat_lt, nat_le}
use Rattle.std.specs.Option.{option_map}
use Rattle.std.proofs.lemmas.Bool.Decides.{nat_tests}
use Rattle.ccr_base.specs.declared.names.MsgId.TheVariants as ids
use Rattle.ccr_text.specs.Exact.{number_first}
use Rattle.ccr_trace.specs.Fields.{◌>>=◌, each, where_short, where_few, values_in, exact_number, short_number, task_in, script_in, task_message_in}
use Rattle.ccr_trace.specs.Forms.{field}
use Rattle.ccr_text.specs.Fields.{Words}
use Rattle.ccr_text.proofs.Parts.{parts_some}
use Rattle.ccr_trace.proofs.ReadTellsSteps.{field_some}
use Rattle.ccr_trace.specs.Pieces.{pieces}
use Rattle.ccr_trace.proofs.Each.{behind_found, each_more}
use Rattle.ccr_trace.proofs.Valued.{length-each, one_too_many, no_number, all_read}
use Rattle.ccr_base.specs.Values.{value_of_numbers}

abbrev behind : {A : Type 0} → Words → A → A × Words
behind words x = (x, words)

some_left : (word : List ℕ) (words : Words) → (length (word ∷ words) == 0) ≡ false
some_left word words = grind (arith, nat_tests)

-- the first word is a number
pub number_field : (words : Words) → number_first words ≡ field exact_number words
unfolding exact_number
number_field [] = refl
number_field (word ∷ words) = by (exact_number word)
  where
    by : (found : Option ℕ) → option_map (behind words) found ≡ (found >>= λ n. Some (behind words n))
    by None = refl
    by (Some n) = refl

field_none : {A : Type 0} (read : List ℕ → Option A) (word : List ℕ) (words : Words) → field read (word ∷ words) ≡ None → read word ≡ None
field_none {A = A} read word words e = by (read word) e
  where
    by : (found : Option A) → (found >>= λ x. Some (behind words x)) ≡ None → found ≡ None
    by None e' = refl
    by (Some x) e' = absurd cc

-- a number that is short
pub short_field : (words rest : Words) (n : ℕ) → field exact_number words ≡ Some (n, rest) → field short_number words ≡ (where_short n >>= λ m. Some (m, rest))
unfolding short_number
short_field words rest n e =
    let first = field_some exact_number words (n, rest) e in
    rw (first.1, first.2) refl

pub short_none : (words : Words) → field exact_number words ≡ None → field short_number words ≡ None
unfolding short_number
short_none [] e = refl
short_none (word ∷ words) e = rw (field_none exact_number word words e) refl

pub field_short : (words rest : Words) (n : ℕ) → field exact_number words ≡ Some (n, rest) → n < 2 ^ 32 → field short_number words ≡ Some (n, rest)
field_short words rest n e small =
    let test : nat_lt n (2 ^ 32) ≡ true = grind (arith, nat_tests, small) in
    short_field words rest n e ∙ rw test refl

pub field_long : (words rest : Words) (n : ℕ) → field exact_number words ≡ Some (n, rest) → 2 ^ 32 ≤ n → field short_number words ≡ None
field_long words rest n e large =
    let test : nat_lt n (2 ^ 32) ≡ false = grind (arith, nat_tests, large) in
    short_field words rest n e ∙ rw test refl

-- A.K of a task, where these words are left behind both
pub task_numbers : (words second rest : Words) (a k : ℕ) → field short_number words ≡ Some (a, second) → field short_number second ≡ Some (k, rest)
    → task_in words ≡ cond (length rest == 0) (Some (record { actor = a; attempt = k })) None
task_numbers words second rest a k e f =
    let first = field_some short_number words (a, second) e in
    let next = field_some short_number second (k, rest) f in
    ap task_in (first.1 ∙ ap (λ (ws : Words). first.0 ∷ ws) next.1) ∙ by rest
  where
    by : (left : Words) → task_in ((field_some short_number words (a, second) e).0 ∷ (field_some short_number second (k, rest) f).0 ∷ left) ≡ cond (length left == 0) (Some (record { actor = a; attempt = k })) None
    by [] = rw ((field_some short_number words (a, second) e).2, (field_some short_number second (k, rest) f).2) refl
    by (w ∷ left) = rw (some_left w left) refl

pub task_no_first : (words : Words) → field short_number words ≡ None → task_in words ≡ None
task_no_first [] e = refl
task_no_first (a ∷ []) e = refl
task_no_first (a ∷ k ∷ []) e = rw (field_none short_number a (k ∷ []) e) refl
task_no_first (a ∷ k ∷ i ∷ words) e = refl

pub task_no_second : (words second : Words) (a : ℕ) → field short_number words ≡ Some (a, second) → field short_number second ≡ None → task_in words ≡ None
task_no_second words second a e f =
    let first = field_some short_number words (a, second) e in
    ap task_in first.1 ∙ by second f
  where
    by : (left : Words) → field short_number left ≡ None → task_in ((field_some short_number words (a, second) e).0 ∷ left) ≡ None
    by [] g = refl
    by (k ∷ []) g = rw ((field_some short_number words (a, second) e).2, field_none short_number k [] g) refl
    by (k ∷ i ∷ left) g = refl

-- A.K of a script
pub script_numbers : (words second rest : Words) (a k : ℕ) → field short_number words ≡ Some (a, second) → field short_number second ≡ Some (k, rest)
    → script_in words ≡ cond (length rest == 0) (Some (ids.Script a k)) None
script_numbers words second rest a k e f =
    let first = field_some short_number words (a, second) e in
    let next = field_some short_number second (k, rest) f in
    ap script_in (first.1 ∙ ap (λ (ws : Words). first.0 ∷ ws) next.1) ∙ by rest
  where
    by : (left : Words) → script_in ((field_some short_number words (a, second) e).0 ∷ (field_some short_number second (k, rest) f).0 ∷ left) ≡ cond (length left == 0) (Some (ids.Script a k)) None
    by [] = rw ((field_some short_number words (a, second) e).2, (field_some short_number second (k, rest) f).2) refl
    by (w ∷ left) = rw (some_left w left) refl

pub script_no_first : (words : Words) → field short_number words ≡ None → script_in words ≡ None
script_no_first [] e = refl
script_no_first (a ∷ []) e = refl
script_no_first (a ∷ k ∷ []) e = rw (field_none short_number a (k ∷ []) e) refl
script_no_first (a ∷ k ∷ i ∷ words) e = refl

pub script_no_second : (words second : Words) (a : ℕ) → field short_number words ≡ Some (a, second) → field short_number second ≡ None → script_in words ≡ None
script_no_second words second a e f =
    let first = field_some short_number words (a, second) e in
    ap script_in first.1 ∙ by second f
  where
    by : (left : Words) → field short_number left ≡ None → script_in ((field_some short_number words (a, second) e).0 ∷ left) ≡ None
    by [] g = refl
    by (k ∷ []) g = rw ((field_some short_number words (a, second) e).2, field_none short_number k [] g) refl
    by (k ∷ i ∷ left) g = refl

-- A.K.I
pub task_message_numbers : (words second third rest : Words) (a k i : ℕ) → field short_number words ≡ Some (a, second) → field short_number second ≡ Some (k, third) → field short_number third ≡ Some (i, rest)
    → task_message_in words ≡ cond (length rest == 0) (Some (ids.Task (record { actor = a; attempt = k }) i)) None
task_message_numbers words second third rest a k i e f g =
    let first = field_some short_number words (a, second) e in
    let next = field_some short_number second (k, third) f in
    let last = field_some short_number third (i, rest) g in
    ap task_message_in (first.1 ∙ ap (λ (ws : Words). first.0 ∷ ws) (next.1 ∙ ap (λ (ws : Words). next.0 ∷ ws) last.1)) ∙ by rest
  where
    by : (left : Words) → task_message_in ((field_some short_number words (a, second) e).0 ∷ (field_some short_number second (k, third) f).0 ∷ (field_some short_number third (i, rest) g).0 ∷ left)
        ≡ cond (length left == 0) (Some (ids.Task (record { actor = a; attempt = k }) i)) None
    by [] = rw ((field_some short_number words (a, second) e).2, (field_some short_number second (k, third) f).2, (field_some short_number third (i, rest) g).2) refl
    by (w ∷ left) = rw (some_left w left) refl

pub task_message_no_first : (words : Words) → field short_number words ≡ None → task_message_in words ≡ None
task_message_no_first [] e = refl
task_message_no_first (a ∷ []) e = refl
task_message_no_first (a ∷ k ∷ []) e = refl
task_message_no_first (a ∷ k ∷ i ∷ []) e = rw (field_none short_number a (k ∷ i ∷ []) e) refl
task_message_no_first (a ∷ k ∷ i ∷ j ∷ words) e = refl

pub task_message_no_second : (words second : Words) (a : ℕ) → field short_number words ≡ Some (a, second) → field short_number second ≡ None → task_message_in words ≡ None
task_message_no_second words second a e f =
    let first = field_some short_number words (a, second) e in
    ap task_message_in first.1 ∙ by second f
  where
    by : (left : Words) → field short_number left ≡ None → task_message_in ((field_some short_number words (a, second) e).0 ∷ left) ≡ None
    by [] g = refl
    by (k ∷ []) g = refl
    by (k ∷ i ∷ []) g = rw ((field_some short_number words (a, second) e).2, field_none short_number k (i ∷ []) g) refl
    by (k ∷ i ∷ j ∷ left) g = refl

pub task_message_no_third : (words second third : Words) (a k : ℕ) → field short_number words ≡ Some (a, second) → field short_number second ≡ Some (k, third) → field short_number third ≡ None → task_message_in words ≡ None
task_message_no_third words second third a k e f g =
    let first = field_some short_number words (a, second) e in
    let next = field_some short_number second (k, third) f in
    ap task_message_in (first.1 ∙ ap (λ (ws : Words). first.0 ∷ ws) next.1) ∙ by third g
  where
    by : (left : Words) → field short_number left ≡ None → task_message_in ((field_some short_number words (a, second) e).0 ∷ (field_some short_number second (k, third) f).0 ∷ left) ≡ None
    by [] h = refl
    by (i ∷ []) h = rw ((field_some short_number words (a, second) e).2, (field_some short_number second (k, third) f).2, field_none short_number i [] h) refl
    by (i ∷ j ∷ left) h = refl

-- the value of one number
abbrev one_of : Words → Option (List ℕ)
one_of words = each exact_number words >>= where_few 1

pub one_number : (words rest : Words) (n : ℕ) → field exact_number words ≡ Some (n, rest) → one_of words ≡ cond (length rest == 0) (Some (n ∷ [])) None
unfolding each
one_number words rest n e =
    let first = field_some exact_number words (n, rest) e in
    ap one_of first.1 ∙ by rest
  where
    head : List ℕ
    head = (field_some exact_number words (n, rest) e).0

    many : (w : List ℕ) (left : Words) (found : Option (List ℕ)) → each exact_number (head ∷ w ∷ left) ≡ found → (found >>= where_few 1) ≡ None
    many w left None is = refl
    many w left (Some numbers) is =
        let count = length-each exact_number (head ∷ w ∷ left) numbers is in
        let over : nat_le (length numbers) 1 ≡ false = grind (arith, nat_tests, count) in
        rw over refl

    by : (left : Words) → one_of (head ∷ left) ≡ cond (length left == 0) (Some (n ∷ [])) None
    by [] = rw ((field_some exact_number words (n, rest) e).2) refl
    by (w ∷ left) = rw (some_left w left) (many w left (each exact_number (head ∷ w ∷ left)) refl)

pub no_number_first : (words : Words) → (length words == 0) ≡ false → field exact_number words ≡ None → one_of words ≡ None
unfolding each
no_number_first [] some e = absurd cc
no_number_first (word ∷ words) some e = rw (field_none exact_number word words e) refl

-- the pieces of a word that is one number, and of one that isn't
pub single_is : (word : List ℕ) (words rest : Words) (n : ℕ) → words ≡ pieces 44 word → field exact_number words ≡ Some (n, rest) → (length rest == 0) ≡ true → values_in 1 word ≡ Some (n ∷ [])
single_is word words rest n is e none = ap one_of (sym is) ∙ one_number words rest n e ∙ rw none refl

pub single_more : (word : List ℕ) (words rest : Words) (n : ℕ) → words ≡ pieces 44 word → field exact_number words ≡ Some (n, rest) → (length rest == 0) ≡ false → values_in 1 word ≡ None
single_more word words rest n is e some = ap one_of (sym is) ∙ one_number words rest n e ∙ rw some refl

pub single_fails : (word : List ℕ) (words : Words) → words ≡ pieces 44 word → field exact_number words ≡ None → values_in 1 word ≡ None
single_fails word words is e = ap one_of (sym is) ∙ no_number_first words (ap (λ (ps : Words). length ps == 0) is ∙ parts_some 44 word) e

-- the numbers so far, and those of the pieces that are left
abbrev pub IsBehind : List ℕ → Words → List ℕ → Type 0
IsBehind found left word = behind_found found (each exact_number left) ≡ each exact_number (pieces 44 word)

-- one number more
pub several_more : (found : List ℕ) (left rest : Words) (word : List ℕ) (n : ℕ) → field exact_number left ≡ Some (n, rest) → IsBehind found left word → IsBehind (found ++ n ∷ []) rest word
several_more found left rest word n e so =
    let first = field_some exact_number left (n, rest) e in
    sym (each_more exact_number found first.0 rest n first.2) ∙ ap (λ (ps : Words). behind_found found (each exact_number ps)) (sym first.1) ∙ so

-- a piece that is no number
pub several_fails : (most : ℕ) (found : List ℕ) (left : Words) (word : List ℕ) → (length left == 0) ≡ false → field exact_number left ≡ None → IsBehind found left word → values_in most word ≡ None
several_fails most found [] word some e so = absurd cc
several_fails most found (piece ∷ left) word some e so = no_number most word found piece left so (field_none exact_number piece left e)

-- one number more than there may be
pub several_full : (most : ℕ) (found : List ℕ) (left : Words) (word : List ℕ) → (length left == 0) ≡ false → length found ≡ most → IsBehind found left word → values_in most word ≡ None
several_full most found [] word some full so = absurd cc
several_full most found (piece ∷ left) word some full so = one_too_many most word found piece left full so

-- no piece is left
pub several_end : (found : List ℕ) (left : Words) (word : List ℕ) → (length left == 0) ≡ true → length found ≤ 8 → IsBehind found left word → value_of_numbers found ≡ values_in 8 word
several_end found [] word none few so = all_read word found few so
several_end found (piece ∷ left) word none few so = absurd (let clash : false ≡ true = sym (some_left piece left) ∙ none in cc)

pub ruleset task_steps = (task_numbers, task_no_first, task_no_second)

pub ruleset script_steps = (script_numbers, script_no_first, script_no_second)

pub ruleset task_message_steps = (task_message_numbers, task_message_no_first, task_message_no_second, task_message_no_third)
