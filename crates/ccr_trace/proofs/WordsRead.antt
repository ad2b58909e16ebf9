-- A word that is spelled is read again.
use Rattle.std.proofs.Common.{◌≡◌, ℕ, suc, ◌^◌, ◌<◌, true, false, List, [], ◌∷◌, ◌++◌, length, map, Option, Some, None, refl, sym, ap, subst, ◌∙◌, append_assoc, append-nil, arith}
use Rattle.std.specs.Prelude.{◌&&◌, nat_lt, nat_le, decimal}
use Rattle.std.specs.List.{All, list_all}
use Rattle.std.specs.Char.{is_ascii_digit, is_ascii_alphabetic}
use Rattle.std.proofs.lemmas.Bool.Decides.{nat_tests}
use Rattle.std.proofs.lemmas.List.Elements.{recursion_from_All}
use Rattle.ccr_base.specs.declared.names.TaskId.{TaskId}
use Rattle.ccr_base.specs.declared.names.MsgId.{MsgId}
use Rattle.ccr_base.specs.declared.names.MsgId.TheVariants as ids
use Rattle.ccr_base.proofs.Texts.{same_text}
use Rattle.ccr_base.proofs.Lists.{all_weaker, all_both}
use Rattle.ccr_text.specs.Words.{is_graphic, may_be_in_name}
use Rattle.ccr_trace.specs.Words.{task_word, message_word}
use Rattle.ccr_text.specs.Exact.{value_word}
use Rattle.ccr_text.proofs.Digits.{AreReadAgain}
use Rattle.ccr_text.proofs.Parts.{lacks, part_before, part_alone, lacks_tested}
use Rattle.ccr_text.proofs.Decimals.{digits_alone}
use Rattle.ccr_trace.specs.Pieces.{pieces}
use Rattle.ccr_trace.specs.Said.{SpotName, spot_name_word, site_word, most_numbers, IsTask, IsMessage, IsName, IsSite, IsValue}
use Rattle.ccr_trace.specs.Fields.{each, exact_number, short_number, value_of, task_of, message_of, spot_in, spot_of}
use Rattle.ccr_trace.proofs.Parting.{AreLacking, pieces_join, graphic}
use Rattle.std.proofs.lemmas.Bool.{and_parts as both}

letters : (name : List ℕ) → IsName name → list_all may_be_in_name name ≡ true
letters [] good = absurd cc
letters (b ∷ name) good =
    let first = both (is_ascii_alphabetic b && nat_lt (length name) 16) (list_all may_be_in_name name) good in
    let letter = both (is_ascii_alphabetic b) (nat_lt (length name) 16) first.0 in
    let may : may_be_in_name b ≡ true = grind (arith, nat_tests, letter.0) in
    rw (may, first.1) refl

-- no @ stands in a name
name_lacks : (name : List ℕ) → IsName name → lacks 64 name ≡ true
name_lacks name good = lacks_tested may_be_in_name 64 name refl (letters name good)

pub name_graphic : (name : List ℕ) → IsName name → graphic name ≡ true
name_graphic name good = all_weaker may_be_in_name is_graphic (λ b may. grind (arith, nat_tests, may)) name (letters name good)

-- each word that is spelled is read again
pub each_read : {A : Type 0} (read : List ℕ → Option A) (spell : A → List ℕ) (Good : A → Type 0) → ((x : A) → Good x → read (spell x) ≡ Some x) → (xs : List A) → All Good xs → each read (map spell xs) ≡ Some xs
unfolding each
each_read read spell Good again [] good = refl
each_read read spell Good again (x ∷ xs) good =
    let parts = recursion_from_All Good (x ∷ xs) good in
    rw (again x parts.0, each_read read spell Good again xs (λ k d below. good (suc k) d (omega arith))) refl

module _ (numbers : AreReadAgain) where
  digits_of : (n : ℕ) → n < 2 ^ 64 → list_all is_ascii_digit (decimal n) ≡ true
  digits_of n fits = (digits_alone (decimal n) n (numbers n fits)).1

  -- no dot and no @ stands among digits
  number_lacks : (separator n : ℕ) → is_ascii_digit separator ≡ false → n < 2 ^ 64 → lacks separator (decimal n) ≡ true
  number_lacks separator n none fits = lacks_tested is_ascii_digit separator (decimal n) none (digits_of n fits)

  pub number_read : (n : ℕ) → n < 2 ^ 64 → exact_number (decimal n) ≡ Some n
  unfolding exact_number
  number_read n fits = rw (numbers n fits, same_text (decimal n)) refl

  pub short_read : (n : ℕ) → n < 2 ^ 32 → short_number (decimal n) ≡ Some n
  unfolding short_number
  short_read n fits =
      let small : nat_lt n (2 ^ 32) ≡ true = grind (arith, nat_tests, fits) in
      rw (number_read n (omega arith), small) refl

  short_lacks : (separator n : ℕ) → is_ascii_digit separator ≡ false → n < 2 ^ 32 → lacks separator (decimal n) ≡ true
  short_lacks separator n none fits = number_lacks separator n none (omega arith)

  two_parts : (a k : ℕ) → a < 2 ^ 32 → k < 2 ^ 32 → pieces 46 (decimal a ++ 46 ∷ decimal k) ≡ decimal a ∷ decimal k ∷ []
  two_parts a k small_a small_k = part_before 46 (decimal a) (decimal k) (short_lacks 46 a refl small_a) ∙ ap (λ (w : List (List ℕ)). decimal a ∷ w) (part_alone 46 (decimal k) (short_lacks 46 k refl small_k))

  pub task_read : (task : TaskId) → IsTask task → task_of (task_word task) ≡ Some task
  unfolding task_of
  task_read task good = rw (two_parts task.actor task.attempt good.0 good.1, short_read task.actor good.0, short_read task.attempt good.1) refl

  three_parts : (a k i : ℕ) → a < 2 ^ 32 → k < 2 ^ 32 → i < 2 ^ 32 → pieces 46 ((decimal a ++ 46 ∷ decimal k) ++ 46 ∷ decimal i) ≡ decimal a ∷ decimal k ∷ decimal i ∷ []
  three_parts a k i small_a small_k small_i =
      ap (pieces 46) (append_assoc (decimal a) (46 ∷ decimal k) (46 ∷ decimal i))
      ∙ (part_before 46 (decimal a) (decimal k ++ 46 ∷ decimal i) (short_lacks 46 a refl small_a) ∙ ap (λ (w : List (List ℕ)). decimal a ∷ w) (two_parts k i small_k small_i))

  pub message_read : (message : MsgId) → IsMessage message → message_of (message_word message) ≡ Some message
  unfolding message_of
  message_read (ids.Script actor place) good = rw (two_parts actor place good.0 good.1, short_read actor good.0, short_read place good.1) refl
  message_read (ids.Task task place) good =
      rw (three_parts task.actor task.attempt place good.0.0 good.0.1 good.1, short_read task.actor good.0.0, short_read task.attempt good.0.1, short_read place good.1) refl

  spot_parts : (spot : SpotName) → IsName spot.name → IsSite spot.site → spot_in (pieces 64 (spot_name_word spot)) ≡ Some spot
  spot_parts spot good site = by spot.site site refl
    where
      by : (s : Option ℕ) → IsSite s → spot.site ≡ s → spot_in (pieces 64 (spot.name ++ site_word s)) ≡ Some (record { name = spot.name; site = s })
      by None fits is = rw (append-nil spot.name, part_alone 64 spot.name (name_lacks spot.name good), good) refl
      by (Some k) fits is = rw (part_before 64 spot.name (decimal k) (name_lacks spot.name good), part_alone 64 (decimal k) (short_lacks 64 k refl fits), short_read k fits, good) refl

  pub spot_read : (spot : SpotName) → IsName spot.name → IsSite spot.site → spot_of (spot_name_word spot) ≡ Some spot
  unfolding spot_of
  spot_read spot good site = spot_parts spot good site

  pub number_graphic : (n : ℕ) → n < 2 ^ 64 → graphic (decimal n) ≡ true
  number_graphic n fits = all_weaker is_ascii_digit is_graphic (λ b digit. grind (arith, nat_tests, digit)) (decimal n) (digits_of n fits)

  short_graphic : (n : ℕ) → n < 2 ^ 32 → graphic (decimal n) ≡ true
  short_graphic n fits = number_graphic n (omega arith)

  pub task_graphic : (task : TaskId) → IsTask task → graphic (task_word task) ≡ true
  task_graphic task good = all_both is_graphic (decimal task.actor) (46 ∷ decimal task.attempt) (short_graphic task.actor good.0) (short_graphic task.attempt good.1)

  pub message_graphic : (message : MsgId) → IsMessage message → graphic (message_word message) ≡ true
  message_graphic (ids.Script actor place) good = all_both is_graphic (decimal actor) (46 ∷ decimal place) (short_graphic actor good.0) (short_graphic place good.1)
  message_graphic (ids.Task task place) good = all_both is_graphic (task_word task) (46 ∷ decimal place) (task_graphic task good.0) (short_graphic place good.1)

  pub spot_graphic : (spot : SpotName) → IsName spot.name → IsSite spot.site → graphic (spot_name_word spot) ≡ true
  spot_graphic spot good site = all_both is_graphic spot.name (site_word spot.site) (name_graphic spot.name good) (by spot.site site)
    where
      by : (s : Option ℕ) → IsSite s → graphic (site_word s) ≡ true
      by None fits = refl
      by (Some k) fits = short_graphic k fits

  numbers_lack : (value : List ℕ) → All (λ n. n < 2 ^ 64) value → AreLacking 44 (map decimal value)
  numbers_lack [] good = tt
  numbers_lack (n ∷ value) good =
      let parts = recursion_from_All (λ m. m < 2 ^ 64) (n ∷ value) good in
      (number_lacks 44 n refl parts.0, numbers_lack value (λ k d below. good (suc k) d (omega arith)))

  value_parts : (value : List ℕ) → 0 < length value → All (λ n. n < 2 ^ 64) value → pieces 44 (value_word value) ≡ map decimal value
  value_parts [] some good = absurd (omega arith)
  value_parts (n ∷ value) some good = pieces_join 44 (decimal n) (map decimal value) (numbers_lack (n ∷ value) good)

  pub value_read : (version : ℕ) (value : List ℕ) → IsValue version value → value_of version (value_word value) ≡ Some value
  unfolding value_of
  value_read version value good =
      let few : nat_le (length value) (most_numbers version) ≡ true = grind (arith, nat_tests, good.1) in
      rw (value_parts value good.0.0 good.0.1, each_read exact_number decimal (λ n. n < 2 ^ 64) number_read value good.0.1, few) refl

  value_bytes : (n : ℕ) (value : List ℕ) → All (λ m. m < 2 ^ 64) (n ∷ value) → graphic (value_word (n ∷ value)) ≡ true
  value_bytes n [] good = number_graphic n (recursion_from_All (λ m. m < 2 ^ 64) (n ∷ []) good).0
  value_bytes n (next ∷ value) good =
      all_both is_graphic (decimal n) (44 ∷ value_word (next ∷ value)) (number_graphic n (recursion_from_All (λ m. m < 2 ^ 64) (n ∷ next ∷ value) good).0)
      (value_bytes next value (λ k d below. good (suc k) d (omega arith)))

  pub value_graphic : (version : ℕ) (value : List ℕ) → IsValue version value → graphic (value_word value) ≡ true
  value_graphic version [] good = refl
  value_graphic version (n ∷ value) good = value_bytes n value good.0.1
