-- What may stand in one field of a line, and the code where something else stands there.
-- A field is read from the words that are left; it gives a value and the words behind it, or a code.
use Rattle.std.specs.Prelude.{ℕ, Bool, List, [], ◌∷◌, Option, Some, None, Result, Ok, Err, nat_lt, nat_le, ◌&&◌, map, if◌then◌else◌, codes}
use Rattle.std.specs.Borrow.{Bor}
use Rattle.std.specs.Str.{bytes_eq}
use Rattle.ccr_base.specs.declared.policies.Policy.{Policy}
use Rattle.ccr_base.specs.declared.policies.Policy.TheVariants as policies
use Rattle.ccr_text.specs.Words.{number_of}

-- the words that are left
abbrev pub Words : Type 0
Words = List (List ℕ)

-- the bytes of words that are read where they stand in the text
abbrev pub seen : List (Bor (List ℕ)) → Words
seen words = map (λ (word : Bor (List ℕ)). word.now) words

-- one step behind another: the first that offends decides
infixl 10 ◌>>=◌
-- the second reads on where the first refused nothing
abbrev pub ◌>>=◌ : {A B : Type 0} → Result A ℕ → (A → Result B ℕ) → Result B ℕ
(Ok x) >>= f = f x
(Err code) >>= f = Err code

-- the code where the test fails
abbrev pub unless : Bool → ℕ → Result (Unit {0}) ℕ
unless test code = if test then Ok tt else Err code

-- the code where there is nothing
abbrev pub or_code : {A : Type 0} → Option A → ℕ → Result A ℕ
or_code None code = Err code
or_code (Some x) code = Ok x

-- one more than a limit is code 10
abbrev pub limited : ℕ → ℕ → Result (Unit {0}) ℕ
limited limit count = unless (nat_lt count limit) 10

-- a missing word is code 4
abbrev pub word : Words → Result (List ℕ × Words) ℕ
word [] = Err 4
word (first ∷ words) = Ok (first, words)

-- a word too many is code 4
abbrev pub no_more : Words → Result (Unit {0}) ℕ
no_more [] = Ok tt
no_more (first ∷ words) = Err 4

-- a number
unfoldable pub number : Words → Result (ℕ × Words) ℕ
number words = do
  digits ← word words
  value ← or_code (number_of digits.0) 5
  Ok (value, digits.1)

-- a number between two bounds
unfoldable pub number_within : ℕ → ℕ → Words → Result (ℕ × Words) ℕ
number_within low high words = do
  value ← number words
  within ← unless (nat_le low value.0 && nat_le value.0 high) 10
  Ok value

-- unbounded, discard N or throttle N, with N from 1 to a limit
unfoldable pub policy : ℕ → Words → Result (Policy × Words) ℕ
policy most words = do
  name ← word words
  if bytes_eq name.0 (codes "unbounded") then Ok (policies.Unbounded, name.1) else
      if bytes_eq name.0 (codes "discard") then (number_within 1 most name.1 >>= λ limit. Ok (policies.Discard limit.0, limit.1)) else
      if bytes_eq name.0 (codes "throttle") then (number_within 1 most name.1 >>= λ limit. Ok (policies.Throttle limit.0, limit.1)) else
      Err 3
