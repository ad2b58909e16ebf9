-- What one word of a line says. Each number, name and spot has one word.
use Rattle.std.specs.Prelude.{ℕ, ◌^◌, List, [], ◌∷◌, length, ◌==◌, nat_lt, nat_le, Option, Some, None, if◌then◌else◌}
use Rattle.std.specs.Option.{option_and_then}
use Rattle.ccr_base.specs.declared.names.TaskId.{TaskId}
use Rattle.ccr_base.specs.declared.names.MsgId.{MsgId}
use Rattle.ccr_base.specs.declared.names.MsgId.TheVariants as ids
use Rattle.ccr_text.specs.Words.{number_of, is_name_of}
pub use Rattle.ccr_text.specs.Exact.{where_spelled}
use Rattle.ccr_trace.specs.Pieces.{pieces}
use Rattle.ccr_trace.specs.Said.{SpotName, most_numbers}

-- one step behind another: nothing where one has nothing
infixl 10 ◌>>=◌
-- the second reads on where the first found something
abbrev pub ◌>>=◌ : {A B : Type 0} → Option A → (A → Option B) → Option B
found >>= next = option_and_then next found

-- a number below 2 ^ 64
unfoldable pub exact_number : List ℕ → Option ℕ
exact_number word = number_of word >>= where_spelled word

-- the number, where it fits 32 bits
abbrev pub where_short : ℕ → Option ℕ
where_short n = if nat_lt n (2 ^ 32) then Some n else None

-- a number below 2 ^ 32
unfoldable pub short_number : List ℕ → Option ℕ
short_number word = exact_number word >>= where_short

-- what each word says
unfoldable pub each : {A : Type 0} → (List ℕ → Option A) → List (List ℕ) → Option (List A)
each read [] = Some []
each read (first ∷ words) = do
  value ← read first
  values ← each read words
  Some (value ∷ values)

-- the numbers, where there are at most so many
abbrev pub where_few : ℕ → List ℕ → Option (List ℕ)
where_few most numbers = if nat_le (length numbers) most then Some numbers else None

-- numbers joined by commas, so many at most
abbrev pub values_in : ℕ → List ℕ → Option (List ℕ)
values_in most word = each exact_number (pieces 44 word) >>= where_few most

-- a value in a wiring of this version
unfoldable pub value_of : ℕ → List ℕ → Option (List ℕ)
value_of version word = values_in (most_numbers version) word

-- a word of the form of a name
abbrev pub name_of : List ℕ → Option (List ℕ)
name_of word = if is_name_of word then Some word else None

-- A.K
abbrev pub task_in : List (List ℕ) → Option TaskId
task_in (actor ∷ attempt ∷ []) = do
  a ← short_number actor
  k ← short_number attempt
  Some (record { actor = a; attempt = k })
task_in _ = None

-- tA.K
unfoldable pub task_of : List ℕ → Option TaskId
task_of [] = None
task_of (b ∷ numbers) = if b == 116 then task_in (pieces 46 numbers) else None

-- A.K of a script
abbrev pub script_in : List (List ℕ) → Option MsgId
script_in (actor ∷ place ∷ []) = do
  a ← short_number actor
  k ← short_number place
  Some (ids.Script a k)
script_in _ = None

-- A.K.I
abbrev pub task_message_in : List (List ℕ) → Option MsgId
task_message_in (actor ∷ attempt ∷ place ∷ []) = do
  a ← short_number actor
  k ← short_number attempt
  i ← short_number place
  Some (ids.Task (record { actor = a; attempt = k }) i)
task_message_in _ = None

-- sA.K or tA.K.I
unfoldable pub message_of : List ℕ → Option MsgId
message_of [] = None
message_of (b ∷ numbers) = if b == 115 then script_in (pieces 46 numbers) else if b == 116 then task_message_in (pieces 46 numbers) else None

-- the spot of this word and site, where the word is a name
abbrev pub spot_with : List ℕ → Option ℕ → Option SpotName
spot_with word site = if is_name_of word then Some (record { name = word; site = site }) else None

-- the spot that the parts around `@` say
abbrev pub spot_in : List (List ℕ) → Option SpotName
spot_in (word ∷ []) = spot_with word None
spot_in (word ∷ site ∷ []) = short_number site >>= λ k. spot_with word (Some k)
spot_in _ = None

-- a name, or NAME@K
unfoldable pub spot_of : List ℕ → Option SpotName
spot_of word = spot_in (pieces 64 word)
