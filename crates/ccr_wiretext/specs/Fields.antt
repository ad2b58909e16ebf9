-- What may stand in one field of a line of a wiring, and the code where something else stands there. Numbers and policies,
-- and how one field is read behind another, are in ccr_text.
use Rattle.std.specs.Prelude.{ℕ, List, [], ◌∷◌, ◌+◌, Option, ◌++◌, Some, None, Result, Ok, Err, ◌==◌, ◌&&◌, not, is_some, take, drop, position, if◌then◌else◌, codes}
use Rattle.std.specs.Option.{option_and_then}
use Rattle.std.specs.Str.{bytes_eq}
use Rattle.ccr_base.specs.Bounds.{last_index, most_arg}
use Rattle.ccr_base.specs.declared.policies.Group.{Group}
use Rattle.ccr_base.specs.declared.policies.Group.TheVariants as groups
use Rattle.ccr_base.specs.declared.handlers.Expr.{Expr}
use Rattle.ccr_base.specs.declared.handlers.Expr.TheVariants as exprs
use Rattle.ccr_base.specs.Values.{value_of_numbers}
use Rattle.ccr_base.specs.Lists.{has_number}
use Rattle.ccr_text.specs.Words.{number_of, is_name_of}
use Rattle.ccr_text.specs.Exact.{parts}
use Rattle.ccr_text.specs.Names.{meaning_of}
use Rattle.ccr_text.specs.Fields.{Words, ◌>>=◌, unless, or_code, word, number_within}
use Rattle.ccr_wiretext.specs.declared.named.Named.{Named}
use Rattle.ccr_wiring.specs.References.{no_interleave}
use Rattle.ccr_wiretext.specs.Names.{Naming, as_port, as_set, as_arbiter}
use Rattle.ccr_wiretext.specs.Drafts.{Declared, members_of}

-- a name that is declared
unfoldable pub new_name : Naming → Words → Result (List ℕ × Words) ℕ
new_name names words = do
  name ← word words
  formed ← unless (is_name_of name.0) 14
  new ← unless (not (is_some (meaning_of names name.0))) 6
  Ok name

-- a name that is referred to
unfoldable pub reference : (Named → Option ℕ) → Naming → Words → Result (ℕ × Words) ℕ
reference as_kind names words = do
  name ← word words
  number ← or_code (option_and_then as_kind (meaning_of names name.0)) 7
  Ok (number, name.1)

-- the index of the first slash
unfoldable pub slash_index : List ℕ → Option ℕ
slash_index name = position (λ b. b == 47) name

-- the port where it is a member of the set
abbrev pub member : Declared → ℕ → ℕ → Option ℕ
member draft set port = if has_number (members_of draft set) port then Some port else None

-- the set's port of that name
abbrev pub set_port : Declared → List ℕ → ℕ → Option ℕ
set_port draft name set = option_and_then (member draft set) (option_and_then as_port (meaning_of draft.names name))

-- the port that is meant, by the index of the slash
abbrev pub port_at : Declared → List ℕ → Option ℕ → Option ℕ
port_at draft name None = option_and_then as_port (meaning_of draft.names name)
port_at draft name (Some index) = option_and_then (set_port draft (drop (index + 1) name)) (option_and_then as_set (meaning_of draft.names (take index name)))

-- the port that PORT or SET/PORT means
abbrev pub port_of : Declared → List ℕ → Option ℕ
port_of draft name = port_at draft name (slash_index name)

-- PORT or SET/PORT
unfoldable pub port : Declared → Words → Result (ℕ × Words) ℕ
port draft words = do
  name ← word words
  number ← or_code (port_of draft name.0) 7
  Ok (number, name.1)

-- once or always
unfoldable pub group : Words → Result (Group × Words) ℕ
group words = do
  name ← word words
  if bytes_eq name.0 (codes "once") then Ok (groups.Once, name.1) else
      if bytes_eq name.0 (codes "always") then Ok (groups.Always, name.1) else
      Err 3

-- the pieces of a word between its commas
abbrev pub pieces : List ℕ → List (List ℕ)
pieces word = parts 44 word

-- the numbers of the pieces, behind those that were found
unfoldable pub numbers_after : List ℕ → List (List ℕ) → Result (List ℕ) ℕ
numbers_after found [] = Ok found
numbers_after found (piece ∷ more) = or_code (number_of piece) 5 >>= λ number. numbers_after (found ++ number ∷ []) more

-- numbers with commas between them: a ninth is code 10, once all of them are numbers
unfoldable pub several : List ℕ → Result (List ℕ) ℕ
several word = numbers_after [] (pieces word) >>= λ numbers. or_code (value_of_numbers numbers) 10

-- one number
unfoldable pub single : List ℕ → Result (List ℕ) ℕ
single word = or_code (number_of word) 5 >>= λ number. Ok (number ∷ [])

-- the value that a word is: one number, in version 2 one or more
unfoldable pub value_in : ℕ → List ℕ → Result (List ℕ) ℕ
value_in version word = if version == 2 then several word else single word

-- a value
unfoldable pub value : ℕ → Words → Result (List ℕ × Words) ℕ
value version words = do
  first ← word words
  numbers ← value_in version first.0
  Ok (numbers, first.1)

-- which number of which message's value
unfoldable pub part : Words → Result (Expr × Words) ℕ
part words = do
  message ← number_within 0 most_arg words
  index ← number_within 0 last_index message.1
  Ok (exprs.Part message.0 index.0, index.1)

-- a value, arg N, sum or count, in version 2 part N N too
unfoldable pub expr : ℕ → Words → Result (Expr × Words) ℕ
expr version words = do
  name ← word words
  if bytes_eq name.0 (codes "sum") then Ok (exprs.Sum, name.1) else
      if bytes_eq name.0 (codes "count") then Ok (exprs.Count, name.1) else
      if bytes_eq name.0 (codes "arg") then (number_within 0 most_arg name.1 >>= λ message. Ok (exprs.Arg message.0, message.1)) else
      if bytes_eq name.0 (codes "part") && (version == 2) then part name.1 else
      (value_in version name.0 >>= λ numbers. Ok (exprs.Number numbers, name.1))

-- an Interleave
unfoldable pub interleave : Declared → Words → Result (ℕ × Words) ℕ
interleave draft words = do
  arbiter ← reference as_arbiter draft.names words
  kind ← unless (not (no_interleave draft.parts arbiter.0)) 7
  Ok arbiter
