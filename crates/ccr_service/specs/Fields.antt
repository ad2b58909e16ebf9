-- What may stand in one field of a service's line, and the code where something else stands there.
use Rattle.std.specs.Prelude.{ℕ, List, [], ◌∷◌, Option, Some, None, Result, Ok, Err, not, is_some, if◌then◌else◌, codes}
use Rattle.std.specs.Option.{option_and_then}
use Rattle.std.specs.Str.{bytes_eq}
use Rattle.ccr_base.specs.Bounds.{most_arg}
use Rattle.ccr_base.specs.declared.policies.Group.{Group}
use Rattle.ccr_base.specs.declared.policies.Group.TheVariants as groups
use Rattle.ccr_base.specs.declared.handlers.Expr.{Expr}
use Rattle.ccr_base.specs.declared.handlers.Expr.TheVariants as exprs
use Rattle.ccr_text.specs.Names.{meaning_of}
use Rattle.ccr_text.specs.Fields.{Words, ◌>>=◌, unless, or_code, word, number, number_within}
use Rattle.ccr_text.specs.Words.{number_of}
use Rattle.ccr_service.specs.Naming.{Naming, as_op}
use Rattle.ccr_service.specs.Services.{is_service_name}

-- a name that is declared
unfoldable pub new_name : Naming → Words → Result (List ℕ × Words) ℕ
new_name names words = do
  name ← word words
  formed ← unless (is_service_name name.0) 14
  new ← unless (not (is_some (meaning_of names name.0))) 6
  Ok name

-- the name of an operation
unfoldable pub op_name : Naming → Words → Result (ℕ × Words) ℕ
op_name names words = do
  name ← word words
  number ← or_code (option_and_then as_op (meaning_of names name.0)) 7
  Ok (number, name.1)

-- teardown, exclusive or concurrent
unfoldable pub group : Words → Result (Group × Words) ℕ
group words = do
  name ← word words
  if bytes_eq name.0 (codes "teardown") then Ok (groups.Teardown, name.1) else
      if bytes_eq name.0 (codes "exclusive") then Ok (groups.Exclusive, name.1) else
      if bytes_eq name.0 (codes "concurrent") then Ok (groups.Concurrent, name.1) else
      Err 3

-- N, arg N, sum or count
unfoldable pub expr : Words → Result (Expr × Words) ℕ
expr words = do
  name ← word words
  if bytes_eq name.0 (codes "sum") then Ok (exprs.Sum, name.1) else
      if bytes_eq name.0 (codes "count") then Ok (exprs.Count, name.1) else
      if bytes_eq name.0 (codes "arg") then (number_within 0 most_arg name.1 >>= λ message. Ok (exprs.Arg message.0, message.1)) else
      (or_code (number_of name.0) 5 >>= λ number. Ok (exprs.Number (number ∷ []), name.1))

-- nothing, or below N
unfoldable pub bound : Words → Result (Option ℕ × Words) ℕ
bound [] = Ok (None, [])
bound (first ∷ words) = if bytes_eq first (codes "below") then (number words >>= λ most. Ok (Some most.0, most.1)) else Err 3
