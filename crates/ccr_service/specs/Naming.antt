-- What the declared names stand for, in the order of their declaration.
use Rattle.std.specs.Prelude.{ℕ, List, Option, Some, None}
use Rattle.ccr_service.specs.declared.names.OpOrClient.{OpOrClient}
use Rattle.ccr_service.specs.declared.names.OpOrClient.TheVariants as kinds

-- names, each with what it stands for
abbrev pub Naming : Type 0
Naming = List (List ℕ × OpOrClient)

-- the number of an operation
abbrev pub as_op : OpOrClient → Option ℕ
as_op (kinds.Op number) = Some number
as_op kinds.Client = None
