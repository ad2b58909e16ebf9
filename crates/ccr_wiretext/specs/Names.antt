-- What the declared names stand for, in the order of their declaration.
use Rattle.std.specs.Prelude.{ℕ, List, Option, Some, None}
use Rattle.ccr_wiretext.specs.declared.named.Named.{Named}
use Rattle.ccr_wiretext.specs.declared.named.Named.TheVariants as kinds

-- names, each with what it stands for
abbrev pub Naming : Type 0
Naming = List (List ℕ × Named)

-- the number of a port. The others are likewise
abbrev pub as_port : Named → Option ℕ
as_port (kinds.Port n) = Some n
as_port _ = None

-- the number, where it is a queue
abbrev pub as_queue : Named → Option ℕ
as_queue (kinds.Queue n) = Some n
as_queue _ = None

-- the number, where it is a set of ports
abbrev pub as_set : Named → Option ℕ
as_set (kinds.Set n) = Some n
as_set _ = None

-- the number, where it is a cause
abbrev pub as_cause : Named → Option ℕ
as_cause (kinds.Cause n) = Some n
as_cause _ = None

-- the number, where it is an arbiter
abbrev pub as_arbiter : Named → Option ℕ
as_arbiter (kinds.Arbiter n) = Some n
as_arbiter _ = None

-- the number, where it is a handler
abbrev pub as_handler : Named → Option ℕ
as_handler (kinds.Handler n) = Some n
as_handler _ = None
