-- What the group of a branch means.
use Rattle.std.specs.Prelude.{Bool, true, false}
use Rattle.ccr_base.specs.declared.policies.Group.{Group}
use Rattle.ccr_base.specs.declared.policies.Group.TheVariants.{Teardown, Concurrent}

-- a teardown branch
abbrev pub is_teardown : Group → Bool
is_teardown Teardown = true
is_teardown _ = false

-- a concurrent branch
abbrev pub is_concurrent : Group → Bool
is_concurrent Concurrent = true
is_concurrent _ = false
