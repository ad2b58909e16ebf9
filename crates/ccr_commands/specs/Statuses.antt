-- Which statuses come with a text, and with which nothing is written.
use Rattle.std.specs.Prelude.{Bool, true, false}
use Rattle.ccr_commands.specs.declared.status.Status.{Status}
use Rattle.ccr_commands.specs.declared.status.Status.TheVariants.{Done, ReadFault, WriteFault, Memory}

-- whether an answer with a text may have this status
abbrev pub is_of_text : Status → Bool
is_of_text ReadFault = false
is_of_text WriteFault = false
is_of_text Memory = false
is_of_text _ = true

-- whether it is sure that nothing is written
abbrev pub is_silent : Status → Bool
is_silent ReadFault = true
is_silent Memory = true
is_silent _ = false

-- the status is that of what was done, and the law holds
abbrev pub IsDoneAnd : Status → Type 0 → Type 0
IsDoneAnd Done law = law
IsDoneAnd _ law = ⊥
