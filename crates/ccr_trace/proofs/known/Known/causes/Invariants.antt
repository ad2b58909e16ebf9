use Rattle.std.proofs.Common.{◌≡◌, length}
use Rattle.ccr_trace.specs.Words.{cause_names}
use Rattle.ccr_trace.specs.Fields.{each}
use Rattle.ccr_trace.specs.Known.{number_in}
use Rattle.ccr_trace.proofs.Each.{behind_found}
use Rattle.ccr_trace.proofs.known.Known.causes.Given as goal

-- the causes so far and those of the words that are left
abbrev pub invariant-names : goal.invariant-names
invariant-names l = behind_found l.found (each (number_in (cause_names l.self)) l.names) ≡ each (number_in (cause_names l.self)) l.fn.names

abbrev pub decreases-names : goal.decreases-names
decreases-names l = length l.names
