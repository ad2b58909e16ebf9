use Rattle.std.proofs.Common.{◌≡◌, length}
use Rattle.ccr_trace.specs.Fields.{task_of}
use Rattle.ccr_trace.specs.Fields.{each}
use Rattle.ccr_trace.proofs.Each.{behind_found}
use Rattle.ccr_trace.proofs.forms.tasks.Given as goal

-- the tasks so far and those of the words that are left
abbrev pub invariant-words : goal.invariant-words
invariant-words l = behind_found l.tasks (each task_of l.words) ≡ each task_of l.fn.words

abbrev pub decreases-words : goal.decreases-words
decreases-words l = length l.words
