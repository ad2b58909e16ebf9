use Rattle.std.proofs.Common.{◌≡◌, length}
use Rattle.ccr_trace.specs.Forms.{fired}
use Rattle.ccr_trace.proofs.Each.{with_found}
use Rattle.ccr_trace.proofs.forms.fired.Given as goal

-- the messages so far and those of the words that are left, with the cuts
abbrev pub invariant-plain : goal.invariant-plain
invariant-plain l = with_found l.messages (fired l.words) ≡ fired l.fn.words

abbrev pub decreases-plain : goal.decreases-plain
decreases-plain l = length l.words

abbrev pub invariant-words : goal.invariant-words
invariant-words l = with_found l.messages (fired l.words) ≡ fired l.fn.words

abbrev pub decreases-words : goal.decreases-words
decreases-words l = length l.words
