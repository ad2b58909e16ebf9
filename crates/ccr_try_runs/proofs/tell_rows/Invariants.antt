use denote.Text.{Utf8}
use denote.Shadow.{shadow}
use Rattle.ccr_try_runs.proofs.tell_rows.Given as goal

-- the name of the case is text, and so is what its rows start from
abbrev pub invariant-loop-line : goal.invariant-loop-line
invariant-loop-line l =
    (goal.iterator-loop-line).can_next l.line-iterator ×
    (goal.iterator-loop-line).is_finite l.line-iterator ×
    shadow (Utf8 l.case) ×
    shadow (Utf8 l.with)
