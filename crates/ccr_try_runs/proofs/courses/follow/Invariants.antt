use Rattle.std.proofs.Common.{◌≡◌}
use Rattle.ccr_actor.specs.Acting.{quiet}
use Rattle.ccr_try_runs.proofs.courses.follow.Given as goal

abbrev pub invariant-loop-word : goal.invariant-loop-word
invariant-loop-word l =
    (goal.iterator-loop-word).can_next l.word-iterator ×
    (goal.iterator-loop-word).is_finite l.word-iterator ×
    l.actor.asking ≡ quiet
