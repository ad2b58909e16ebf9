use Rattle.std.proofs.Common.{◌≡◌, ◌++◌, map, take}
use Rattle.ccr_text.specs.Spelling.{text_of}
use Rattle.ccr_replay.specs.Steps.{step_words}
use Rattle.ccr_replay.proofs.steps.put_steps.Given as goal

abbrev pub invariant-loop-entry : goal.invariant-loop-entry
invariant-loop-entry l = l.out ≡ l.fn.out ++ text_of (map (step_words l.parts) (take l.entry-index l.entries))
