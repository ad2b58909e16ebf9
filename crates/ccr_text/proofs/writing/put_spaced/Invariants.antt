use Rattle.std.proofs.Common.{◌≡◌, ◌++◌, map, drop}
use Rattle.ccr_text.specs.Spelling.{spaced, Grew}
use Rattle.ccr_text.proofs.writing.put_spaced.Given as goal

-- what is written and what is still to be written
abbrev pub invariant-loop-word : goal.invariant-loop-word
invariant-loop-word l = (l.out ++ spaced (map (λ word. word.now) (drop l.word-index l.words)) ≡ l.fn.out ++ spaced (map (λ word. word.now) l.words)) × Grew l.fn.out l.out
