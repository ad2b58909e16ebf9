use Rattle.std.proofs.Common.{◌≡◌, ℕ, ◌<◌, get_or, true}
use Rattle.ccr_text.specs.Words.{is_graphic}
use Rattle.ccr_text.proofs.words.split_word.Given as goal

abbrev pub invariant-loop-index : goal.invariant-loop-index
invariant-loop-index l = (k : ℕ) → k < l.index → is_graphic (get_or l.line k 0) ≡ true
