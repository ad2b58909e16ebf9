use Rattle.std.proofs.Common.{◌≡◌, true, take}
use Rattle.std.specs.List.{list_all}
use Rattle.ccr_text.specs.Words.{is_graphic}
use Rattle.ccr_wiretext.proofs.scanning.word_before.Given as goal

-- bytes of words alone so far
abbrev pub invariant-loop-index : goal.invariant-loop-index
invariant-loop-index l = list_all is_graphic (take l.index l.bytes) ≡ true
