use Rattle.std.proofs.Common.{◌≡◌, take, true}
use Rattle.std.specs.List.{list_all}
use Rattle.ccr_text.specs.Words.{is_graphic}
use Rattle.ccr_text.proofs.words.split_run.Given as goal

-- graphic bytes so far
abbrev pub invariant-loop-index : goal.invariant-loop-index
invariant-loop-index l = list_all is_graphic (take l.index l.bytes) ≡ true
