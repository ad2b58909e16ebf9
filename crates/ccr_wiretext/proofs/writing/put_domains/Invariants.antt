use Rattle.std.proofs.Common.{◌≡◌, ◌++◌, map, take}
use Rattle.ccr_text.specs.Spelling.{text_of}
use Rattle.ccr_wiretext.specs.Spelling.{combine_words}
use Rattle.ccr_wiretext.proofs.writing.put_domains.Given as goal

abbrev pub invariant-loop-part : goal.invariant-loop-part
invariant-loop-part l = l.out.items ≡ l.fn.out.items ++ text_of (map (combine_words l.parts) (take l.part-index l.domains))
