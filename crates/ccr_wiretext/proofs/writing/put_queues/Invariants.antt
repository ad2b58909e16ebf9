use Rattle.std.proofs.Common.{◌≡◌, ◌++◌, map, take}
use Rattle.ccr_text.specs.Spelling.{text_of}
use Rattle.ccr_wiretext.specs.Spelling.{queue_words}
use Rattle.ccr_wiretext.proofs.writing.put_queues.Given as goal

abbrev pub invariant-loop-part : goal.invariant-loop-part
invariant-loop-part l = l.out.items ≡ l.fn.out.items ++ text_of (map queue_words (take l.part-index l.queues))
