use Rattle.std.proofs.Common.{◌≡◌, ◌++◌, map, take}
use Rattle.ccr_text.specs.Spelling.{text_of}
use Rattle.ccr_wiretext.specs.Spelling.{port_words}
use Rattle.ccr_wiretext.proofs.writing.put_ports.Given as goal

abbrev pub invariant-loop-name : goal.invariant-loop-name
invariant-loop-name l = l.out.items ≡ l.fn.out.items ++ text_of (map port_words (take l.name-index l.ports))
