use Rattle.std.specs.Prelude.{flat_map}
use Rattle.ccr_wiretext.specs.Spelling.{handler_lines}
use Rattle.ccr_wiretext.specs.Values.{IsHandlerValued}
use Rattle.ccr_wiretext.proofs.PartsPut.{AreLinesPut}
use Rattle.ccr_wiretext.proofs.writing.put_handlers.Given as goal

-- the handlers so far are written
abbrev pub invariant-loop-part : goal.invariant-loop-part
invariant-loop-part l = AreLinesPut (flat_map (handler_lines l.parts)) IsHandlerValued l.handlers l.part-index l.fn.out.items l.out.items
