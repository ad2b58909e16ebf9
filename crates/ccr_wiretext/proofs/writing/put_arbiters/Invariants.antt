use Rattle.std.specs.Prelude.{flat_map}
use Rattle.ccr_wiretext.specs.Spelling.{arbiter_lines}
use Rattle.ccr_wiretext.specs.Values.{IsArbiterValued}
use Rattle.ccr_wiretext.proofs.PartsPut.{AreLinesPut}
use Rattle.ccr_wiretext.proofs.writing.put_arbiters.Given as goal

-- the arbiters so far are written
abbrev pub invariant-loop-part : goal.invariant-loop-part
invariant-loop-part l = AreLinesPut (flat_map (arbiter_lines l.parts)) IsArbiterValued l.arbiters l.part-index l.fn.out.items l.out.items
