use Rattle.std.specs.Prelude.{flat_map}
use Rattle.ccr_wiretext.specs.Spelling.{poster_lines}
use Rattle.ccr_wiretext.specs.Values.{IsPosterValued}
use Rattle.ccr_wiretext.proofs.PartsPut.{AreLinesPut}
use Rattle.ccr_wiretext.proofs.writing.put_posters.Given as goal

-- the posters so far are written
abbrev pub invariant-loop-part : goal.invariant-loop-part
invariant-loop-part l = AreLinesPut (flat_map (poster_lines l.parts)) IsPosterValued l.posters l.part-index l.fn.out.items l.out.items
