use Rattle.std.proofs.Common.{suc, sym, arith}
use Rattle.ccr_engine.proofs.SpotIndices.{no_site}
use Rattle.ccr_engine.proofs.indices.SpotIndices.next_site.Goals as goal

pub returns-in-None : goal.returns-in-None
returns-in-None c = rw (← c.self.view_is, c.in-Site.is) (sym (no_site c.self.inside.wiring.now c.parts-valid.ensures.valid c.in-Site.branch (suc c.in-Site.site) (grind arith)))
