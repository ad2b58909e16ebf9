use Rattle.std.proofs.Common.{refl}
use Rattle.ccr_net.proofs.plain.PlainPlaces.entry.Goals as goal

pub returns : goal.returns
returns c = rw (← c.self.view_is, c.entry_at.ensures, c.place-place.ensures, c.self.invariant.all) refl
