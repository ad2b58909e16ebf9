use Rattle.std.proofs.Common.{refl}
use Rattle.ccr_interleave.proofs.groups.group_at.Goals as goal

pub returns-in-Some : goal.returns-in-Some
returns-in-Some c = rw (c.in-Branch.is, ← c.as_slice.ensures, ← c.index_of.ensures, c.in-Some.is, c.group_of.ensures, c.as_slice-in-Some.ensures) refl

pub returns-in-None : goal.returns-in-None
returns-in-None c = rw (c.in-Branch.is, ← c.as_slice.ensures, ← c.index_of.ensures, c.in-None.is) refl
