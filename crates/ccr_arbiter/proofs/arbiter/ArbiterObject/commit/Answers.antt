use Rattle.std.proofs.Common.{arith}
use Rattle.ccr_arbiter.proofs.Names.{length-le_from_among}
use Rattle.ccr_arbiter.proofs.arbiter.ArbiterObject.commit.Goals as goal

pub overflow_sub-len : goal.overflow_sub-len
overflow_sub-len c =
    let within = length-le_from_among c.self.inside.over.keys c.self.inside.fired.keys c.len-2.ensures.unique c.self.invariant.among in
    omega (arith, within, c.len.ensures.len, c.len-2.ensures.len)
