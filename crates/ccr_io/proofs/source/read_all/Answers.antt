use Rattle.std.proofs.Common.{◌+◌, ℕ, take, arith, length-take}
use Rattle.ccr_io.proofs.Bytes.{TakesAtMost-more}
use Rattle.ccr_io.proofs.source.read_all.Goals as goal

pub returns-then-limit-len-clause-taken : goal.returns-then-limit-len-clause-taken
returns-then-limit-len-clause-taken g c =
    TakesAtMost-more (c.args.limit + 1) c.reads.bytes.items (take c.in-Ok.n c.read.new.buf) (g.S.Source.rest c.args.source.now) (g.S.Source.rest c.reads.source) (g.S.Source.rest c.read.new.self)
    c.reads.invariant.read c.in-Ok.ensures.read
    (omega (arith, c.in-Ok.ensures.fits, length-take {A = ℕ}))

pub returns-in_err-extend_from_slice-in-Ok-clause-taken : goal.returns-in_err-extend_from_slice-in-Ok-clause-taken
returns-in_err-extend_from_slice-in-Ok-clause-taken g c =
    TakesAtMost-more (c.args.limit + 1) c.reads.bytes.items (take c.in-Ok.n c.read.new.buf) (g.S.Source.rest c.args.source.now) (g.S.Source.rest c.reads.source) (g.S.Source.rest c.read.new.self)
    c.reads.invariant.read c.in-Ok.ensures.read
    (omega (arith, c.in-Ok.ensures.fits, length-take {A = ℕ}))
