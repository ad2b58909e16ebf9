use Rattle.ccr_telling.proofs.telling.CountingListener.hear.Goals as goal

pub returns : goal.returns
returns c = λ w h next counting. c.count.ensures w h next.valid next.closed next.tables next.legal counting
