use Rattle.std.proofs.Common.{◌++◌, ◌∷◌, []}
use Rattle.ccr_telling.proofs.Heard.{counting_next, counting_fits}
use Rattle.ccr_telling.proofs.tally.Tally.count.Goals as goal

pub returns : goal.returns
returns c = λ w h valid closed keeps legal counting.
    let b = c.args.tables.now in
    let e = c.args.event.now in
    let fits = counting_fits w h e b c.args.self.now valid keeps legal (c.valid_histories_are_short.ensures w valid closed (h ++ e ∷ []) legal) counting in
    counting_next w h e b c.args.self.now _ keeps legal (c.enter.ensures fits) counting
