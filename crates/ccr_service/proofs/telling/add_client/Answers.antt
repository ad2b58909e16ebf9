use Rattle.std.proofs.Common.{◌∙◌, ◌++◌, ◌∷◌, [], ◌+◌, ap, drop, List}
use Rattle.ccr_service.specs.declared.answer.Answer.{Answer}
use Rattle.ccr_service.specs.Telling.{told_asks}
use Rattle.ccr_service.proofs.TellingAll.{told_next}
use Rattle.ccr_service.proofs.telling.add_client.Goals as goal

pub loop-index-preserved : goal.loop-index-preserved
loop-index-preserved c =
    let asks = c.args.asks.now in
    let index = c.loop-index.index in
    let more = c.in_ok-push.ensures.items ∙ ap (λ (a : Answer). c.loop-index.answers.items ++ a ∷ []) c.in_ok-tell.ensures in
    ap (λ (xs : List Answer). xs ++ told_asks c.args.tables.now c.args.faults c.args.client (index + 1) (drop (index + 1) asks)) more
    ∙ told_next c.args.tables.now c.args.faults c.args.client asks index c.loop-index.answers.items _ c.loop-index-test.true c.loop-index.invariant
