use Rattle.std.proofs.Common.{◌∙◌, ◌++◌, ◌∷◌, [], sym, ap, arith}
use Rattle.ccr_base.proofs.Lists.{take_more}
use Rattle.ccr_port.proofs.Listing.{has-at, some_at}
use Rattle.ccr_port.proofs.claims.first_keys.Goals as goal

pub unreachable-requires : goal.unreachable-requires
unreachable-requires c = some_at c.args.lane.now.keys c.loop-index._index (omega arith) (sym c.loop-index.invariant.here ∙ c.in_default.is)

pub behind-key-requires : goal.behind-key-requires
behind-key-requires c = has-at c.args.lane.now.keys c.loop-index._index c.in-Some.here (sym c.loop-index.invariant.here ∙ c.in-Some.is)

pub loop-index-preserved : goal.loop-index-preserved
loop-index-preserved c =
    let at = sym c.loop-index.invariant.here ∙ c.in-Some.is in
    record {
      here = c.behind-key.ensures c.loop-index._index at;
      keys = rw c.in_ok-push.ensures.items (ap (λ l. l ++ c.in-Some.here ∷ []) c.loop-index.invariant.keys ∙ sym (take_more c.args.lane.now.keys c.loop-index._index c.in-Some.here at));
    }
