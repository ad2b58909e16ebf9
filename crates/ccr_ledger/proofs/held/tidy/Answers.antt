use Rattle.std.proofs.Common.{◌∙◌, sym, arith}
use Rattle.std.proofs.lemmas.Option.{slice_get_within}
use Rattle.ccr_ledger.proofs.Lanes.{tidy-front, tidy-all, tidy-more, tidy-left, lane-left, fewer-left}
use Rattle.ccr_ledger.proofs.held.tidy.Goals as goal

pub returns-in_default-clause-prefix : goal.returns-in_default-clause-prefix
returns-in_default-clause-prefix c =
    rw (← c.index.invariant.pred) (tidy-all c.args.items.now c.index.lane c.index.number c.index.invariant.lane c.index.invariant.tidy c.args.most (sym c.at.ensures ∙ c.in_default.is))

pub returns-clause-prefix : goal.returns-clause-prefix
returns-clause-prefix c =
    rw (← c.index.invariant.pred) (tidy-front c.args.items.now c.index.lane c.index.number c.index.invariant.lane c.index.invariant.tidy c.args.most (omega arith))

pub remove-requires : goal.remove-requires
remove-requires c = slice_get_within c.index.lane.indices c.index.number c.in-Some.index (sym c.at.ensures ∙ c.in-Some.is)

pub index-preserved-then-is_here : goal.index-preserved-then-is_here
index-preserved-then-is_here c = record {
  lane = c.index.invariant.lane;
  pred = c.index.invariant.pred;
  tidy = tidy-more c.args.items.now c.index.lane c.index.number c.index.invariant.lane c.index.invariant.tidy c.in-Some.index (sym c.at.ensures ∙ c.in-Some.is) (sym c.is_here.ensures ∙ c.if-is_here.true);
}

pub index-smaller : goal.index-smaller
index-smaller c = rw c.remove.ensures (fewer-left c.index.lane.indices c.index.number c.in-Some.index (sym c.at.ensures ∙ c.in-Some.is))

pub index-preserved : goal.index-preserved
index-preserved c = rw c.remove.ensures (record {
  lane = lane-left c.args.items.now c.index.lane c.index.number c.index.invariant.lane c.index.invariant.tidy c.in-Some.index (sym c.at.ensures ∙ c.in-Some.is) (sym c.is_here.ensures ∙ c.if-is_here.false);
  pred = c.index.invariant.pred;
  tidy = tidy-left c.args.items.now c.index.lane c.index.number c.index.invariant.lane c.index.invariant.tidy c.in-Some.index (sym c.at.ensures ∙ c.in-Some.is) (sym c.is_here.ensures ∙ c.if-is_here.false);
})
