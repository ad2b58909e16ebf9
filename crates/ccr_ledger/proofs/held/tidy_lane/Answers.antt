use Rattle.std.proofs.Common.{◌∙◌}
use Rattle.std.proofs.lemmas.Option.{get_or_from_slice_get}
use Rattle.ccr_base.proofs.Options.{get-set_same, some-below}
use Rattle.ccr_ledger.proofs.Lanes.{is-at, are-set}
use Rattle.ccr_ledger.proofs.held.tidy_lane.Goals as goal

pub tidy-requires : goal.tidy-requires
tidy-requires c = let f = c.in_ok-number.ensures.found in
    let same = c.index_mut.ensures.value ∙ get_or_from_slice_get c.lane_for.new.lanes.items c.in_ok-number.number f.0 c.index_mut.result.now f.1 in
    rw same (is-at c.args.items.now c.lane_for.new.lanes.items c.in_ok-number.number f.0 c.in_ok-number.ensures.lanes f.1)

pub returns-clause-lanes : goal.returns-clause-lanes
returns-clause-lanes c = are-set c.args.items.now c.lane_for.new.lanes.items c.in_ok-number.number c.tidy.new.lane c.in_ok-number.ensures.lanes c.tidy.ensures.lane

pub returns-clause-found : goal.returns-clause-found
returns-clause-found c = let f = c.in_ok-number.ensures.found in
    let same = c.index_mut.ensures.value ∙ get_or_from_slice_get c.lane_for.new.lanes.items c.in_ok-number.number f.0 c.index_mut.result.now f.1 in
    (c.tidy.new.lane, get-set_same c.lane_for.new.lanes.items c.in_ok-number.number c.tidy.new.lane (some-below c.lane_for.new.lanes.items c.in_ok-number.number f.0 f.1), rw (same, f.2) at c.tidy.ensures.prefix)
