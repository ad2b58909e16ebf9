use Rattle.std.proofs.Common.{◌≡◌, take}
use Rattle.std.specs.List.{slice_get}
use Rattle.ccr_port.specs.Entries.{keys_of}
use Rattle.ccr_port.specs.Lanes.{fitting_keys}
use Rattle.ccr_port.proofs.lanes.lane_of.Given as goal

abbrev pub invariant-loop-index : goal.invariant-loop-index
invariant-loop-index l = record {
  here : l.key ≡ slice_get (keys_of l.items) l._index;
  pred : l.lane.pred ≡ l.fn.pred;
  keys : l.lane.keys ≡ fitting_keys l.fn.pred (take l._index l.items);
}
