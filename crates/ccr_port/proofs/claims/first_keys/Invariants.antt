use Rattle.std.proofs.Common.{◌≡◌, take}
use Rattle.std.specs.List.{slice_get}
use Rattle.ccr_port.proofs.claims.first_keys.Given as goal

abbrev pub invariant-loop-index : goal.invariant-loop-index
invariant-loop-index l = record {
  here : l.key ≡ slice_get l.lane.keys l._index;
  keys : l.keys.items ≡ take l._index l.lane.keys;
}
