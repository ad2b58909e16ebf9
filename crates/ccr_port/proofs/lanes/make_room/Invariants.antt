use Rattle.std.proofs.Common.{◌≡◌, true, take}
use Rattle.ccr_port.specs.Lanes.{AreSame, have_room}
use Rattle.ccr_port.proofs.lanes.make_room.Given as goal

abbrev pub invariant-loop-number : goal.invariant-loop-number
invariant-loop-number l = record {
  same : AreSame l.initial.lanes.items l.lanes.items;
  room : have_room l.key (take l.number l.lanes.items) ≡ true;
}
