use Rattle.std.proofs.Common.{◌≡◌, true, drop}
use Rattle.ccr_port.specs.Entries.{can_take, without_entries}
use Rattle.ccr_port.specs.Lanes.{AreLanes}
use Rattle.ccr_port.proofs.claims.take_marked.Given as goal

abbrev pub invariant-loop-key : goal.invariant-loop-key
invariant-loop-key l = record {
  there : can_take (drop l.key-index l.keys) l.items ≡ true;
  rest : without_entries (drop l.key-index l.keys) l.items ≡ without_entries l.keys l.initial.items;
  lanes : AreLanes l.items l.lanes.items;
}
