use Rattle.std.proofs.Common.{◌≡◌, ◌++◌, map, drop}
use Rattle.ccr_runs.specs.Deals.{key}
use Rattle.ccr_runs.specs.Merges.{tagged}
use Rattle.ccr_runs.proofs.dealing.keys_of.Given as goal

abbrev pub invariant-loop-left : goal.invariant-loop-left
invariant-loop-left g l = (l.keys.items ++ map key (tagged l.place (drop l.left-index l.kept)) ≡ map key (tagged 0 l.kept)) × (l.place ≡ l.left-index)
