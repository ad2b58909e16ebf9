use Rattle.std.proofs.Common.{◌≡◌, ◌++◌, map, drop}
use Rattle.ccr_runs.specs.Deals.{key}
use Rattle.ccr_runs.specs.Merges.{tag}
use Rattle.ccr_runs.proofs.dealing.add_keys.Given as goal

abbrev pub invariant-loop-held : goal.invariant-loop-held
invariant-loop-held g l = l.keys.items ++ map key (map (tag l.place) (drop l.held-index l.history)) ≡ l.fn.keys.items ++ map key (map (tag l.place) l.history)
