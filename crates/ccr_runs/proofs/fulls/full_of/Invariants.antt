use Rattle.std.proofs.Common.{◌≡◌, ◌++◌}
use Rattle.std.specs.Prelude.{filter_map}
use Rattle.ccr_runs.specs.Played.{entry_of}
use Rattle.ccr_runs.proofs.fulls.full_of.Given as goal

-- the entries so far and those of the acts still to come are all
abbrev pub invariant-loop-act : goal.invariant-loop-act
invariant-loop-act l = l.entries.items ++ filter_map (entry_of l.wiring) l.act-iterator.rest.items ≡ filter_map (entry_of l.wiring) l.fn.acts
