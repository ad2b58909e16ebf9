use Rattle.std.proofs.Common.{◌≡◌, map, take}
use Rattle.std.specs.Option.{option_map_or}
use Rattle.ccr_base.specs.declared.names.Spot.{Spot}
use Rattle.ccr_ledger.specs.Books.{number}
use Rattle.ccr_telling.specs.Tallies.{index_of}
use Rattle.ccr_telling.proofs.counted.fired_of.Given as goal

abbrev pub invariant-loop-spot : goal.invariant-loop-spot
invariant-loop-spot l = l.counts.items ≡ map (λ (spot : Spot). option_map_or (number l.tally.fired) (index_of spot) 0) (take l.spot-index l.spots)
