use Rattle.std.proofs.Common.{◌≡◌, [], length, ◌+◌}
use Rattle.std.specs.Option.{option_map_or}
use Rattle.ccr_wiretext.specs.Fields.{pieces, numbers_after}
use Rattle.ccr_wiretext.proofs.values.numbers_in.Given as goal

-- the numbers so far and those of the rest
abbrev pub invariant-pieces : goal.invariant-pieces
invariant-pieces l = numbers_after l.numbers.items (option_map_or (λ rest. pieces rest.now) l.rest []) ≡ numbers_after [] (pieces l.word)

abbrev pub decreases-pieces : goal.decreases-pieces
decreases-pieces l = option_map_or (λ rest. length rest.now + 1) l.rest 0
