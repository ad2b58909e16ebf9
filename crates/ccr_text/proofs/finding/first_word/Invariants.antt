use Rattle.std.proofs.Common.{◌≡◌, [], length, ◌+◌}
use Rattle.std.specs.Option.{option_map_or}
use Rattle.ccr_text.specs.Words.{words_of}
use Rattle.ccr_text.proofs.finding.first_word.Given as goal

-- all words stand in the rest
abbrev pub invariant-pieces : goal.invariant-pieces
invariant-pieces l = option_map_or (λ rest. words_of rest.now) l.rest [] ≡ words_of l.line

abbrev pub decreases-pieces : goal.decreases-pieces
decreases-pieces l = option_map_or (λ rest. length rest.now + 1) l.rest 0
