use Rattle.std.proofs.Common.{◌≡◌, ◌-◌, ◌≤◌, length}
use Rattle.ccr_text.specs.Fields.{◌>>=◌}
use Rattle.ccr_wiretext.specs.Patterns.{slots, taken}
use Rattle.ccr_wiretext.proofs.patterns.taken.Given as goal
use Rattle.ccr_base.specs.declared.patterns.Pattern.TheVariants as patterns
use Rattle.std.proofs.Common.{Ok}

-- the slots so far and those of the words that are left
abbrev pub invariant-slots : goal.invariant-slots
invariant-slots l = record {
  read : (slots l.draft (8 - length l.found.items) l.found.items l.words >>= λ all. Ok (patterns.Slots all)) ≡ taken l.fn.draft l.fn.words;
  few : length l.found.items ≤ 8;
}

abbrev pub decreases-slots : goal.decreases-slots
decreases-slots l = 8 - length l.found.items
