use Rattle.std.proofs.Common.{◌≡◌, ◌-◌, ◌≤◌, length}
use Rattle.ccr_wiretext.specs.Patterns.{further, combined}
use Rattle.ccr_wiretext.proofs.patterns.combined.Given as goal

-- the members so far and those of the words that are left
abbrev pub invariant-further : goal.invariant-further
invariant-further l = record {
  read : further l.draft (8 - length l.found.items) l.found.items l.words ≡ combined l.fn.draft l.fn.words;
  few : length l.found.items ≤ 8;
}

abbrev pub decreases-further : goal.decreases-further
decreases-further l = 8 - length l.found.items
