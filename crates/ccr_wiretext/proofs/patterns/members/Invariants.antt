use Rattle.std.proofs.Common.{◌≡◌, ◌-◌, ◌≤◌, length}
use Rattle.ccr_wiretext.specs.Patterns.{members, all_members}
use Rattle.ccr_wiretext.proofs.patterns.members.Given as goal

-- the members so far and those of the words that are left
abbrev pub invariant-members : goal.invariant-members
invariant-members l = record {
  read : members l.draft (8 - length l.found.items) l.found.items l.words ≡ all_members l.fn.draft l.fn.words;
  few : length l.found.items ≤ 8;
}

abbrev pub decreases-members : goal.decreases-members
decreases-members l = 8 - length l.found.items
