use Rattle.std.proofs.Common.{◌≡◌, length}
use Rattle.ccr_replay.proofs.same.are_same.Given as goal

-- all are the same exactly where those that are left are
abbrev pub invariant-entries : goal.invariant-entries
invariant-entries l = record {
  up : l.left ≡ l.right → l.fn.one ≡ l.fn.other;
  down : l.fn.one ≡ l.fn.other → l.left ≡ l.right;
}

abbrev pub decreases-entries : goal.decreases-entries
decreases-entries l = length l.left
