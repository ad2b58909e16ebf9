use Rattle.std.proofs.Common.{◌≡◌, length}
use Rattle.ccr_replay.proofs.same.same_messages.Given as goal

-- all are the same exactly where those that are left are
abbrev pub invariant-items : goal.invariant-items
invariant-items l = record {
  up : l.left ≡ l.right → l.fn.one ≡ l.fn.other;
  down : l.fn.one ≡ l.fn.other → l.left ≡ l.right;
}

abbrev pub decreases-items : goal.decreases-items
decreases-items l = length l.left
