use Rattle.std.proofs.Common.{◌≡◌, ◌+◌, ◌-◌, ◌≤◌, ℕ, Option, length, vec_len}
use Rattle.std.specs.List.{slice_get}
use Rattle.ccr_port.specs.Chains.{behind_of, before_of}
use Rattle.ccr_port.proofs.lane.extend.Given as goal

abbrev pub invariant-loop-links : goal.invariant-loop-links
invariant-loop-links l = record {
  behind : (first other : Option ℕ) → behind_of (slice_get l.links.items) first other ≡ behind_of (slice_get l.initial.links.items) first other;
  before : (last other : Option ℕ) → before_of (slice_get l.links.items) last other ≡ before_of (slice_get l.initial.links.items) last other;
  grown : length l.initial.links.items ≤ length l.links.items;
}

abbrev pub decreases-loop-links : goal.decreases-loop-links
decreases-loop-links l = l.key + 1 - vec_len l.links
