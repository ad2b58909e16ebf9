use Rattle.std.proofs.Common.{◌≡◌, drop}
use Rattle.std.specs.Prelude.{nat_lt}
use Rattle.std.specs.List.{list_all}
use Rattle.ccr_base.specs.declared.tasks.Cut.{Cut}
use Rattle.ccr_object.proofs.numbers.has_cuts.Given as goal

-- each so far has its queue
abbrev pub invariant-loop-cut : goal.invariant-loop-cut
invariant-loop-cut l = list_all (λ (cut : Cut). nat_lt cut.queue l.count) (drop l.cut-index l.cuts) ≡ list_all (λ (cut : Cut). nat_lt cut.queue l.count) l.cuts
