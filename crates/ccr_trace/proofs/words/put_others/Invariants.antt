use Rattle.std.proofs.Common.{◌≡◌, ◌<◌, ◌^◌, ◌++◌, take}
use Rattle.std.specs.List.{All}
use Rattle.ccr_trace.specs.Words.{other_numbers}
use Rattle.ccr_trace.proofs.words.put_others.Given as goal

abbrev pub invariant-loop-number : goal.invariant-loop-number
invariant-loop-number l = record {
  text : l.out ≡ l.fn.out ++ other_numbers (take l.number-index l.others);
  numbers : All (λ n. n < 2 ^ 64) (take l.number-index l.others);
}
