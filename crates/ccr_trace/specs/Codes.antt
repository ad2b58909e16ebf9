-- The numbers of the codes of refusal.
use Rattle.std.specs.Prelude.{ℕ}
use Rattle.ccr_trace.specs.declared.refused.HistoryCode.{HistoryCode}
use Rattle.ccr_trace.specs.declared.refused.HistoryCode.TheVariants as faults

-- the number by which a code is told
abbrev pub code_number : HistoryCode → ℕ
code_number faults.Malformed = 1
code_number faults.Unknown = 2
code_number faults.Unfinished = 3
