-- What a source and a sink in memory are.
use Rattle.std.specs.Prelude.{ℕ, ◌+◌, ◌-◌, ◌^◌, min, Bool, List, Option, Some, None, if◌then◌else◌}

-- the bytes still to come, the numbers of the calls that fail, and how many calls were made and failed
pub record SourceState : Type 0 where
  pub rest : List ℕ
  pub failing : List ℕ
  pub calls : ℕ
  pub faults : ℕ

-- the bytes written, how many more there is room for, the numbers of the calls that fail, and how many calls were made and failed
pub record SinkState : Type 0 where
  pub written : List ℕ
  pub room : ℕ
  pub failing : List ℕ
  pub calls : ℕ
  pub faults : ℕ

-- the bytes still to come of a source that never fails
pub record SureRest : Type 0 where
  pub rest : List ℕ

-- the bytes that a sink that never fails has kept, how many more it has room for, and whether each byte has found room
pub record SureState : Type 0 where
  pub kept : List ℕ
  pub room : ℕ
  pub is_whole : Bool

-- what was written is told until a byte has found no room
abbrev pub told : SureState → Option (List ℕ)
told sink = if sink.is_whole then Some sink.kept else None

-- a count after one more, which stays at its last value
abbrev pub raised : ℕ → ℕ
raised count = min (count + 1) (2 ^ 64 - 1)
