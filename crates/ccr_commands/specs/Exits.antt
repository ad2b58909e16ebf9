-- The exit statuses of the program as numbers: `Status` of src/status.rt has them too.
use Rattle.std.specs.Prelude.{ℕ, List, [], ◌∷◌}

-- the text was written whole, and a run had no shed end
abbrev pub exit_done : ℕ
exit_done = 0

-- the words ask for nothing
abbrev pub exit_usage : ℕ
exit_usage = 1

-- the input is refused
abbrev pub exit_refused : ℕ
exit_refused = 2

-- the source had a fault
abbrev pub exit_read_fault : ℕ
exit_read_fault = 3

-- the sink had a fault
abbrev pub exit_write_fault : ℕ
exit_write_fault = 4

-- the program ran out of memory
abbrev pub exit_no_memory : ℕ
exit_no_memory = 5

-- the text was written whole, and the run had a shed end
abbrev pub exit_shed : ℕ
exit_shed = 6

-- the output that was judged has a fault
abbrev pub exit_illegal : ℕ
exit_illegal = 7

-- the input is too long
abbrev pub exit_too_long : ℕ
exit_too_long = 8

-- reading failed, writing failed, or the process was out of memory
abbrev pub failures : List ℕ
failures = exit_read_fault ∷ exit_write_fault ∷ exit_no_memory ∷ []
