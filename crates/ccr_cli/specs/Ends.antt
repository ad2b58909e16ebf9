-- How a call ends: what it has written, and with which statuses it may end.
use Rattle.std.specs.Prelude.{ℕ, List, [], ◌∷◌, Option, Contains}
use Rattle.ccr_io.specs.Bytes.{IsAdded, IsPrefixAdded}
use Rattle.ccr_words.specs.declared.requests.Command.{Command}
use Rattle.ccr_words.specs.declared.requests.Command.TheVariants.{Run, Verify}
use Rattle.ccr_commands.specs.declared.status.Status.{Status}
use Rattle.ccr_commands.specs.Exits.{exit_done, exit_no_memory, exit_shed, exit_illegal}
use Rattle.ccr_commands.specs.Answers.{IsDue, IsAccepted}

-- what may come beside `exit_done`
abbrev pub further_statuses : Command → List ℕ
further_statuses (Run workers schedule) = exit_shed ∷ []
further_statuses Verify = exit_illegal ∷ []
further_statuses _ = []

-- the exit statuses where a wiring is read and no fault comes
abbrev pub statuses_of : Command → List ℕ
statuses_of command = exit_done ∷ exit_no_memory ∷ further_statuses command

-- where the input is of the command's form, and neither reading nor writing had a fault, the status is one of these
abbrev pub IsOwnEnd : Command → Option (List ℕ) → Type 0 → Type 0 → ℕ → Type 0
IsOwnEnd command rest read_fault write_fault status = IsAccepted command rest → (read_fault → ⊥) → (write_fault → ⊥) → Contains (statuses_of command) status

-- the due text was written whole
abbrev pub IsAnswered : Status → List (List ℕ) → Option (List ℕ) → Option (List ℕ) → Option (List ℕ) → Type 0
IsAnswered status words rest before after = (text : List ℕ) × IsDue status words rest text × IsAdded text before after

-- a prefix of the text that is due was written
abbrev pub IsBegun : List (List ℕ) → Option (List ℕ) → Option (List ℕ) → Option (List ℕ) → Type 0
IsBegun words rest before after = (status : Status) × (text : List ℕ) × IsDue status words rest text × IsPrefixAdded text before after
