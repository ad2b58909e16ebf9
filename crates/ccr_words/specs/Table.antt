-- The table of the words: which options a word may have, and which numbers.
use Rattle.std.specs.Prelude.{◌&&◌, ◌||◌, ◌<◌, ◌≤◌, ℕ, Bool, false, Option, Some, None, if◌then◌else◌, codes, is_some, length, nat_lt, nat_le, option_and_then, option_map}
use Rattle.std.specs.Option.{option_or}
use Rattle.std.specs.List.{list_all}
use Rattle.std.specs.Char.{is_ascii_digit}
use Rattle.std.specs.Str.{bytes_eq}
use Rattle.std.specs.Str.Parse.{digits_value}
use Rattle.ccr_base.specs.Bounds.{most_size, most_workers}
use Rattle.ccr_words.specs.Parts.{Given, Text, has, text_of}
use Rattle.ccr_words.specs.Parts as part
use Rattle.ccr_words.specs.declared.requests.Request.{Request}
use Rattle.ccr_words.specs.declared.requests.Request.TheVariants.{Read, Load}
use Rattle.ccr_words.specs.declared.requests.Command.{Command}
use Rattle.ccr_words.specs.declared.requests.Command.TheVariants.{Check, Run, Verify, Record, Replay, Steps, Steady, Service, Expand}

-- decimal digits, and at least one
abbrev pub is_number : Text → Bool
is_number text = nat_lt 0 (length text) && list_all is_ascii_digit text

-- a number of decimal digits between two bounds
abbrev pub number : ℕ → ℕ → Text → Option ℕ
number low high text =
    if is_number text && (nat_le low (digits_value 10 text) && nat_le (digits_value 10 text) high)
    then Some (digits_value 10 text) else None

-- the number that was given, within the bounds; the default where none was given
abbrev pub number_or : ℕ → ℕ → ℕ → Option Text → Option ℕ
number_or default low high None = Some default
number_or default low high (Some text) = number low high text

-- the workers of a run and the posts of a load, where none are given
abbrev pub usual_workers : ℕ
usual_workers = 4

abbrev pub usual_size : ℕ
usual_size = 1000

-- `check` may have --json
abbrev pub check_request : Option Text → Option Text → Bool → Bool → Option Request
check_request workers size schedule json = if is_some workers || (is_some size || schedule) then None else Some (Read Check json)

-- `run` may have --workers from 0 to 16, else 4, --schedule and --json
abbrev pub run_request : Option Text → Option Text → Bool → Bool → Option Request
run_request workers size schedule json = if is_some size then None else option_map (λ n. Read (Run n schedule) json) (number_or usual_workers 0 most_workers workers)

-- a word that has no option
abbrev pub plain_request : Command → Option Text → Option Text → Bool → Bool → Option Request
plain_request command workers size schedule json = if is_some workers || (is_some size || (schedule || json)) then None else Some (Read command false)

-- the workers of a word that may have --workers alone: from 0 to 16, else 4
abbrev pub workers_alone : Option Text → Option Text → Bool → Bool → Option ℕ
workers_alone workers size schedule json = if is_some size || (schedule || json) then None else number_or usual_workers 0 most_workers workers

-- `record` may have --workers
abbrev pub record_request : Option Text → Option Text → Bool → Bool → Option Request
record_request workers size schedule json = option_map (λ n. Read (Record n) false) (workers_alone workers size schedule json)

-- `service` may have --workers
abbrev pub service_request : Option Text → Option Text → Bool → Bool → Option Request
service_request workers size schedule json = option_map (λ n. Read (Service n) false) (workers_alone workers size schedule json)

-- a load, where both numbers are good
abbrev pub load_of : Option ℕ → Option ℕ → Bool → Option Request
load_of (Some workers) (Some size) json = Some (Load size workers json)
load_of _ _ json = None

-- `load` may have --workers from 0 to 16, else 0, --size from 1 to 10,000, else 1,000, and --json
abbrev pub load_request : Option Text → Option Text → Bool → Bool → Option Request
load_request workers size schedule json = if schedule then None else load_of (number_or 0 0 most_workers workers) (number_or usual_size 1 most_size size) json

-- a run has at most 16 workers
abbrev pub HasFewWorkers : Command → Type 0
HasFewWorkers (Run workers schedule) = workers ≤ most_workers
HasFewWorkers (Record workers) = workers ≤ most_workers
HasFewWorkers (Service workers) = workers ≤ most_workers
HasFewWorkers _ = Unit {0}

-- a load is of 1 to 10,000 posts and has at most 16 workers, and so has a run
abbrev pub IsWithin : Request → Type 0
IsWithin (Load size workers json) = ((0 < size) × (size ≤ most_size)) × (workers ≤ most_workers)
IsWithin (Read command json) = HasFewWorkers command

-- a word of a wiring, a run or its output
abbrev pub wiring_word : Text → Option Text → Option Text → Bool → Bool → Option Request
wiring_word word workers size schedule json =
    if bytes_eq word (codes "check") then check_request workers size schedule json
    else (if bytes_eq word (codes "run") then run_request workers size schedule json
    else (if bytes_eq word (codes "verify") then plain_request Verify workers size schedule json
    else (if bytes_eq word (codes "load") then load_request workers size schedule json
    else None)))

-- a word of a record, of what all runs agree on, or of a service
abbrev pub further_word : Text → Option Text → Option Text → Bool → Bool → Option Request
further_word word workers size schedule json =
    if bytes_eq word (codes "record") then record_request workers size schedule json
    else (if bytes_eq word (codes "replay") then plain_request Replay workers size schedule json
    else (if bytes_eq word (codes "steps") then plain_request Steps workers size schedule json
    else (if bytes_eq word (codes "steady") then plain_request Steady workers size schedule json
    else (if bytes_eq word (codes "service") then service_request workers size schedule json
    else (if bytes_eq word (codes "expand") then plain_request Expand workers size schedule json
    else None)))))

-- the word with the options that were given
abbrev pub request_of : Text → Option Text → Option Text → Bool → Bool → Option Request
request_of word workers size schedule json = option_or (wiring_word word workers size schedule json) (further_word word workers size schedule json)

-- what was given asks for this
abbrev pub meaning : Given → Option Request
meaning given = option_and_then (λ word. request_of word (text_of part.workers given) (text_of part.size given) (has part.schedule given) (has part.json given))
    (text_of part.word given)
