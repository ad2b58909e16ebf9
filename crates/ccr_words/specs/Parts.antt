-- The words behind the program's name: one word, and options with their values.
use Rattle.std.specs.Prelude.{◌||◌, ◌++◌, ◌∷◌, ℕ, Bool, true, false, not, List, [], Option, Some, None, if◌then◌else◌, codes, is_some, option_map, find}
use Rattle.std.specs.List.{list_any}
use Rattle.std.specs.Str.{bytes_eq}

-- a word as it was given, byte by byte
abbrev pub Text : Type 0
Text = List ℕ

-- the word and the options
pub data Part : Type 0 where
  word : Part
  workers : Part
  size : Part
  schedule : Part
  json : Part

-- the name under which the part is given
abbrev pub name_of : Part → Text
name_of word = codes "word"
name_of workers = codes "workers"
name_of size = codes "size"
name_of schedule = codes "schedule"
name_of json = codes "json"

-- the option of this name
abbrev pub option_of : Text → Option Part
option_of name =
    if bytes_eq (codes "workers") name then Some workers
    else (if bytes_eq (codes "size") name then Some size
    else (if bytes_eq (codes "schedule") name then Some schedule
    else (if bytes_eq (codes "json") name then Some json else None)))

-- the option is no flag
abbrev pub takes_value : Part → Bool
takes_value schedule = false
takes_value json = false
takes_value _ = true

-- what was given, each part with its text; a flag has none
abbrev pub Given : Type 0
Given = List (Part × Text)

-- whether the part was given
abbrev pub has : Part → Given → Bool
has part given = list_any (λ g. bytes_eq (name_of g.0) (name_of part)) given

-- the text of a part
abbrev pub text_of : Part → Given → Option Text
text_of part given = option_map (λ g. g.1) (find (λ g. bytes_eq (name_of g.0) (name_of part)) given)

-- one part more was given
abbrev pub with_part : Part → Text → Given → Given
with_part part text given = given ++ (part, text) ∷ []

-- what stands between two words: what was given, the option whose value comes next, and whether `--` was there
pub record State : Type 0 where
  pub given : Given
  pub awaits : Option Part
  pub ended : Bool

-- no part waits for its value
abbrev pub given_so_far : Given → State
given_so_far given = record { given = given; awaits = None; ended = false }

-- before the first word
abbrev pub start : State
start = given_so_far []

-- a word that is left over is the one word, or is refused
abbrev pub left_over : State → Text → Option State
left_over s text = if has word s.given then None else Some (record s { given = with_part word text s.given })

-- an option, with the value that follows `=` where there is one
abbrev pub option_turn : State → Part → Option Text → Option State
option_turn s part (Some value) = if takes_value part then Some (given_so_far (with_part part value s.given)) else None
option_turn s part None = Some (if takes_value part then record s { awaits = Some part } else given_so_far (with_part part [] s.given))

-- the same for one that is unknown or was given before, which is refused
abbrev pub new_option_turn : State → Option Part → Option Text → Option State
new_option_turn s None value = None
new_option_turn s (Some part) value = if has part s.given then None else option_turn s part value

-- behind the last word no value is missing, and the one word was there
abbrev pub at_end : State → Option Given
at_end s = if is_some s.awaits || not (has word s.given) then None else Some s.given
