-- The same as `asked_for`, in the order in which clap looks: each word has to be text, and a value that begins with a hyphen is
-- refused at once. Only the private functions that call clap, and proofs, cite it; `proofs/Same` shows that both say the same.
use Rattle.std.specs.Prelude.{◌≡◌, ◌||◌, ◌∷◌, Bool, true, false, List, [], Option, Some, None, if◌then◌else◌, codes, is_some, option_and_then}
use Rattle.std.specs.List.{list_all}
use Rattle.std.specs.Str.{bytes_eq, is_utf8}
use Rattle.clap.specs.Lexer.{long_of, short_of}
use Rattle.clap.specs.Matches.{first_value, found_of, one_text}
use Rattle.clap.specs.declared.parser.matches.ArgMatches.{ArgMatches}
use Rattle.ccr_words.specs.Parts.{Given, Part, State, Text, at_end, given_so_far, has, left_over, new_option_turn, option_of, start, text_of, with_part}
use Rattle.ccr_words.specs.Parts as part
use Rattle.ccr_words.specs.Table.{meaning}
use Rattle.ccr_words.specs.declared.requests.Request.{Request}

-- a word that is no long option: short ones aren't known, and any other word is left over
abbrev pub hyphen_or_left_over : State → Text → Option Text → Option State
hyphen_or_left_over s text (Some flags) = None
hyphen_or_left_over s text None = left_over s text

-- a word for which no part waits: a long option, else a short one or a word that is left over
abbrev pub other_turn : State → Text → Option (Text × Option Text) → Option State
other_turn s text (Some p) = new_option_turn s (option_of p.0) p.1
other_turn s text None = hyphen_or_left_over s text (short_of text)

-- whether the word would be read as an option
abbrev pub begins_with_hyphen : Text → Bool
begins_with_hyphen text = bytes_eq text (codes "--") || (is_some (long_of text) || is_some (short_of text))

-- the value that a part waits for, the sign that options end, or any other word
abbrev pub value_turn : State → Option Part → Text → Option State
value_turn s (Some part) text =
    if begins_with_hyphen text then None else Some (given_so_far (with_part part text s.given))
value_turn s None text =
    if bytes_eq text (codes "--") then Some (record s { ended = true })
    else other_turn s text (long_of text)

-- one more word
abbrev pub parsed_turn : State → Text → Option State
parsed_turn s text = if s.ended then left_over s text else value_turn s s.awaits text

-- the words one behind the other
abbrev pub parsed_after : State → List Text → Option Given
parsed_after s [] = at_end s
parsed_after s (text ∷ texts) = option_and_then (λ t. parsed_after t texts) (parsed_turn s text)

-- the parts that the words give, each at most once, and the word among them
abbrev pub parsed_by : List Text → Option Given
parsed_by words = parsed_after start words

-- the words, where each is text
abbrev pub texts : List Text → Option (List Text)
texts words = if list_all is_utf8 words then Some words else None

-- what the words ask for
abbrev pub parsed_said : List Text → Option Request
parsed_said words = option_and_then meaning (option_and_then parsed_by (texts words))

-- what clap keeps of a flag
abbrev pub flag_text : Bool → Text
flag_text true = codes "true"
flag_text false = codes "false"

-- clap's matches have what was given
pub record HasGiven (m : ArgMatches) (given : Given) : Type 0 where
  pub word : first_value (found_of m) (codes "word") ≡ text_of part.word given
  pub workers : first_value (found_of m) (codes "workers") ≡ text_of part.workers given
  pub size : first_value (found_of m) (codes "size") ≡ text_of part.size given
  pub schedule : one_text (found_of m) (codes "schedule") ≡ Some (flag_text (has part.schedule given))
  pub json : one_text (found_of m) (codes "json") ≡ Some (flag_text (has part.json given))
