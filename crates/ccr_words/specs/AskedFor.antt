-- What the words behind the program's name ask for, word by word from the left.
use Rattle.std.specs.Prelude.{◌==◌, ◌∷◌, ℕ, Bool, true, false, List, [], Option, Some, None, if◌then◌else◌, codes, option_and_then}
use Rattle.std.specs.Str.{bytes_eq}
use Rattle.clap.specs.Lexer.{long_of}
use Rattle.ccr_words.specs.Parts.{Given, Part, State, Text, at_end, given_so_far, left_over, new_option_turn, option_of, start, with_part}
use Rattle.ccr_words.specs.Table.{meaning}
use Rattle.ccr_words.specs.declared.requests.Request.{Request}

-- whether the text's first byte is this one
abbrev pub begins_with : ℕ → Text → Bool
begins_with byte [] = false
begins_with byte (x ∷ xs) = x == byte

-- a word that is no value: --NAME or --NAME=VALUE is an option, each other word with a hyphen in front is refused
abbrev pub plain_turn : State → Text → Option (Text × Option Text) → Option State
plain_turn s text (Some p) = new_option_turn s (option_of p.0) p.1
plain_turn s text None = if begins_with 45 text then None else left_over s text

-- the value that an option waits for is the next word, whatever it is; else `--` ends the options
abbrev pub next_turn : State → Option Part → Text → Option State
next_turn s (Some part) text = Some (given_so_far (with_part part text s.given))
next_turn s None text = if bytes_eq text (codes "--") then Some (record s { ended = true }) else plain_turn s text (long_of text)

-- one more word
abbrev pub turn : State → Text → Option State
turn s text = if s.ended then left_over s text else next_turn s s.awaits text

-- the words one behind the other
abbrev pub given_after : State → List Text → Option Given
given_after s [] = at_end s
given_after s (text ∷ texts) = option_and_then (λ t. given_after t texts) (turn s text)

-- what the words ask for; none where they are not of the form
abbrev pub asked_for : List Text → Option Request
asked_for words = option_and_then meaning (given_after start words)
