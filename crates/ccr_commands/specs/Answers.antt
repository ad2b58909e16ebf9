-- What the program answers: which text is due for which words and which input.
use Rattle.std.specs.Prelude.{◌≡◌, ℕ, Bool, true, false, List, [], ◌∷◌, ◌++◌, ◌<◌, ◌≤◌, length, Option, Some, None, Ok, Err, codes, decimal}
use Rattle.ccr_io.specs.Bytes.{IsLongerThan}
use Rattle.ccr_wiring.specs.declared.parts.Parts.{Parts}
use Rattle.ccr_wiretext.specs.Spelling.{spelling}
use Rattle.ccr_json.specs.Wiring.{wiring_json}
use Rattle.ccr_wiretext.specs.declared.refused.ReadRefused.{ReadRefused}
use Rattle.ccr_wiretext.specs.declared.refused.ReadRefused.TheVariants.{At}
use Rattle.ccr_commands.specs.declared.status.Status.{Status}
use Rattle.ccr_commands.specs.declared.status.Status.TheVariants.{Done, Usage, Refused, ReadFault, WriteFault, Memory, Shed, Illegal, TooLong}
use Rattle.ccr_words.specs.declared.requests.Command.{Command}
use Rattle.ccr_words.specs.declared.requests.Command.TheVariants.{Check, Run, Verify, Record, Replay, Steps, Steady, Service, Expand}
use Rattle.ccr_words.specs.declared.requests.Request.{Request}
use Rattle.ccr_words.specs.declared.requests.Request.TheVariants.{Read, Load}
use Rattle.ccr_words.specs.AskedFor.{asked_for}
use Rattle.ccr_commands.specs.declared.findings.Finding.{Finding}
use Rattle.ccr_commands.specs.Statuses.{IsDoneAnd}
use Rattle.ccr_commands.specs.Inputs.{limit_of, history_index, output_part, reading_input, turns_of}
use Rattle.ccr_commands.specs.Runs.{RunGives}
use Rattle.ccr_commands.specs.Loads.{LoadGives}
use Rattle.ccr_commands.specs.Records.{RecordGives, ReplayGives, StepsGives}
use Rattle.ccr_commands.specs.Steady.{SteadyGives}
use Rattle.ccr_commands.specs.Services.{ServiceGives, ExpandGives}
use Rattle.ccr_commands.specs.Findings.{IsFound, VerifyGives, is_fault}
use Rattle.ccr_replay.specs.declared.records.Record.{Record as Recorded}
use Rattle.ccr_replay.specs.Reading.{reading_part, reading_record}
use Rattle.ccr_service.specs.declared.parts.ServiceParts.{ServiceParts}
use Rattle.ccr_service.specs.Reading.{reading_text as reading_service}

-- two lines
abbrev pub usage_text : List ℕ
usage_text = codes "usage: ccr check|run|verify|load|record|replay|steps|steady|service|expand [--workers N] [--schedule] [--json] [--size N]" ++ 10 ∷ codes "done 1" ++ 10 ∷ []

-- the first offending line and its code
abbrev pub refused_text : ℕ → ℕ → List ℕ
refused_text line code = codes "refused " ++ decimal line ++ 32 ∷ decimal code ++ 10 ∷ codes "done 2" ++ 10 ∷ []

-- what is written where there are too many bytes
abbrev pub too_long_text : List ℕ
too_long_text = codes "too long" ++ 10 ∷ codes "done 8" ++ 10 ∷ []

-- the canonical text of a wiring, or its line of JSON
abbrev pub wiring_of : Bool → Parts → List ℕ
wiring_of false wiring = spelling wiring
wiring_of true wiring = wiring_json wiring

-- the wiring and the last line
abbrev pub check_text : Bool → Parts → List ℕ
check_text json wiring = wiring_of json wiring ++ codes "done 0" ++ 10 ∷ []

-- the text that is due for the word `check`
abbrev pub CheckGives : Bool → Parts → Status → List ℕ → Type 0
CheckGives json wiring status text = IsDoneAnd status (text ≡ check_text json wiring)

-- the text that is due for a wiring and the bytes of which it was read
abbrev pub Answers : Command → Bool → Parts → List ℕ → Status → List ℕ → Type 0
Answers Check json wiring bytes status text = CheckGives json wiring status text
Answers (Run workers schedule) json wiring bytes status text = RunGives json wiring workers (turns_of schedule wiring workers bytes) status text
Answers Verify json wiring bytes status text = VerifyGives wiring (history_index bytes).1 (output_part bytes) status text
Answers (Record workers) json wiring bytes status text = RecordGives wiring workers bytes status text
Answers Replay json wiring bytes status text = (said : Recorded) × (reading_record bytes ≡ Ok said) × ReplayGives said status text
Answers Steps json wiring bytes status text = (said : Recorded) × (reading_record bytes ≡ Ok said) × StepsGives said status text
Answers Steady json wiring bytes status text = SteadyGives wiring status text
Answers (Service workers) json wiring bytes status text = (service : ServiceParts) × (reading_service bytes ≡ Ok service) × ServiceGives service workers status text
Answers Expand json wiring bytes status text = (service : ServiceParts) × (reading_service bytes ≡ Ok service) × ExpandGives service status text

-- the text that is due for what says a wiring, and for an output behind so many lines
abbrev pub PartsGive : List ℕ → ℕ → List ℕ → Status → List ℕ → Type 0
PartsGive part before output Refused text = (line : ℕ) × (code : ℕ) × (reading_part part ≡ Err (line, code)) × (text ≡ refused_text line code)
PartsGive part before output status text = (wiring : Parts) × (reading_part part ≡ Ok wiring) × VerifyGives wiring before output status text

-- the text that is due for the bytes of an input that isn't too long
abbrev pub AnswersText : Command → Bool → List ℕ → Status → List ℕ → Type 0
AnswersText command json bytes Refused text = (line : ℕ) × (code : ℕ) × (reading_input command bytes ≡ Err (line, code)) × (text ≡ refused_text line code)
AnswersText command json bytes status text = (wiring : Parts) × (reading_input command bytes ≡ Ok wiring) × Answers command json wiring bytes status text

-- the same for what the source has to come, where it tells that
abbrev pub AnswersRest : Command → Bool → Option (List ℕ) → Status → List ℕ → Type 0
AnswersRest command json None status text = (bytes : List ℕ) × AnswersText command json bytes status text
AnswersRest command json (Some bytes) status text = (length bytes ≤ limit_of command) × AnswersText command json bytes status text

-- the same for one that may have too much to come
abbrev pub AnswersInput : Command → Bool → Option (List ℕ) → Status → List ℕ → Type 0
AnswersInput command json rest Usage text = ⊥
AnswersInput command json rest ReadFault text = ⊥
AnswersInput command json rest WriteFault text = ⊥
AnswersInput command json rest Memory text = ⊥
AnswersInput command json rest TooLong text = IsLongerThan (limit_of command) rest × (text ≡ too_long_text)
AnswersInput command json rest status text = AnswersRest command json rest status text

-- the text that is due for what was asked for
abbrev pub AnswersRequest : Option Request → Option (List ℕ) → Status → List ℕ → Type 0
AnswersRequest None rest Usage text = text ≡ usage_text
AnswersRequest None rest _ text = ⊥
AnswersRequest (Some (Read command json)) rest status text = AnswersInput command json rest status text
AnswersRequest (Some (Load size workers json)) rest status text = LoadGives size workers json status text

-- the text that is due for the words and for what the source has to come
abbrev pub IsDue : Status → List (List ℕ) → Option (List ℕ) → List ℕ → Type 0
IsDue status words rest text = AnswersRequest (asked_for words) rest status text

-- the source tells its bytes, and they say some wiring
abbrev pub IsAccepted : Command → Option (List ℕ) → Type 0
IsAccepted command None = ⊥
IsAccepted command (Some bytes) = (length bytes ≤ limit_of command) × ((wiring : Parts) × (reading_input command bytes ≡ Ok wiring))

-- the source tells its bytes, and they are refused at some line with some code
abbrev pub IsDeclined : Command → Option (List ℕ) → Type 0
IsDeclined command None = ⊥
IsDeclined command (Some bytes) = (length bytes ≤ limit_of command) × ((line : ℕ) × (code : ℕ) × (reading_input command bytes ≡ Err (line, code)))

-- the source tells its bytes, and they are too many
abbrev pub IsExcessive : Command → Option (List ℕ) → Type 0
IsExcessive command None = ⊥
IsExcessive command (Some bytes) = limit_of command < length bytes

-- the source tells its bytes, and they say a wiring and an output in which there is a fault, or none
abbrev pub IsVerified : Bool → Option (List ℕ) → Type 0
IsVerified fault None = ⊥
IsVerified fault (Some bytes) =
    (length bytes ≤ limit_of Verify)
    × ((wiring : Parts) × (finding : Finding) × (reading_input Verify bytes ≡ Ok wiring)
    × IsFound wiring (history_index bytes).1 (output_part bytes) finding
    × (is_fault finding ≡ fault))

-- what was read to its end is exhausted: a source that told its bytes has none left
abbrev pub IsExhausted : Status → Option (List ℕ) → Option (List ℕ) → Type 0
IsExhausted Usage before after = Unit {0}
IsExhausted TooLong before after = Unit {0}
IsExhausted status None after = Unit {0}
IsExhausted status (Some bytes) after = after ≡ Some []

-- whether the request reads the source
abbrev pub reads : Option Request → Bool
reads (Some (Read command json)) = true
reads _ = false

-- the same for a request that was answered as done: a load reads nothing
abbrev pub IsReadOut : Option Request → Option (List ℕ) → Option (List ℕ) → Type 0
IsReadOut (Some (Load size workers json)) before after = Unit {0}
IsReadOut _ before after = IsExhausted Done before after

-- the same for what was asked for and answered with this status
abbrev pub IsExhaustedFor : Option Request → Status → Option (List ℕ) → Option (List ℕ) → Type 0
IsExhaustedFor request Done before after = IsReadOut request before after
IsExhaustedFor request status before after = IsExhausted status before after

-- the text that is due for a refused wiring
abbrev pub RefusedGives : ReadRefused → Status → List ℕ → Type 0
RefusedGives (At line code) Refused text = text ≡ refused_text line code
RefusedGives _ _ text = ⊥

-- whether the status may come of a wiring that was read
abbrev pub may_end : Command → Status → Bool
may_end command Done = true
may_end (Run workers schedule) Shed = true
may_end Verify Illegal = true
may_end _ _ = false

-- the law holds of the command that the words ask for, where it is one that reads an input
abbrev pub OfCommand : List (List ℕ) → (Command → Type 0) → Type 0
OfCommand words law = (command : Command) → (json : Bool) → asked_for words ≡ Some (Read command json) → law command
