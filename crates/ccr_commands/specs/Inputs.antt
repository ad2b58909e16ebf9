-- What stands where in an input.
use Rattle.std.specs.Prelude.{ℕ, ◌+◌, ◌==◌, Bool, true, false, List, [], ◌∷◌, take, drop, codes, Option, Some, None, Result, Ok, Err, if◌then◌else◌}
use Rattle.ccr_base.specs.Bounds.{most_bytes, most_wiring_bytes}
use Rattle.ccr_text.specs.Lines.{find_line}
use Rattle.ccr_wiring.specs.Actors.{actor_count}
use Rattle.ccr_wiring.specs.declared.parts.Parts.{Parts}
use Rattle.ccr_wiretext.specs.Reading.{reading_text}
use Rattle.ccr_replay.specs.Turns.{reading_turns}
use Rattle.ccr_replay.specs.declared.records.Record.{Record as Recorded}
use Rattle.ccr_replay.specs.Reading.{reading_part, reading_record}
use Rattle.ccr_service.specs.declared.parts.ServiceParts.{ServiceParts}
use Rattle.ccr_service.specs.Expansion.{expansion}
use Rattle.ccr_service.specs.Reading.{reading_text as reading_service}
use Rattle.ccr_words.specs.declared.requests.Command.{Command}
use Rattle.ccr_words.specs.declared.requests.Command.TheVariants.{Run, Verify, Replay, Steps, Service, Expand}

-- the most bytes that an input may have
abbrev pub limit_of : Command → ℕ
limit_of Verify = most_bytes
limit_of Replay = most_bytes
limit_of Steps = most_bytes
limit_of _ = most_wiring_bytes

-- where the first line begins whose first word is `history`, and how many lines stand before it
abbrev pub history_index : List ℕ → ℕ × ℕ
history_index bytes = find_line bytes (codes "history")

-- what stands before that line
abbrev pub wiring_part : List ℕ → List ℕ
wiring_part bytes = take (history_index bytes).0 bytes

-- that line and all behind it
abbrev pub output_part : List ℕ → List ℕ
output_part bytes = drop (history_index bytes).0 bytes

-- where the first line begins whose first word is `turn`, and how many lines stand before it
abbrev pub turn_index : List ℕ → ℕ × ℕ
turn_index bytes = find_line bytes (codes "turn")

-- what stands before that line
abbrev pub part_before_turns : List ℕ → List ℕ
part_before_turns bytes = take (turn_index bytes).0 bytes

-- that line and all behind it
abbrev pub turn_part : List ℕ → List ℕ
turn_part bytes = drop (turn_index bytes).0 bytes

-- the turns of the posters and so many workers, or the first offending line and its code
abbrev pub turns_in : Parts → ℕ → List ℕ → Result (List ℕ) (ℕ × ℕ)
turns_in wiring workers bytes = reading_turns (turn_part bytes) (turn_index bytes).1 (actor_count wiring workers)

-- the wiring, where the turns behind it are read too
abbrev pub with_turns : ℕ → List ℕ → Result Parts (ℕ × ℕ) → Result Parts (ℕ × ℕ)
with_turns workers bytes (Err refusal) = Err refusal
with_turns workers bytes (Ok wiring) = elim (turns_in wiring workers bytes) [ Ok turns ↦ Ok wiring | Err refusal ↦ Err refusal ]

-- the turns that were read; none where they are no part of the input
abbrev pub turns_of : Bool → Parts → ℕ → List ℕ → Option (List ℕ)
turns_of false wiring workers bytes = None
turns_of true wiring workers bytes = elim (turns_in wiring workers bytes) [ Ok turns ↦ Some turns | Err refusal ↦ Some [] ]

-- the wiring of the input of a run, which may have turns behind it
abbrev pub reading_run : Bool → ℕ → List ℕ → Result Parts (ℕ × ℕ)
reading_run false workers bytes = reading_text bytes
reading_run true workers bytes = with_turns workers bytes (reading_text (part_before_turns bytes))

-- the wiring of the record that was read
abbrev pub wiring_of_record : Result Recorded (ℕ × ℕ) → Result Parts (ℕ × ℕ)
wiring_of_record (Ok said) = Ok said.wiring
wiring_of_record (Err refusal) = Err refusal

-- the wiring that the service that was read stands for
abbrev pub wiring_of_service : Result ServiceParts (ℕ × ℕ) → Result Parts (ℕ × ℕ)
wiring_of_service (Ok service) = Ok (expansion service)
wiring_of_service (Err refusal) = Err refusal

-- the wiring of an input, or the first offending line and its code
abbrev pub reading_input : Command → List ℕ → Result Parts (ℕ × ℕ)
reading_input (Run workers schedule) bytes = reading_run schedule workers bytes
reading_input Verify bytes = reading_part (wiring_part bytes)
reading_input Replay bytes = wiring_of_record (reading_record bytes)
reading_input Steps bytes = wiring_of_record (reading_record bytes)
reading_input (Service workers) bytes = wiring_of_service (reading_service bytes)
reading_input Expand bytes = wiring_of_service (reading_service bytes)
reading_input _ bytes = reading_text bytes

-- the line at which a text first differs from the one that is due, of lines of which the first has this number; none where they are the same
abbrev pub first_difference : ℕ → List ℕ → List ℕ → Option ℕ
first_difference line [] [] = None
first_difference line [] (b ∷ due) = Some line
first_difference line (a ∷ text) [] = Some line
first_difference line (a ∷ text) (b ∷ due) = if a == b then first_difference (if a == 10 then line + 1 else line) text due else Some line
