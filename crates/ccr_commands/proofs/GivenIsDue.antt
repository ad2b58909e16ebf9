-- What an output, a record or a service gives is due for the bytes of which it was read.
use Rattle.std.proofs.Common.{◌≡◌, ℕ, Bool, List, Result, Ok, Err, ap, subst, take, drop}
use Rattle.std.specs.Prelude.{IfOk}
use Rattle.ccr_base.specs.declared.list.OutOfMemory.{OutOfMemory}
use Rattle.ccr_commands.specs.declared.outputs.Output.{Output}
use Rattle.ccr_commands.specs.declared.status.Status.{Status}
use Rattle.ccr_commands.specs.declared.status.Status.TheVariants.{Done, Usage, Refused, ReadFault, WriteFault, Memory, Shed, Illegal, TooLong}
use Rattle.ccr_wiring.specs.declared.parts.Parts.{Parts}
use Rattle.ccr_words.specs.declared.requests.Command.TheVariants.{Verify, Replay, Steps, Service, Expand}
use Rattle.ccr_replay.specs.declared.records.Record.{Record}
use Rattle.ccr_replay.specs.Reading.{reading_part, reading_record}
use Rattle.ccr_service.specs.declared.parts.ServiceParts.{ServiceParts}
use Rattle.ccr_service.specs.Expansion.{expansion}
use Rattle.ccr_service.specs.Reading.{reading_text as reading_service}
use Rattle.ccr_commands.specs.Answers.{AnswersText, PartsGive}
use Rattle.ccr_commands.proofs.DoneAlone.{done_alone}
use Rattle.ccr_commands.specs.Findings.{VerifyGives}
use Rattle.ccr_commands.specs.Inputs.{history_index, output_part, wiring_part, wiring_of_record, wiring_of_service}
use Rattle.ccr_commands.specs.Records.{ReplayGives, StepsGives}
use Rattle.ccr_commands.specs.Services.{ServiceGives, ExpandGives}

-- where the wiring's part is read, what is found is what is given
pub found_is_given : (part : List ℕ) (before : ℕ) (output : List ℕ) (wiring : Parts) (status : Status) (text : List ℕ) → reading_part part ≡ Ok wiring → VerifyGives wiring before output status text → PartsGive part before output status text
found_is_given part before output wiring Done text reads gives = (wiring, reads, gives)
found_is_given part before output wiring Illegal text reads gives = (wiring, reads, gives)
found_is_given part before output wiring Usage text reads gives = absurd gives
found_is_given part before output wiring Refused text reads gives = absurd gives
found_is_given part before output wiring ReadFault text reads gives = absurd gives
found_is_given part before output wiring WriteFault text reads gives = absurd gives
found_is_given part before output wiring Memory text reads gives = absurd gives
found_is_given part before output wiring Shed text reads gives = absurd gives
found_is_given part before output wiring TooLong text reads gives = absurd gives

parts_due : (json : Bool) (bytes : List ℕ) (status : Status) (text : List ℕ) → PartsGive (wiring_part bytes) (history_index bytes).1 (output_part bytes) status text → AnswersText Verify json bytes status text
parts_due json bytes Done text gives = gives
parts_due json bytes Illegal text gives = gives
parts_due json bytes Usage text gives = gives
parts_due json bytes Refused text gives = gives
parts_due json bytes ReadFault text gives = gives
parts_due json bytes WriteFault text gives = gives
parts_due json bytes Memory text gives = gives
parts_due json bytes Shed text gives = gives
parts_due json bytes TooLong text gives = gives

-- what is given for the two parts of an input is due for it
pub parts_are_due : (json : Bool) (bytes : List ℕ) (index : ℕ × ℕ) (result : Result Output OutOfMemory) → index ≡ history_index bytes → IfOk result (λ due. PartsGive (take index.0 bytes) index.1 (drop index.0 bytes) due.status due.text) → IfOk result (λ due. AnswersText Verify json bytes due.status due.text)
parts_are_due json bytes index (Err e) is gives = tt
parts_are_due json bytes index (Ok due) is gives = parts_due json bytes due.status due.text (subst (λ (p : ℕ × ℕ). PartsGive (take p.0 bytes) p.1 (drop p.0 bytes) due.status due.text) is gives)

pub replay_is_due : (json : Bool) (bytes : List ℕ) (said : Record) (status : Status) (text : List ℕ) → reading_record bytes ≡ Ok said → ReplayGives said status text → AnswersText Replay json bytes status text
replay_is_due json bytes said status text reads gives =
    done_alone status _ (λ (s : Status). AnswersText Replay json bytes s text) gives (λ given. (said.wiring, ap wiring_of_record reads, (said, reads, given)))

pub steps_is_due : (json : Bool) (bytes : List ℕ) (said : Record) (status : Status) (text : List ℕ) → reading_record bytes ≡ Ok said → StepsGives said status text → AnswersText Steps json bytes status text
steps_is_due json bytes said status text reads gives =
    done_alone status _ (λ (s : Status). AnswersText Steps json bytes s text) gives (λ given. (said.wiring, ap wiring_of_record reads, (said, reads, given)))

pub service_is_due : (json : Bool) (bytes : List ℕ) (workers : ℕ) (said : ServiceParts) (status : Status) (text : List ℕ) → reading_service bytes ≡ Ok said → ServiceGives said workers status text → AnswersText (Service workers) json bytes status text
service_is_due json bytes workers said status text reads gives =
    done_alone status _ (λ (s : Status). AnswersText (Service workers) json bytes s text) gives (λ given. (expansion said, ap wiring_of_service reads, (said, reads, given)))

pub expand_is_due : (json : Bool) (bytes : List ℕ) (said : ServiceParts) (status : Status) (text : List ℕ) → reading_service bytes ≡ Ok said → ExpandGives said status text → AnswersText Expand json bytes status text
expand_is_due json bytes said status text reads gives =
    done_alone status _ (λ (s : Status). AnswersText Expand json bytes s text) gives (λ given. (expansion said, ap wiring_of_service reads, (said, reads, given)))
