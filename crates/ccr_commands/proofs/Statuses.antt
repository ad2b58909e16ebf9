-- Which status the text has that is due for words and input.
use Rattle.std.proofs.Common.{◌≡◌, ℕ, Bool, true, false, List, Option, Some, None, Ok, refl, ap, subst, arith}
use Rattle.ccr_wiring.specs.declared.parts.Parts.{Parts}
use Rattle.ccr_commands.specs.declared.status.Status.{Status}
use Rattle.ccr_commands.specs.declared.status.Status.TheVariants.{Done, Usage, Refused, ReadFault, WriteFault, Memory, Shed, Illegal, TooLong}
use Rattle.ccr_words.specs.declared.requests.Command.{Command}
use Rattle.ccr_words.specs.declared.requests.Command.TheVariants.{Check, Run, Verify, Record, Replay, Steps, Steady, Service, Expand}
use Rattle.ccr_commands.specs.declared.findings.Finding.{Finding}
use Rattle.ccr_commands.specs.declared.findings.Finding.TheVariants as findings
use Rattle.ccr_words.specs.declared.requests.Request.{Request}
use Rattle.ccr_words.specs.declared.requests.Request.TheVariants.{Read, Load}
use Rattle.ccr_words.specs.AskedFor.{asked_for}
use Rattle.ccr_commands.specs.Inputs.{reading_input, history_index, output_part}
use Rattle.ccr_commands.specs.Statuses.{is_of_text}
use Rattle.ccr_commands.specs.Loads.{LoadGives, IsLoad}
use Rattle.ccr_commands.specs.Findings.{IsFound, is_fault}
use Rattle.ccr_commands.specs.Answers.{may_end, Answers, AnswersInput, AnswersRequest, IsDue, IsAccepted, IsDeclined, IsExcessive, IsVerified}
use Rattle.ccr_commands.proofs.DoneAlone.{done_status}
use Rattle.ccr_commands.proofs.Inputs.{apart}
use Rattle.ccr_commands.proofs.FoundOnce.{no_fault_beside}

for_none : (o : Option Request) (rest : Option (List ℕ)) (status : Status) (text : List ℕ) → AnswersRequest o rest status text → o ≡ None → status ≡ Usage
for_none (Some request) rest status text due is = absurd cc
for_none None rest Usage text due is = refl
for_none None rest Done text due is = absurd due
for_none None rest Shed text due is = absurd due
for_none None rest Illegal text due is = absurd due
for_none None rest Refused text due is = absurd due
for_none None rest ReadFault text due is = absurd due
for_none None rest WriteFault text due is = absurd due
for_none None rest Memory text due is = absurd due
for_none None rest TooLong text due is = absurd due

for_load : (size workers : ℕ) (json : Bool) (status : Status) (text : List ℕ) → LoadGives size workers json status text → status ≡ Done
for_load size workers json status text due = done_status status (IsLoad size workers json text) due

for_refused : (command : Command) (json : Bool) (rest : Option (List ℕ)) (status : Status) (text : List ℕ) → AnswersInput command json rest status text → IsDeclined command rest → status ≡ Refused
for_refused command json None status text due declined = absurd declined
for_refused command json (Some bytes) Refused text due declined = refl
for_refused command json (Some bytes) Usage text due declined = absurd due
for_refused command json (Some bytes) ReadFault text due declined = absurd due
for_refused command json (Some bytes) WriteFault text due declined = absurd due
for_refused command json (Some bytes) Memory text due declined = absurd due
for_refused command json (Some bytes) TooLong text due declined = absurd (omega (arith, due.0, declined.0))
for_refused command json (Some bytes) Done text due declined = absurd (apart _ due.1.0 (declined.1.0, declined.1.1) due.1.1 declined.1.2)
for_refused command json (Some bytes) Shed text due declined = absurd (apart _ due.1.0 (declined.1.0, declined.1.1) due.1.1 declined.1.2)
for_refused command json (Some bytes) Illegal text due declined = absurd (apart _ due.1.0 (declined.1.0, declined.1.1) due.1.1 declined.1.2)

for_excess : (command : Command) (json : Bool) (rest : Option (List ℕ)) (status : Status) (text : List ℕ) → AnswersInput command json rest status text → IsExcessive command rest → status ≡ TooLong
for_excess command json None status text due long = absurd long
for_excess command json (Some bytes) TooLong text due long = refl
for_excess command json (Some bytes) Usage text due long = absurd due
for_excess command json (Some bytes) ReadFault text due long = absurd due
for_excess command json (Some bytes) WriteFault text due long = absurd due
for_excess command json (Some bytes) Memory text due long = absurd due
for_excess command json (Some bytes) Refused text due long = absurd (omega (arith, due.0, long))
for_excess command json (Some bytes) Done text due long = absurd (omega (arith, due.0, long))
for_excess command json (Some bytes) Shed text due long = absurd (omega (arith, due.0, long))
for_excess command json (Some bytes) Illegal text due long = absurd (omega (arith, due.0, long))

-- whatever was asked for, it may end as done
done_may : (command : Command) → may_end command Done ≡ true
done_may Check = refl
done_may (Run workers schedule) = refl
done_may Verify = refl
done_may (Record workers) = refl
done_may Replay = refl
done_may Steps = refl
done_may Steady = refl
done_may (Service workers) = refl
done_may Expand = refl

-- only a run may end with a task shed
shed_may : (command : Command) (json : Bool) (wiring : Parts) (bytes text : List ℕ) → Answers command json wiring bytes Shed text → may_end command Shed ≡ true
shed_may Check json wiring bytes text answers = absurd answers
shed_may (Run workers schedule) json wiring bytes text answers = refl
shed_may Verify json wiring bytes text answers = absurd answers
shed_may (Record workers) json wiring bytes text answers = absurd answers
shed_may Replay json wiring bytes text answers = absurd answers.2
shed_may Steps json wiring bytes text answers = absurd answers.2
shed_may Steady json wiring bytes text answers = absurd answers
shed_may (Service workers) json wiring bytes text answers = absurd answers.2
shed_may Expand json wiring bytes text answers = absurd answers.2

-- only a judgement may end with a fault found
fault_may : (command : Command) (json : Bool) (wiring : Parts) (bytes text : List ℕ) → Answers command json wiring bytes Illegal text → may_end command Illegal ≡ true
fault_may Check json wiring bytes text answers = absurd answers
fault_may (Run workers schedule) json wiring bytes text answers = absurd answers
fault_may Verify json wiring bytes text answers = refl
fault_may (Record workers) json wiring bytes text answers = absurd answers
fault_may Replay json wiring bytes text answers = absurd answers.2
fault_may Steps json wiring bytes text answers = absurd answers.2
fault_may Steady json wiring bytes text answers = absurd answers
fault_may (Service workers) json wiring bytes text answers = absurd answers.2
fault_may Expand json wiring bytes text answers = absurd answers.2

for_wiring : (command : Command) (json : Bool) (rest : Option (List ℕ)) (status : Status) (text : List ℕ) → AnswersInput command json rest status text → IsAccepted command rest → may_end command status ≡ true
for_wiring command json None status text due accepted = absurd accepted
for_wiring command json (Some bytes) Done text due accepted = done_may command
for_wiring command json (Some bytes) Shed text due accepted = shed_may command json due.1.0 bytes text due.1.2
for_wiring command json (Some bytes) Illegal text due accepted = fault_may command json due.1.0 bytes text due.1.2
for_wiring command json (Some bytes) Usage text due accepted = absurd due
for_wiring command json (Some bytes) ReadFault text due accepted = absurd due
for_wiring command json (Some bytes) WriteFault text due accepted = absurd due
for_wiring command json (Some bytes) Memory text due accepted = absurd due
for_wiring command json (Some bytes) TooLong text due accepted = absurd (omega (arith, due.0, accepted.0))
for_wiring command json (Some bytes) Refused text due accepted = absurd (apart _ accepted.1.0 (due.1.0, due.1.1) accepted.1.1 due.1.2)

-- an output in which a fault is found isn't answered as done
no_done : (json : Bool) (bytes text : List ℕ) (one other : Parts) (finding : Finding) → reading_input Verify bytes ≡ Ok one → reading_input Verify bytes ≡ Ok other → Answers Verify json one bytes Done text → IsFound other (history_index bytes).1 (output_part bytes) finding → is_fault finding ≡ true → ⊥
no_done json bytes text one other finding reads again answers found fault =
    let same : one ≡ other = cc in
    let legal : IsFound other (history_index bytes).1 (output_part bytes) (findings.Legal answers.0 answers.1) = subst (λ (w : Parts). IsFound w (history_index bytes).1 (output_part bytes) (findings.Legal answers.0 answers.1)) same answers.2 in
    let none : is_fault finding ≡ false = no_fault_beside other (history_index bytes).1 (output_part bytes) answers.0 answers.1 finding legal found in
    cc

for_fault : (json : Bool) (rest : Option (List ℕ)) (status : Status) (text : List ℕ) → AnswersInput Verify json rest status text → IsVerified true rest → status ≡ Illegal
for_fault json None status text due verified = absurd verified
for_fault json (Some bytes) Illegal text due verified = refl
for_fault json (Some bytes) Done text due verified = absurd (no_done json bytes text due.1.0 verified.1.0 verified.1.1 due.1.1 verified.1.2 due.1.2 verified.1.3 verified.1.4)
for_fault json (Some bytes) Shed text due verified = absurd due.1.2
for_fault json (Some bytes) Usage text due verified = absurd due
for_fault json (Some bytes) ReadFault text due verified = absurd due
for_fault json (Some bytes) WriteFault text due verified = absurd due
for_fault json (Some bytes) Memory text due verified = absurd due
for_fault json (Some bytes) TooLong text due verified = absurd (omega (arith, due.0, verified.0))
for_fault json (Some bytes) Refused text due verified = absurd (apart _ verified.1.0 (due.1.0, due.1.1) verified.1.2 due.1.2)

-- what is due for an input has a status of a text
of_input : (command : Command) (json : Bool) (rest : Option (List ℕ)) (status : Status) (text : List ℕ) → AnswersInput command json rest status text → is_of_text status ≡ true
of_input command json rest Done text due = refl
of_input command json rest Usage text due = refl
of_input command json rest Refused text due = refl
of_input command json rest ReadFault text due = absurd due
of_input command json rest WriteFault text due = absurd due
of_input command json rest Memory text due = absurd due
of_input command json rest Shed text due = refl
of_input command json rest Illegal text due = refl
of_input command json rest TooLong text due = refl

-- what is due for a request has a status of a text
of_request : (request : Option Request) (rest : Option (List ℕ)) (status : Status) (text : List ℕ) → AnswersRequest request rest status text → is_of_text status ≡ true
of_request None rest status text due = ap is_of_text (for_none None rest status text due refl)
of_request (Some (Read command json)) rest status text due = of_input command json rest status text due
of_request (Some (Load size workers json)) rest status text due = ap is_of_text (for_load size workers json status text due)

-- what is due for words has a status of a text
pub text_status : (words : List (List ℕ)) (rest : Option (List ℕ)) (status : Status) (text : List ℕ) → IsDue status words rest text → is_of_text status ≡ true
text_status words rest status text due = of_request (asked_for words) rest status text due

-- what is due for a request is due for words that ask for it
pub due_said : (request : Option Request) (words : List (List ℕ)) (rest : Option (List ℕ)) (status : Status) (text : List ℕ) → request ≡ asked_for words → AnswersRequest request rest status text → IsDue status words rest text
due_said request words rest status text asked due = subst (λ (o : Option Request). AnswersRequest o rest status text) asked due

pub usage_status : (words : List (List ℕ)) (rest : Option (List ℕ)) (status : Status) (text : List ℕ) → IsDue status words rest text → asked_for words ≡ None → status ≡ Usage
usage_status words rest status text due is = for_none (asked_for words) rest status text due is

module _ (command : Command) (json : Bool) (words : List (List ℕ)) (rest : Option (List ℕ)) (status : Status) (text : List ℕ) (due : IsDue status words rest text) (is : asked_for words ≡ Some (Read command json)) where
  for_input : AnswersInput command json rest status text
  for_input = subst (λ (o : Option Request). AnswersRequest o rest status text) is due

  pub refused_status : IsDeclined command rest → status ≡ Refused
  refused_status declined = for_refused command json rest status text for_input declined

  pub excess_status : IsExcessive command rest → status ≡ TooLong
  excess_status long = for_excess command json rest status text for_input long

  pub over_status : IsAccepted command rest → may_end command status ≡ true
  over_status accepted = for_wiring command json rest status text for_input accepted

pub fault_status : (json : Bool) (words : List (List ℕ)) (rest : Option (List ℕ)) (status : Status) (text : List ℕ) → IsDue status words rest text → asked_for words ≡ Some (Read Verify json) → IsVerified true rest → status ≡ Illegal
fault_status json words rest status text due is verified = for_fault json rest status text (for_input Verify json words rest status text due is) verified

pub load_status : (size workers : ℕ) (json : Bool) (words : List (List ℕ)) (rest : Option (List ℕ)) (status : Status) (text : List ℕ) → IsDue status words rest text → asked_for words ≡ Some (Load size workers json) → status ≡ Done
load_status size workers json words rest status text due is = for_load size workers json status text (subst (λ (o : Option Request). AnswersRequest o rest status text) is due)
