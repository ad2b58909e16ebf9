-- What the text may refer to: that a number's name is declared and means this number, and lists of such names.
use Rattle.std.proofs.Common.{◌≡◌, ℕ, ◌<◌, true, List, [], ◌∷◌, ◌++◌, length, map, inl, refl, ap, ◌∙◌, append_assoc}
use Rattle.std.proofs.lemmas.Option.{slice_get-map}
use Rattle.ccr_base.proofs.Options.{get-some}
use Rattle.ccr_base.specs.Lists.{are_apart}
use Rattle.ccr_text.specs.Spelling.{AreWords}
use Rattle.ccr_wiring.specs.declared.parts.Parts.{Parts}
use Rattle.ccr_wiring.specs.declared.parts.QueuePart.{QueuePart}
use Rattle.ccr_wiring.specs.declared.parts.SetPart.{SetPart}
use Rattle.ccr_wiring.specs.declared.parts.CausePart.{CausePart}
use Rattle.ccr_wiring.specs.declared.parts.HandlerPart.{HandlerPart}
use Rattle.ccr_wiretext.specs.declared.named.Named.TheVariants as kinds
use Rattle.ccr_wiretext.specs.Names.{Naming, as_port, as_queue, as_cause, as_handler}
use Rattle.ccr_wiretext.specs.Drafts.{Declared}
use Rattle.ccr_wiretext.specs.Grammar.{IsPort, ArePorts, AreCauses}
use Rattle.ccr_wiring.specs.PartNames.{port_name, queue_name, cause_name, handler_name}
use Rattle.ccr_base.proofs.Apart.{not_before}
use Rattle.ccr_wiretext.proofs.Fit.{PortsFit}
use Rattle.ccr_wiretext.proofs.Round.Namings.{Good, IsKnown, entries, names_of, known_get, known_more}
use Rattle.ccr_wiretext.proofs.Round.Terms.{IsWord, name_word, name_plain}

-- the ports of the parts are declared. The others are likewise
abbrev pub KnowsPorts : Parts → Naming → Type 0
KnowsPorts parts names = (port : ℕ) → port < length parts.ports → IsKnown as_port names (port_name parts port) port

abbrev pub KnowsQueues : Parts → Naming → Type 0
KnowsQueues parts names = (queue : ℕ) → queue < length parts.queues → IsKnown as_queue names (queue_name parts queue) queue

abbrev pub KnowsCauses : Parts → Naming → Type 0
KnowsCauses parts names = (cause : ℕ) → cause < length parts.causes → IsKnown as_cause names (cause_name parts cause) cause

abbrev pub KnowsHandlers : Parts → Naming → Type 0
KnowsHandlers parts names = (handler : ℕ) → handler < length parts.handlers → IsKnown as_handler names (handler_name parts handler) handler

-- ---- each kind, once it is declared

abbrev pub queue_entries : List QueuePart → Naming
queue_entries parts = entries (λ (part : QueuePart). part.name) kinds.Queue 0 parts

abbrev pub port_entries : List (List ℕ) → Naming
port_entries names = entries (λ (name : List ℕ). name) kinds.Port 0 names

abbrev pub set_entries : List SetPart → Naming
set_entries parts = entries (λ (part : SetPart). part.name) kinds.Set 0 parts

abbrev pub cause_entries : List CausePart → Naming
cause_entries parts = entries (λ (part : CausePart). part.name) kinds.Cause 0 parts

abbrev pub handler_entries : List HandlerPart → Naming
handler_entries parts = entries (λ (part : HandlerPart). part.name) kinds.Handler 0 parts

pub ports_known : (parts : Parts) (front : Naming) → Good (names_of (front ++ port_entries parts.ports)) → KnowsPorts parts (front ++ port_entries parts.ports)
ports_known parts front good port less =
    let got = get-some parts.ports port less in
    rw got.1 (known_get as_port (λ (name : List ℕ). name) kinds.Port (λ n. refl) front parts.ports good port got.0 got.1)

pub queues_known : (parts : Parts) (front : Naming) → Good (names_of (front ++ queue_entries parts.queues)) → KnowsQueues parts (front ++ queue_entries parts.queues)
queues_known parts front good queue less =
    let got = get-some parts.queues queue less in
    rw (slice_get-map (λ (part : QueuePart). part.name) parts.queues queue, got.1) (known_get as_queue (λ (part : QueuePart). part.name) kinds.Queue (λ n. refl) front parts.queues good queue got.0 got.1)

pub causes_known : (parts : Parts) (front : Naming) → Good (names_of (front ++ cause_entries parts.causes)) → KnowsCauses parts (front ++ cause_entries parts.causes)
causes_known parts front good cause less =
    let got = get-some parts.causes cause less in
    rw (slice_get-map (λ (part : CausePart). part.name) parts.causes cause, got.1) (known_get as_cause (λ (part : CausePart). part.name) kinds.Cause (λ n. refl) front parts.causes good cause got.0 got.1)

pub handlers_known : (parts : Parts) (front : Naming) → Good (names_of (front ++ handler_entries parts.handlers)) → KnowsHandlers parts (front ++ handler_entries parts.handlers)
handlers_known parts front good handler less =
    let got = get-some parts.handlers handler less in
    rw (slice_get-map (λ (part : HandlerPart). part.name) parts.handlers handler, got.1) (known_get as_handler (λ (part : HandlerPart). part.name) kinds.Handler (λ n. refl) front parts.handlers good handler got.0 got.1)

-- ---- they stay so

pub ports_stay : (parts : Parts) (names more : Naming) → KnowsPorts parts names → KnowsPorts parts (names ++ more)
ports_stay parts names more knows port less = known_more as_port names more (port_name parts port) port (knows port less)

pub queues_stay : (parts : Parts) (names more : Naming) → KnowsQueues parts names → KnowsQueues parts (names ++ more)
queues_stay parts names more knows queue less = known_more as_queue names more (queue_name parts queue) queue (knows queue less)

pub causes_stay : (parts : Parts) (names more : Naming) → KnowsCauses parts names → KnowsCauses parts (names ++ more)
causes_stay parts names more knows cause less = known_more as_cause names more (cause_name parts cause) cause (knows cause less)

pub handlers_stay : (parts : Parts) (names more : Naming) → KnowsHandlers parts names → KnowsHandlers parts (names ++ more)
handlers_stay parts names more knows handler less = known_more as_handler names more (handler_name parts handler) handler (knows handler less)

-- ---- one port, and lists

pub port_says : (parts : Parts) (draft : Declared) → KnowsPorts parts draft.names → (port : ℕ) → port < length parts.ports → IsPort draft (port_name parts port) port
port_says parts draft knows port less = let known = knows port less in inl (name_plain (port_name parts port) known.formed, known.refers)

pub port_word : (parts : Parts) (names : Naming) → KnowsPorts parts names → (port : ℕ) → port < length parts.ports → IsWord (port_name parts port)
port_word parts names knows port less = name_word (port_name parts port) (knows port less).formed

pub ports_say : (parts : Parts) (draft : Declared) → KnowsPorts parts draft.names → (found ports : List ℕ) → PortsFit (length parts.ports) ports → are_apart (found ++ ports) ≡ true
    → ArePorts draft found ports (map (port_name parts) ports)
ports_say parts draft knows found [] fit apart = refl
ports_say parts draft knows found (port ∷ ports) fit apart = (
  port_name parts port,
  map (port_name parts) ports,
  refl,
  port_says parts draft knows port fit.0,
  not_before found port ports apart,
  ports_say parts draft knows (found ++ port ∷ []) ports fit.1 (ap are_apart (append_assoc found (port ∷ []) ports) ∙ apart),
)

pub ports_clean : (parts : Parts) (names : Naming) → KnowsPorts parts names → (ports : List ℕ) → PortsFit (length parts.ports) ports → AreWords (map (port_name parts) ports)
ports_clean parts names knows [] fit = tt
ports_clean parts names knows (port ∷ ports) fit = let word = port_word parts names knows port fit.0 in (word.0, word.1, ports_clean parts names knows ports fit.1)

pub causes_say : (parts : Parts) (names : Naming) → KnowsCauses parts names → (found causes : List ℕ) → PortsFit (length parts.causes) causes → are_apart (found ++ causes) ≡ true
    → AreCauses names found causes (map (cause_name parts) causes)
causes_say parts names knows found [] fit apart = refl
causes_say parts names knows found (cause ∷ causes) fit apart = (
  cause_name parts cause,
  map (cause_name parts) causes,
  refl,
  (knows cause fit.0).refers,
  not_before found cause causes apart,
  causes_say parts names knows (found ++ cause ∷ []) causes fit.1 (ap are_apart (append_assoc found (cause ∷ []) causes) ∙ apart),
)

pub causes_clean : (parts : Parts) (names : Naming) → KnowsCauses parts names → (causes : List ℕ) → PortsFit (length parts.causes) causes → AreWords (map (cause_name parts) causes)
causes_clean parts names knows [] fit = tt
causes_clean parts names knows (cause ∷ causes) fit = let word = name_word (cause_name parts cause) (knows cause fit.0).formed in (word.0, word.1, causes_clean parts names knows causes fit.1)
