-- What is written of a service: the wiring that it stands for, or a run of it with what became of each request.
use Rattle.std.specs.Prelude.{◌≡◌, ℕ, ◌+◌, false, List, [], ◌∷◌, ◌++◌, length, take, drop, codes, decimal, None}
use Rattle.ccr_text.specs.Spelling.{text_of}
use Rattle.ccr_wiretext.specs.Spelling.{spelling}
use Rattle.ccr_model.specs.declared.history.Event.{Event}
use Rattle.ccr_trace.specs.HistoryText.{history_text}
use Rattle.ccr_text.specs.Exact.{value_word}
use Rattle.ccr_service.specs.declared.parts.ClientPart.{ClientPart}
use Rattle.ccr_service.specs.declared.parts.ServiceParts.{ServiceParts}
use Rattle.ccr_service.specs.declared.answer.Answer.{Answer}
use Rattle.ccr_service.specs.declared.answer.Answer.TheVariants as answers
use Rattle.ccr_service.specs.Answered.{IsServedWhole}
use Rattle.ccr_service.specs.Expansion.{expansion}
use Rattle.ccr_service.specs.Services.{IsService}
use Rattle.ccr_service.specs.Telling.{answers_of}
use Rattle.ccr_commands.specs.Runs.{IsRunHistory}
use Rattle.ccr_commands.specs.declared.status.Status.{Status}
use Rattle.ccr_commands.specs.Statuses.{IsDoneAnd}

-- the response of a request with its value, or what became of the request
abbrev pub answer_words : Answer → List (List ℕ)
answer_words (answers.Success message) = codes "success" ∷ value_word message.value ∷ []
answer_words (answers.Fault message) = codes "fault" ∷ value_word message.value ∷ []
answer_words answers.Held = codes "held" ∷ []
answer_words answers.Cut = codes "cut" ∷ []
answer_words answers.Dropped = codes "dropped" ∷ []

-- a line for each request of a client, of which the first has this number
abbrev pub ask_lines : ℕ → List Answer → List (List (List ℕ))
ask_lines index [] = []
ask_lines index (answer ∷ answers) = (codes "ask" ∷ decimal index ∷ answer_words answer) ∷ ask_lines (index + 1) answers

-- client by client: its name, and a line for each of its requests
abbrev pub client_lines : List ClientPart → List Answer → List (List (List ℕ))
client_lines [] answers = []
client_lines (client ∷ clients) answers =
    (codes "client" ∷ client.name ∷ []) ∷ (ask_lines 0 (take (length client.asks) answers) ++ client_lines clients (drop (length client.asks) answers))

-- the service keeps its rules, and the text is that of the history of a run of its wiring, and of the answers to its requests: no task was shed, and each
-- request has one answer, which is told
pub record IsServed (service : ServiceParts) (workers : ℕ) (text : List ℕ) : Type 0 where
  pub kept : IsService service
  pub history : List Event
  pub run : IsRunHistory (expansion service) workers None false history
  pub whole : IsServedWhole service history
  pub written : text ≡ history_text (expansion service) history ++ text_of (client_lines service.clients (answers_of service history)) ++ codes "done 0" ++ 10 ∷ []

-- the text that is due for the word `service`
abbrev pub ServiceGives : ServiceParts → ℕ → Status → List ℕ → Type 0
ServiceGives service workers status text = IsDoneAnd status (IsServed service workers text)

-- the text that is due for the word `expand`
abbrev pub ExpandGives : ServiceParts → Status → List ℕ → Type 0
ExpandGives service status text = IsDoneAnd status (text ≡ spelling (expansion service) ++ codes "done 0" ++ 10 ∷ [])
