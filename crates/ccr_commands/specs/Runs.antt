-- What a run writes.
use Rattle.std.specs.Prelude.{◌≡◌, ℕ, Bool, true, false, List, [], ◌∷◌, ◌++◌, codes, Option}
use Rattle.ccr_wiring.specs.Actors.{actor_count}
use Rattle.ccr_wiring.specs.declared.parts.Parts.{Parts}
use Rattle.ccr_model.specs.declared.history.Event.{Event}
use Rattle.ccr_model.specs.Legal.{IsLegal, IsQuiet, has_shed, is_complete}
use Rattle.ccr_model.specs.Order.{IsFinished}
use Rattle.ccr_trace.specs.HistoryText.{history_text}
use Rattle.ccr_trace.specs.Known.{AreShort}
use Rattle.ccr_trace.specs.Values.{HaveSmallValues}
use Rattle.ccr_report.specs.Report.{report_text}
use Rattle.ccr_report.specs.Counted.{IsCounted}
use Rattle.ccr_json.specs.Report.{report_json}
use Rattle.ccr_opening.specs.Begins.{Begins}
use Rattle.ccr_telling.specs.declared.ending.Told.{Told}
use Rattle.ccr_commands.specs.Accounts.{AccountsForAll}
use Rattle.ccr_commands.specs.declared.status.Status.{Status}
use Rattle.ccr_commands.specs.declared.status.Status.TheVariants.{Done, Shed}

-- the last line of a run says whether a task was shed
abbrev pub last_line : Bool → List ℕ
last_line false = codes "done 0" ++ 10 ∷ []
last_line true = codes "done 6" ++ 10 ∷ []

-- the report as lines, or as one line of JSON
abbrev pub report_of : Bool → Parts → List Event → List ℕ
report_of false wiring history = report_text wiring history
report_of true wiring history = report_json wiring history

-- the history of the wiring in which, behind what the actors did, the serial order with the closer numbered behind posters and
-- workers goes on until it puts nothing more first: it is legal, complete and quiet, accounts for each post and each message, has
-- numbers below their limits and values of at most 8 numbers, and has a shed end or none
pub record IsRunHistory (wiring : Parts) (workers : ℕ) (turns : Option (List ℕ)) (shed : Bool) (history : List Event) : Type 0 where
  pub first : List Event
  pub begins : Begins wiring workers turns first
  pub finished : IsFinished wiring (actor_count wiring workers) first history
  pub legal : IsLegal wiring history
  pub complete : is_complete wiring history ≡ true
  pub quiet : IsQuiet wiring history
  pub accounts : AccountsForAll wiring history
  pub short : AreShort history
  pub small : HaveSmallValues history
  pub sheds : has_shed history ≡ shed

-- what is told is the text and the counts of such a history
pub record IsToldOf (wiring : Parts) (workers : ℕ) (turns : Option (List ℕ)) (told : Told) : Type 0 where
  pub history : List Event
  pub run : IsRunHistory wiring workers turns (has_shed history) history
  pub written : told.text ≡ history_text wiring history
  pub counted : IsCounted wiring history told.counts

-- the text is that of such a history, its report and the last line
pub record IsRun (json : Bool) (wiring : Parts) (workers : ℕ) (turns : Option (List ℕ)) (shed : Bool) (text : List ℕ) : Type 0 where
  pub history : List Event
  pub run : IsRunHistory wiring workers turns shed history
  pub written : text ≡ history_text wiring history ++ report_of json wiring history ++ last_line shed

-- the text that is due for a run of the wiring
abbrev pub RunGives : Bool → Parts → ℕ → Option (List ℕ) → Status → List ℕ → Type 0
RunGives json wiring workers turns Done text = IsRun json wiring workers turns false text
RunGives json wiring workers turns Shed text = IsRun json wiring workers turns true text
RunGives json wiring workers turns _ text = ⊥
