-- What a load writes.
use Rattle.std.specs.Prelude.{◌≡◌, ℕ, Bool, true, false, List, [], ◌∷◌, ◌++◌, codes, decimal, None}
use Rattle.ccr_text.specs.Spelling.{line_text}
use Rattle.ccr_wiring.specs.Actors.{actor_count}
use Rattle.ccr_wiring.specs.declared.parts.Parts.{Parts}
use Rattle.ccr_model.specs.declared.history.Event.{Event}
use Rattle.ccr_model.specs.declared.history.Totals.{Totals}
use Rattle.ccr_model.specs.Counts.{totals}
use Rattle.ccr_model.specs.Legal.{IsLegal, IsQuiet, has_shed, is_complete}
use Rattle.ccr_model.specs.Order.{IsFinished}
use Rattle.ccr_report.specs.Report.{total_words}
use Rattle.ccr_json.specs.Totals.{totals_json}
use Rattle.ccr_gen.specs.Generated.{generated}
use Rattle.ccr_steady.specs.declared.agreement.Agreed.{Agreed}
use Rattle.ccr_steady.specs.declared.agreement.Agreed.TheVariants.{Counts}
use Rattle.ccr_steady.specs.Agreement.{Agrees}
use Rattle.ccr_commands.specs.Accounts.{AccountsForAll}
use Rattle.ccr_opening.specs.Begins.{Begins}
use Rattle.ccr_commands.specs.declared.status.Status.{Status}
use Rattle.ccr_commands.specs.Statuses.{IsDoneAnd}

-- the totals as a line of words, or as one line of JSON
abbrev pub totals_of : Bool → Totals → List ℕ
totals_of false found = line_text (total_words found)
totals_of true found = totals_json found

-- the size, the totals and the last line
abbrev pub load_text : ℕ → Bool → Totals → List ℕ
load_text size json found = codes "load " ++ decimal size ++ 10 ∷ [] ++ totals_of json found ++ codes "done 0" ++ 10 ∷ []

-- the answer tells counts, and these are its totals
abbrev pub AreTotalsOf : Agreed → Totals → Type 0
AreTotalsOf (Counts fired found) these = these ≡ found
AreTotalsOf _ these = ⊥

-- the text is that of the totals of the history of a wiring in which, behind what the actors did, the serial order with the closer
-- numbered behind posters and workers goes on until it puts nothing more first: it is legal, complete and quiet, accounts for each
-- post and each message, and no task was shed in it; and its totals are those that are told of the wiring, on which all its runs
-- agree, so that they don't depend on who ran first
pub record IsLoadOf (wiring : Parts) (size workers : ℕ) (json : Bool) (text : List ℕ) : Type 0 where
  pub first : List Event
  pub begins : Begins wiring workers None first
  pub history : List Event
  pub finished : IsFinished wiring (actor_count wiring workers) first history
  pub legal : IsLegal wiring history
  pub complete : is_complete wiring history ≡ true
  pub quiet : IsQuiet wiring history
  pub accounts : AccountsForAll wiring history
  pub unshed : has_shed history ≡ false
  pub told : Agreed
  pub agrees : Agrees wiring told
  pub same : AreTotalsOf told (totals history)
  pub written : text ≡ load_text size json (totals history)

-- the wiring is the generated one of that size
abbrev pub IsLoad : ℕ → ℕ → Bool → List ℕ → Type 0
IsLoad size workers json text = IsLoadOf (generated size) size workers json text

-- the text that is due for a load
abbrev pub LoadGives : ℕ → ℕ → Bool → Status → List ℕ → Type 0
LoadGives size workers json status text = IsDoneAnd status (IsLoad size workers json text)
