-- What is written of a wiring's counts, where they don't depend on who acts when.
use Rattle.std.specs.Prelude.{◌≡◌, ℕ, List, [], ◌∷◌, ◌++◌, codes, decimal}
use Rattle.ccr_text.specs.Spelling.{line_text}
use Rattle.ccr_wiring.specs.declared.parts.Parts.{Parts}
use Rattle.ccr_report.specs.Report.{total_words}
use Rattle.ccr_steady.specs.declared.agreement.Agreed.{Agreed}
use Rattle.ccr_steady.specs.declared.agreement.Agreed.TheVariants.{Unsteady, Spent, Counts}
use Rattle.ccr_steady.specs.Agreement.{Agrees}
use Rattle.ccr_commands.specs.declared.status.Status.{Status}
use Rattle.ccr_commands.specs.Statuses.{IsDoneAnd}

-- the rule by which the wiring is unsteady; or that each run spends the budget; or the totals of each run
abbrev pub agreed_text : Agreed → List ℕ
agreed_text (Unsteady rule) = codes "unsteady " ++ decimal rule ++ 10 ∷ []
agreed_text Spent = codes "spent" ++ 10 ∷ []
agreed_text (Counts fired totals) = codes "steady" ++ 10 ∷ line_text (total_words totals)

-- the text that is due for the word `steady`
abbrev pub SteadyGives : Parts → Status → List ℕ → Type 0
SteadyGives wiring status text = IsDoneAnd status ((found : Agreed) × Agrees wiring found × (text ≡ agreed_text found ++ codes "done 0" ++ 10 ∷ []))
