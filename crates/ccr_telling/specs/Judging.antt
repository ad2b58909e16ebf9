-- What is found of a history's text, judged while it is read.
use Rattle.std.specs.Prelude.{◌≡◌, true, ℕ, List, [], length, Option, Some, None, Ok}
use Rattle.ccr_wiring.specs.declared.parts.Parts.{Parts}
use Rattle.ccr_wiring.specs.Openness.{is_closed}
use Rattle.ccr_model.specs.declared.history.Event.{Event}
use Rattle.ccr_model.specs.declared.rule.Rule.{Rule}
use Rattle.ccr_model.specs.Legal.{IsLegal, first_refusal, is_complete}
use Rattle.ccr_checker.specs.Quiet.{MeansQuiet}
use Rattle.ccr_checker.specs.Judges.{Judged}
use Rattle.ccr_trace.specs.declared.reading.ReadHistory.{ReadHistory}
use Rattle.ccr_trace.specs.Reading.{reading}
use Rattle.ccr_trace.specs.EventReaders.{HasRead, Reader, reading_of}
use Rattle.ccr_report.specs.Counted.{IsCounted}
use Rattle.ccr_telling.specs.Tallies.{Tallies, IsCounting}
use Rattle.ccr_telling.specs.declared.judging.LegalText.{LegalText}
use Rattle.ccr_telling.specs.declared.judging.Judgement.{Judgement}
use Rattle.ccr_telling.specs.declared.judging.Judgement.TheVariants.{Illegal, Legal}

-- the history that was read is legal, and that is what is told of it
pub record IsToldOf (wiring : Parts) (read : ReadHistory) (found : LegalText) : Type 0 where
  pub legal : IsLegal wiring read.history
  pub complete : found.complete ≡ is_complete wiring read.history
  pub quiet : MeansQuiet wiring read.history found.quiet
  pub counts : IsCounted wiring read.history found.counts
  pub rest : found.rest ≡ read.rest
  pub lines : found.lines ≡ read.lines

-- the judgement is true of the history that was read: this event is refused, first by this rule, or that is told of it
abbrev pub IsJudgedHistory : Parts → ReadHistory → Judgement → Type 0
IsJudgedHistory wiring read (Illegal at rule) = first_refusal wiring [] 0 read.history ≡ Some (at, rule)
IsJudgedHistory wiring read (Legal found) = IsToldOf wiring read found

-- the text begins with a history, and the judgement is true of that
pub record IsJudged (wiring : Parts) (text : List ℕ) (judgement : Judgement) : Type 0 where
  pub read : ReadHistory
  pub reads : reading wiring text ≡ Ok read
  pub judged : IsJudgedHistory wiring read judgement

-- as long as nothing was refused the judge accepted what was read, and it was counted; the wiring is closed
pub record AgreesSoFar (reader : Reader) (judged : Judged) (tallies : Tallies) : Type 0 where
  pub accepted : judged ≡ record { wiring = reader.wiring; history = reader.so_far.history }
  pub counted : IsCounting reader.wiring reader.so_far.history tallies
  pub closed : is_closed reader.wiring ≡ true

-- what is read in the end stays the same, this was refused first so far, and as long as nothing was, the judge agrees
pub record IsJudgedSoFar (old now : Reader) (judged : Judged) (tallies : Tallies) (refused : Option (ℕ × Rule)) : Type 0 where
  pub wiring : now.wiring ≡ old.wiring
  pub reads : reading_of now ≡ reading_of old
  pub first : refused ≡ first_refusal old.wiring [] 0 now.so_far.history
  pub agrees : refused ≡ None → AgreesSoFar now judged tallies

-- where the event at this index was read next, what was judged and counted so far became what is
abbrev pub HasJudged : ℕ → Event → Judged → Tallies → Option (ℕ × Rule) → Judged → Tallies → Option (ℕ × Rule) → Type 0
HasJudged at event judged_before tallied_before refused_before judged tallied refused =
    (old now next : Reader) →
    IsJudgedSoFar old now judged_before tallied_before refused_before →
    HasRead now event next →
    at ≡ length now.so_far.history →
    IsJudgedSoFar old next judged tallied refused

-- this was refused first of all that was read, and where nothing was, the judge agrees
pub record IsJudgedWhole (wiring : Parts) (reader : Reader) (judged : Judged) (tallies : Tallies) (refused : Option (ℕ × Rule)) : Type 0 where
  pub wiring_is : reader.wiring ≡ wiring
  pub first : refused ≡ first_refusal wiring [] 0 reader.so_far.history
  pub agrees : refused ≡ None → AgreesSoFar reader judged tallies
