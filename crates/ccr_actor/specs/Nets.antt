-- Lists of an actor's steps at a net: which are proper, and which ask may follow.
use Rattle.std.specs.Prelude.{◌≡◌, ◌^◌, ◌-◌, ℕ, true, List, [], ◌∷◌, ◌++◌, map, Option, Some, nat_lt, if◌then◌else◌}
use Rattle.ccr_wiring.specs.declared.parts.Parts.{Parts}
use Rattle.ccr_claim.specs.declared.asks.Asked.{Asked}
use Rattle.ccr_claim.specs.declared.asks.Reply.{Reply}
use Rattle.ccr_claim.specs.Asks.{due_of, fits}
use Rattle.ccr_actor.specs.Actors.{next}

-- a step: an ask, and what it was replied
pub record Step : Type 0 where
  pub asked : Asked
  pub reply : Reply

-- so many steps by a counter of 64 bits: the number, or the last one of these bits where it is greater
abbrev pub counted : ℕ → ℕ
counted n = if nat_lt n (2 ^ 64) then n else 2 ^ 64 - 1

-- the replies of the steps
abbrev pub replies_of : List Step → List Reply
replies_of steps = map (λ (step : Step). step.reply) steps

-- each reply is one that its ask may have
abbrev pub AreFitting : List Step → Type 0
AreFitting [] = Unit {0}
AreFitting (step ∷ steps) = (fits (due_of step.asked.ask) step.reply ≡ true) × AreFitting steps

-- each step behind the past ones is what the actor asks next, if it found no memory after so many steps in all
abbrev pub AreNext : Parts → ℕ → Option ℕ → List Reply → List Step → Type 0
AreNext wiring actor lack given [] = Unit {0}
AreNext wiring actor lack given (step ∷ steps) = (next wiring actor lack given ≡ Some step.asked) × AreNext wiring actor lack (given ++ step.reply ∷ []) steps

-- each step is what the actor asks next, and so is this one; from some step on it may be short
abbrev pub IsProper : Parts → ℕ → List Step → Asked → Type 0
IsProper wiring actor steps one = (lack : Option ℕ) × AreNext wiring actor lack [] steps × (next wiring actor lack (replies_of steps) ≡ Some one)
