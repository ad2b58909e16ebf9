-- What a law is about: wirings whose counts are steady, and their histories.
use Rattle.std.specs.Prelude.{◌≡◌, ◌<◌, ◌≤◌, ℕ, true, false, List, length, None}
use Rattle.ccr_wiring.specs.declared.parts.Parts.{Parts}
use Rattle.ccr_wiring.specs.Valid.{IsValid}
use Rattle.ccr_wiring.specs.Wirings.{placements}
use Rattle.ccr_model.specs.declared.history.Event.{Event}
use Rattle.ccr_model.specs.declared.history.Totals.{Totals}
use Rattle.ccr_model.specs.Legal.{IsLegal, IsQuiet, is_complete, has_shed}
use Rattle.ccr_steady.specs.Flow.{unsteady, IsFlow, task_posts}
use Rattle.ccr_laws.specs.Times.{times_fired}
use Rattle.ccr_steady.specs.Histories.{IsDone}
use Rattle.ccr_steady.specs.Agreement.{HasCounts}

-- the law holds of each valid wiring that no rule of steadiness refuses
abbrev pub OfSteady : (Parts → Type 0) → Type 0
OfSteady law = (wiring : Parts) → IsValid wiring → unsteady wiring ≡ None → law wiring

-- it holds of each flow of the wiring whose task posts the budget allows
abbrev pub OfFlows : Parts → ((ℕ → ℕ) → Type 0) → Type 0
OfFlows wiring law = (counts : ℕ → ℕ) → IsFlow wiring counts → task_posts wiring counts ≤ wiring.budget → law counts

-- it holds of each history that is legal, quiet and complete
abbrev pub OfDone : Parts → (List Event → Type 0) → Type 0
OfDone wiring law = (history : List Event) → IsLegal wiring history → IsQuiet wiring history → is_complete wiring history ≡ true → law history

-- no branch fires more often than the counts say
abbrev pub FiresWithin : Parts → (ℕ → ℕ) → List Event → Type 0
FiresWithin wiring counts history = (branch : ℕ) → branch < length (placements wiring) → times_fired history branch ≤ counts branch

-- each branch fires as often
abbrev pub FiresAs : Parts → (ℕ → ℕ) → List Event → Type 0
FiresAs wiring counts history = (branch : ℕ) → branch < length (placements wiring) → times_fired history branch ≡ counts branch

-- no legal and complete history of the wiring has a shed end
abbrev pub CompletesUnshed : Parts → Type 0
CompletesUnshed wiring = (history : List Event) → IsLegal wiring history → is_complete wiring history ≡ true → has_shed history ≡ false

-- the counts and totals are those of each history that is done
abbrev pub AreOfEach : Parts → List ℕ → Totals → Type 0
AreOfEach wiring fired found = (history : List Event) → IsDone wiring history → HasCounts wiring fired found history
