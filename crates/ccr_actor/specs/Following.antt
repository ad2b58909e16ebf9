-- How an actor goes along a list of its steps.
use Rattle.std.specs.Prelude.{◌≡◌, ◌≤◌, ℕ, Bool, true, false, List, [], ◌∷◌, ◌++◌, length, Option, Ok, Err, Some, None}
use Rattle.ccr_wiring.specs.declared.parts.Parts.{Parts}
use Rattle.ccr_base.specs.declared.list.OutOfMemory.{OutOfMemory}
use Rattle.ccr_claim.specs.declared.asks.Asked.{Asked}
use Rattle.ccr_claim.specs.declared.asks.Reply.{Reply}
use Rattle.ccr_claim.specs.Asks.{is_settling, may_come}
use Rattle.ccr_actor.specs.Acting.{Acting, at_state, due_in, next, sent, IsAfter}
use Rattle.ccr_actor.specs.Actors.{state_after}
use Rattle.ccr_actor.specs.Nets.{Step, AreNext, replies_of}

-- it is short where it found no memory, after so many of these steps
abbrev pub IsShortFrom : Option ℕ → List Step → Bool → Type 0
IsShortFrom None steps short = short ≡ false
IsShortFrom (Some n) steps short = (n ≤ length steps) × (short ≡ true)

-- these are the steps of the actor so far: each was the next one, and the state follows from their replies and from where
-- it found no memory
abbrev pub Follows : Parts → ℕ → List Step → Acting → Type 0
Follows wiring actor steps a =
    (lack : Option ℕ)
    × (AreNext wiring actor lack [] steps
    × ((a ≡ at_state wiring actor (state_after wiring actor lack (replies_of steps))) × IsShortFrom lack steps a.state.is_short))

-- a reply to what it asks is one more step
abbrev pub GoesOn : Parts → ℕ → List Step → Acting → Acting → Asked → Reply → Type 0
GoesOn wiring actor steps a new one reply =
    Follows wiring actor steps a →
    next a ≡ Some one →
    IsAfter (sent a) (Ok reply) new →
    Follows wiring actor (steps ++ (record { asked = one; reply = reply }) ∷ []) new

-- a refusal of it is none
abbrev pub StaysThere : Parts → ℕ → List Step → Acting → Acting → Asked → OutOfMemory → Type 0
StaysThere wiring actor steps a new one refused =
    Follows wiring actor steps a →
    next a ≡ Some one →
    may_come (due_in (sent a).asking) (Err refused) ≡ true →
    IsAfter (sent a) (Err refused) new →
    Follows wiring actor steps new

-- a short actor asks only what settles
abbrev pub OnlySettles : Parts → ℕ → List Step → Acting → Asked → Type 0
OnlySettles wiring actor steps a one = Follows wiring actor steps a → a.state.is_short ≡ true → next a ≡ Some one → is_settling one.ask ≡ true

-- each step was the next one where there was memory throughout, and the state is that behind their replies
abbrev pub LacksNothing : Parts → ℕ → List Step → Acting → Type 0
LacksNothing wiring actor steps a = AreNext wiring actor None [] steps × (a ≡ at_state wiring actor (state_after wiring actor None (replies_of steps)))

-- it holds of an actor that isn't short, after these steps
abbrev pub OfLong : (Parts → ℕ → List Step → Acting → Type 0) → Type 0
OfLong law = (wiring : Parts) (actor : ℕ) (steps : List Step) (a : Acting) → Follows wiring actor steps a → a.state.is_short ≡ false → law wiring actor steps a
