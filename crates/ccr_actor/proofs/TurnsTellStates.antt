-- What a turn tells of the state that it is the turn of.
use Rattle.std.proofs.Common.{◌≡◌, ℕ, Bool, true, false, List, [], ◌∷◌, refl}
use Rattle.ccr_base.specs.declared.names.Spot.{Spot}
use Rattle.ccr_claim.specs.declared.asks.Asked.{Asked}
use Rattle.ccr_actor.specs.Actors.{State, Turn, settle, admit, drive, go_on, stop, turn, turn_of, spots_left}

-- a turn of an actor that is short or not, with this in hand, these domains to ask for admissions and these spots to drive
abbrev pub IsTurnBy : Bool → List Asked → List ℕ → List Spot → Turn → Type 0
IsTurnBy short hand domains spots (settle one more) = hand ≡ one ∷ more
IsTurnBy short hand domains spots (admit domain more) = (short ≡ false) × (hand ≡ []) × (domains ≡ domain ∷ more)
IsTurnBy short hand domains spots (drive spot more) = (short ≡ false) × (hand ≡ []) × (domains ≡ []) × (spots ≡ spot ∷ more)
IsTurnBy short hand domains spots go_on = (short ≡ false) × (hand ≡ []) × (domains ≡ []) × (spots ≡ [])
IsTurnBy short hand domains spots stop = hand ≡ []

abbrev pub IsTurnOf : State → Turn → Type 0
IsTurnOf state t = IsTurnBy state.is_short state.hand state.domains (spots_left state) t

turn-by : (short : Bool) (hand : List Asked) (domains : List ℕ) (spots : List Spot) → IsTurnBy short hand domains spots (turn_of short hand domains spots)
turn-by short (one ∷ more) domains spots = refl
turn-by true [] domains spots = refl
turn-by false [] (domain ∷ domains) spots = (refl, refl, refl)
turn-by false [] [] (spot ∷ spots) = (refl, refl, refl, refl)
turn-by false [] [] [] = (refl, refl, refl, refl)

pub turn_is : (state : State) → IsTurnOf state (turn state)
turn_is state = turn-by state.is_short state.hand state.domains (spots_left state)
