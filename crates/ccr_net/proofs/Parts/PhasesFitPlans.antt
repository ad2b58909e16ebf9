-- Where an attempt is in its pattern: what it got and the slots that are left are the slots of its plan.
use Rattle.std.proofs.Common.{◌≡◌, ℕ, ◌-◌, ◌^◌, Bool, true, false, List, [], ◌∷◌, ◌++◌, length, map, Some, refl, arith, ap, ◌∙◌, append_assoc}
use Rattle.std.specs.Prelude.{if◌then◌else◌, nat_lt}
use Rattle.std.proofs.lemmas.Grind.{common_steps}
use Rattle.ccr_base.specs.declared.names.Spot.{Spot}
use Rattle.ccr_base.specs.declared.messages.Msg.{Msg}
use Rattle.ccr_base.specs.declared.patterns.Pattern.{Pattern}
use Rattle.ccr_base.specs.declared.patterns.Pattern.TheVariants.{Slots, Gather}
use Rattle.ccr_base.specs.declared.patterns.Slot.{Slot}
use Rattle.ccr_wiring.specs.declared.parts.Parts.{Parts}
use Rattle.ccr_base.specs.declared.names.Spot.TheVariants.{Branch, Site}
use Rattle.ccr_wiring.specs.Wirings.{Placement, placement, site_port}
use Rattle.ccr_model.proofs.Members.{Among}
use Rattle.ccr_claim.specs.declared.plan.Had.{Had}
use Rattle.ccr_claim.specs.Plans.{sort_slots, slots_in, any_slot, gather_slots, narrowed, rest_narrowed}
use Rattle.ccr_claim.specs.Attempts.{Phase, booking, claiming}
use Rattle.ccr_actor.specs.Plans.{pattern_at}
use Rattle.ccr_actor.specs.Actors.{State}

abbrev pub lower : ℕ → ℕ → ℕ
lower first second = if nat_lt first second then first else second

abbrev pub higher : ℕ → ℕ → ℕ
higher first second = if nat_lt first second then second else first

-- the slot of the rest of a gather
abbrev pub rest_slot : ℕ → ℕ → Had → Slot
rest_slot higher total d = any_slot higher (total - length d.messages) (total - length d.messages)

abbrev pub GatherFits : ℕ → ℕ → ℕ → List Slot → List Had → Type 0
GatherFits lower higher total slots [] = slots ≡ any_slot lower 0 total ∷ any_slot higher total total ∷ []
GatherFits lower higher total slots (d ∷ []) = (d.slot ≡ any_slot lower 0 total) × (slots ≡ rest_slot higher total d ∷ [])
GatherFits lower higher total slots (d ∷ x ∷ []) = (d.slot ≡ any_slot lower 0 total) × (x.slot ≡ rest_slot higher total d) × (slots ≡ [])
GatherFits lower higher total slots (d ∷ x ∷ y ∷ more) = ⊥

abbrev pub slot_had : Had → Slot
slot_had d = d.slot

-- the slots that are left, and what was got
abbrev pub Fits : Pattern → List Slot → List Had → Type 0
Fits (Slots all) slots had = map slot_had had ++ slots ≡ sort_slots all
Fits (Gather total first second) slots had = GatherFits (lower first second) (higher first second) total slots had

pub Fits-begins : (pattern : Pattern) → Fits pattern (slots_in pattern) []
Fits-begins (Slots all) = refl
Fits-begins (Gather total first second) = by (nat_lt first second)
  where
    by : (b : Bool) → (if b then gather_slots total first second else gather_slots total second first) ≡ any_slot (if b then first else second) 0 total ∷ any_slot (if b then second else first) total total ∷ []
    by true = refl
    by false = refl

map-append : (had more : List Had) → map slot_had (had ++ more) ≡ map slot_had had ++ map slot_had more
map-append had more = grind (arith, common_steps)

pub Fits-claimed : (pattern : Pattern) (slot : Slot) (slots : List Slot) (had : List Had) (messages : List Msg) → Fits pattern (slot ∷ slots) had → Fits pattern (narrowed pattern (length messages) slots) (had ++ (record { slot = slot; messages = messages }) ∷ [])
Fits-claimed (Slots all) slot slots had messages fits = ap (λ front. front ++ slots) (map-append had _) ∙ append_assoc (map slot_had had) (slot ∷ []) slots ∙ fits
Fits-claimed (Gather total first second) slot slots [] messages fits =
    let head : slot ≡ any_slot (lower first second) 0 total = cc in
    let rest : slots ≡ any_slot (higher first second) total total ∷ [] = cc in
    (head, ap (rest_narrowed (length messages)) rest)
Fits-claimed (Gather total first second) slot slots (d ∷ []) messages fits =
    let head : slot ≡ rest_slot (higher first second) total d = inside fits.1 in
    let rest : slots ≡ [] = behind fits.1 in
    (fits.0, head, ap (rest_narrowed (length messages)) rest)
  where
    inside : {s t : Slot} {ss : List Slot} → s ∷ ss ≡ t ∷ [] → s ≡ t
    inside is = cc

    behind : {s t : Slot} {ss : List Slot} → s ∷ ss ≡ t ∷ [] → ss ≡ []
    behind is = cc
Fits-claimed (Gather total first second) slot slots (d ∷ x ∷ []) messages fits = absurd (let none : slot ∷ slots ≡ [] = fits.2 in cc)
Fits-claimed (Gather total first second) slot slots (d ∷ x ∷ y ∷ more) messages fits = absurd fits

-- ---- the state

abbrev pub PhaseFits : Parts → ℕ → Phase → List Spot → Type 0
PhaseFits w n booking spots = Unit {0}
PhaseFits w n (claiming slots had) [] = ⊥
PhaseFits w n (claiming slots had) (spot ∷ more) = (nat_lt n (2 ^ 32) ≡ true) × Fits (pattern_at w spot) slots had

-- a branch, or a site that awaits a port
abbrev pub SpotFits : Parts → Spot → Type 0
SpotFits w (Branch b) = (s : Placement) × (placement w b ≡ Some s)
SpotFits w (Site b k) = (port : ℕ) × (site_port w b k ≡ Some port)

-- an actor's drive is over spots of the wiring
pub record StateFits (w : Parts) (state : State) : Type 0 where
  pub spots_so : (spot : Spot) → Among spot state.spots → SpotFits w spot
  pub phase_so : PhaseFits w state.attempt state.phase state.spots
