-- Before the first event no spot can fire, whatever room there is.
use Rattle.std.proofs.Common.{◌≡◌, Bool, true, false, ◌&&◌, ◌||◌, List, [], ◌∷◌, Option, Some, None, refl, arith}
use Rattle.std.specs.Prelude.{nat_le}
use Rattle.std.specs.List.{list_any, list_all}
use Rattle.std.specs.Option.{option_map_or}
use Rattle.std.proofs.lemmas.Bool.Decides.{nat_tests}
use Rattle.ccr_base.specs.declared.names.Spot.{Spot}
use Rattle.ccr_base.specs.declared.names.Spot.TheVariants.{Branch, Site}
use Rattle.ccr_base.specs.declared.patterns.Slot.{Slot}
use Rattle.ccr_base.specs.declared.patterns.Pattern.{Pattern}
use Rattle.ccr_base.specs.declared.patterns.Pattern.TheVariants.{Slots, Gather}
use Rattle.ccr_base.specs.Selection.{is_choosable}
use Rattle.ccr_wiring.specs.declared.parts.Parts.{Parts}
use Rattle.ccr_wiring.specs.Wirings.{Placement, placement}
use Rattle.ccr_wiring.specs.Valid.{IsValid}
use Rattle.ccr_model.specs.Posts.{held}
use Rattle.ccr_model.specs.Live.{is_live_in}
use Rattle.ccr_model.specs.Enough.{has_enough}
use Rattle.ccr_base.proofs.Booleans.{and_false}
use Rattle.ccr_laws.specs.Potential.{takes_some}
use Rattle.ccr_laws.proofs.Valid.{TakesSome-valid}
use Rattle.ccr_engine.specs.Cursor.{could_fire}

-- a slot that takes something finds nothing
slots_empty : (slots : List Slot) → list_any (λ (slot : Slot). nat_le 1 slot.least && nat_le 1 slot.most) slots ≡ true → list_all (λ (slot : Slot). is_choosable slot []) slots ≡ false
slots_empty [] some = absurd (cc)
slots_empty (s ∷ slots) some = of_test (nat_le 1 s.least) (nat_le 1 s.most) refl some (slots_empty slots)
  where
    of_test : (least most : Bool) → nat_le 1 s.least ≡ least → (least && most) || list_any (λ (slot : Slot). nat_le 1 slot.least && nat_le 1 slot.most) slots ≡ true → (list_any (λ (slot : Slot). nat_le 1 slot.least && nat_le 1 slot.most) slots ≡ true → list_all (λ (slot : Slot). is_choosable slot []) slots ≡ false) → nat_le s.least 0 && list_all (λ (slot : Slot). is_choosable slot []) slots ≡ false
    of_test true most least some rest = let out : nat_le s.least 0 ≡ false = grind (arith, nat_tests, least) in rw out refl
    of_test false most least some rest = rw (rest some) (and_false (nat_le s.least 0))

pattern_empty : (p : Pattern) → takes_some p ≡ true → has_enough (held []) p ≡ false
pattern_empty (Slots slots) some = slots_empty slots some
pattern_empty (Gather total a b) some = grind (arith, nat_tests, some)

pub nothing_fires : (w : Parts) → IsValid w → (s : Spot) → could_fire w [] s ≡ false
nothing_fires w valid (Site n k) = refl
nothing_fires w valid (Branch n) = of_placement (placement w n) refl
  where
    of_placement : (o : Option Placement) → placement w n ≡ o → option_map_or (λ (s : Placement). is_live_in w [] n s.domain s.branch.group) o false && option_map_or (λ (s : Placement). has_enough (held []) s.branch.pattern) o false ≡ false
    of_placement None at = refl
    of_placement (Some s) at = rw (pattern_empty s.branch.pattern (TakesSome-valid w valid n s at)) (and_false _)
