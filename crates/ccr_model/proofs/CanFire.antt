-- A spot can fire exactly where the engine has a firing there.
use Rattle.std.proofs.Common.{◌≡◌, ℕ, ◌+◌, Bool, true, false, not, ◌&&◌, ◌||◌, List, [], ◌∷◌, length, Option, Some, None, refl, arith, ◌∙◌}
use Rattle.std.specs.Prelude.{if◌then◌else◌, nat_lt, nat_le, is_some, option_map, option_and_then}
use Rattle.std.specs.List.{list_all}
use Rattle.std.specs.Option.{option_map_or, option_or}
use Rattle.std.proofs.lemmas.Bool.Decides.{nat_tests}
use Rattle.ccr_base.specs.declared.messages.Msg.{Msg}
use Rattle.ccr_base.specs.declared.patterns.Slot.{Slot}
use Rattle.ccr_base.specs.declared.patterns.Pattern.{Pattern}
use Rattle.ccr_base.specs.declared.patterns.Pattern.TheVariants.{Slots, Gather}
use Rattle.ccr_base.specs.declared.names.Spot.{Spot}
use Rattle.ccr_base.specs.declared.names.Spot.TheVariants.{Branch, Site}
use Rattle.ccr_base.specs.Selection.{selection, is_choosable}
use Rattle.ccr_wiring.specs.declared.parts.Parts.{Parts}
use Rattle.ccr_wiring.specs.Wirings.{Placement, placement, site_port}
use Rattle.ccr_model.specs.declared.history.Event.{Event}
use Rattle.ccr_model.specs.Posts.{held}
use Rattle.ccr_model.specs.Selection.{joined, selection_of_slots, engine_gather, engine_selection_of, oldest, engine_selection}
use Rattle.ccr_model.specs.Enough.{has_enough, can_take, can_fire}
use Rattle.ccr_model.specs.Order.{fire_at}

pub is_some-or : {X : Type 0} (a b : Option X) → is_some (option_or a b) ≡ is_some a || is_some b
is_some-or None b = refl
is_some-or (Some x) b = refl

pub is_some-map : {X Y : Type 0} (f : X → Y) (o : Option X) → is_some (option_map f o) ≡ is_some o
is_some-map f None = refl
is_some-map f (Some x) = refl

pub is_some-if : {X : Type 0} (b : Bool) (o : Option X) → is_some (if b then o else None) ≡ b && is_some o
is_some-if true o = refl
is_some-if false o = refl

is_some-joined : (a b : Option (List Msg)) → is_some (joined a b) ≡ is_some a && is_some b
is_some-joined None b = refl
is_some-joined (Some x) None = refl
is_some-joined (Some x) (Some y) = refl

some_selection : (slot : Slot) (ms : List Msg) → is_some (selection slot ms) ≡ is_choosable slot ms
some_selection slot ms = of_test (is_choosable slot ms) _
  where
    of_test : {X : Type 0} (b : Bool) (x : X) → is_some (if b then Some x else None) ≡ b
    of_test true x = refl
    of_test false x = refl

pub some_selection_of_slots : (f : ℕ → List Msg) (slots : List Slot) → is_some (selection_of_slots f slots) ≡ list_all (λ (slot : Slot). is_choosable slot (f slot.port)) slots
some_selection_of_slots f [] = refl
some_selection_of_slots f (s ∷ slots) = rw (is_some-joined, some_selection s (f s.port), some_selection_of_slots f slots) refl

some_gather : (n p q : ℕ) (a b : List Msg) → is_some (engine_gather n p q a b) ≡ nat_le n (length a + length b)
some_gather n p q a b = of_tests (nat_lt (length a + length b) n) (nat_lt p q) _ _ ∙ grind (arith, nat_tests)
  where
    of_tests : {X : Type 0} (x y : Bool) (one other : X) → is_some (if x then None else if y then Some one else Some other) ≡ not x
    of_tests true y one other = refl
    of_tests false true one other = refl
    of_tests false false one other = refl

some_selection_of : (f : ℕ → List Msg) (p : Pattern) → is_some (engine_selection_of f p) ≡ has_enough f p
some_selection_of f (Slots slots) = some_selection_of_slots f slots
some_selection_of f (Gather total p q) = some_gather total p q (f p) (f q)

some_oldest : (ms : List Msg) → is_some (oldest ms) ≡ nat_lt 0 (length ms)
some_oldest [] = refl
some_oldest (m ∷ ms) = grind (arith, nat_tests)

some_selection_at : (w : Parts) (h : List Event) (s : Spot) → is_some (engine_selection w h s) ≡ can_take w h s
some_selection_at w h (Branch b) = of_placement (placement w b)
  where
    of_placement : (o : Option Placement) → is_some (option_and_then (λ (s : Placement). engine_selection_of (held h) s.branch.pattern) o) ≡ option_map_or (λ (s : Placement). has_enough (held h) s.branch.pattern) o false
    of_placement None = refl
    of_placement (Some s) = some_selection_of (held h) s.branch.pattern
some_selection_at w h (Site b k) = of_port (site_port w b k)
  where
    of_port : (o : Option ℕ) → is_some (option_and_then (λ port. oldest (held h port)) o) ≡ option_map_or (λ port. nat_lt 0 (length (held h port))) o false
    of_port None = refl
    of_port (Some port) = some_oldest (held h port)

-- the engine has a firing at the spot exactly where the spot can fire
pub some_fire_at : (w : Parts) (c : ℕ) (h : List Event) (s : Spot) → is_some (fire_at w c h s) ≡ can_fire w h s
some_fire_at w c h s = rw (is_some-if, is_some-map, some_selection_at w h s) refl
