-- A firing that is allowed takes its whole pattern.
use Rattle.std.proofs.Common.{◌≡◌, ℕ, suc, ◌+◌, ◌≤◌, Bool, true, false, ◌&&◌, ◌||◌, List, [], ◌∷◌, ◌++◌, length, take, filter, flat_map, Option, Some, None, refl, sym, ap, ◌∙◌, arith, subst, length-take, length-append}
use Rattle.std.specs.Prelude.{◌==◌, if◌then◌else◌, All, Contains}
use Rattle.std.specs.List.{slice_get, AllZip}
use Rattle.std.specs.Option.{option_map_or}
use Rattle.std.proofs.lemmas.Bool.Decides.{nat_tests}
use Rattle.std.proofs.lemmas.List.Elements.{All-take, All-filter, All-contains_itself, filter_passes}
use Rattle.ccr_base.specs.declared.names.MsgId.{MsgId}
use Rattle.ccr_base.specs.declared.names.TaskId.{TaskId}
use Rattle.ccr_base.specs.declared.names.Spot.{Spot}
use Rattle.ccr_base.specs.declared.names.Spot.TheVariants.{Branch, Site}
use Rattle.ccr_base.specs.declared.messages.Msg.{Msg}
use Rattle.ccr_base.specs.declared.patterns.Slot.{Slot}
use Rattle.ccr_base.specs.declared.patterns.Pattern.{Pattern}
use Rattle.ccr_base.specs.declared.patterns.Pattern.TheVariants.{Slots, Gather}
use Rattle.ccr_wiring.specs.declared.parts.Parts.{Parts}
use Rattle.ccr_model.specs.declared.history.Event.{Event}
use Rattle.ccr_model.specs.declared.history.Event.TheVariants.{Fire}
use Rattle.ccr_base.specs.Names.{same_message, same_lists}
use Rattle.ccr_base.specs.Selection.{holds, fitting, is_choosable, selection}
use Rattle.ccr_wiring.specs.Wirings.{Placement, placement, site_port}
use Rattle.ccr_wiring.specs.Valid.{IsValid, IsSlotFilled, IsPatternFilled}
use Rattle.ccr_wiring.proofs.Soundness.{sound}
use Rattle.ccr_model.specs.Posts.{held}
use Rattle.ccr_model.specs.Selection.{names_of, selection_of_slots, are_first, are_split, is_selection_of, are_oldest, is_selection}
use Rattle.ccr_model.specs.Legal.{IsLegal}
use Rattle.ccr_model.proofs.FirstNames.{length-names_of, same_names, first-names}
use Rattle.ccr_model.proofs.TakenOnce.{FireFacts-allowed, joined_some}
use Rattle.ccr_base.proofs.Options.{some_of}
use Rattle.ccr_base.proofs.SameNames.{same_message-is, names_of-append}
use Rattle.ccr_base.proofs.Booleans.{both}
use Rattle.ccr_laws.specs.Occurring.{Occurs}
use Rattle.ccr_laws.specs.WholePattern.{AreFirst, FillsSlot, FillsSlots, FillsGather, FillsPattern, IsOldest, TakesWhole}
use Rattle.ccr_laws.proofs.LegalEventsWereAllowed.{allowed_at}

-- what is taken of those that fit
taken_slot : (past : List Event) (slot : Slot) → IsSlotFilled slot → is_choosable slot (held past slot.port) ≡ true → FillsSlot past slot (take slot.most (fitting slot.pred (held past slot.port)))
taken_slot past slot filled enough =
    let ms = held past slot.port in
    let fits : Msg → Bool = λ m. holds slot.pred m.value in
    let many : slot.least ≤ length (filter fits ms) = grind (arith, nat_tests, enough) in
    let same : slot.least ≡ slot.most = filled.0 in
    let long : length (take slot.most (filter fits ms)) ≡ slot.most = omega (arith, length-take slot.most (filter fits ms)) in
    record {
      counted = long ∙ sym same;
      were_held = All-take (Contains ms) slot.most (filter fits ms) (All-filter fits (Contains ms) ms (All-contains_itself ms));
      satisfy = All-take (λ m. fits m ≡ true) slot.most (filter fits ms) (filter_passes fits ms);
      oldest = ap (λ n. take n (filter fits ms)) (sym long);
    }

fills_slot : (past : List Event) (slot : Slot) (xs : List Msg) → IsSlotFilled slot → selection slot (held past slot.port) ≡ Some xs → FillsSlot past slot xs
fills_slot past slot xs filled is = of_test (is_choosable slot (held past slot.port)) refl is
  where
    of_test : (b : Bool) → is_choosable slot (held past slot.port) ≡ b → (if b then Some (take slot.most (fitting slot.pred (held past slot.port))) else None) ≡ Some xs → FillsSlot past slot xs
    of_test false e same = absurd (cc)
    of_test true e same =
        let taken : take slot.most (fitting slot.pred (held past slot.port)) ≡ xs = cc in
        subst (FillsSlot past slot) taken (taken_slot past slot filled e)

fills_parts : (past : List Event) (slots : List Slot) (xs : List Msg) → ((index : ℕ) (slot : Slot) → slice_get slots index ≡ Some slot → IsSlotFilled slot) → selection_of_slots (held past) slots ≡ Some xs → (parts : List (List Msg)) × (AllZip (FillsSlot past) slots parts) × (names_of xs ≡ flat_map names_of parts)
fills_parts past [] xs filled is = let none : xs ≡ [] = cc in ([], tt, ap names_of none)
fills_parts past (slot ∷ slots) xs filled is =
    let split = joined_some (selection slot (held past slot.port)) (selection_of_slots (held past) slots) xs is in
    let rest = fills_parts past slots split.1 (λ index other at. filled (suc index) other at) split.3 in
    let one = fills_slot past slot split.0 (filled 0 slot refl) split.2 in
    (split.0 ∷ rest.0, (one, rest.1), sym (ap names_of split.4) ∙ names_of-append split.0 split.1 ∙ ap (λ names. names_of split.0 ++ names) rest.2)

fills_slots : (past : List Event) (slots : List Slot) (names : List MsgId) → ((index : ℕ) (slot : Slot) → slice_get slots index ≡ Some slot → IsSlotFilled slot) → (o : Option (List Msg)) → selection_of_slots (held past) slots ≡ o → option_map_or (λ messages. same_lists same_message (names_of messages) names) o false ≡ true → FillsSlots past slots names
fills_slots past slots names filled None at is = absurd (cc)
fills_slots past slots names filled (Some xs) at is =
    let found = fills_parts past slots xs filled at in
    record { parts = found.0; filled = found.1; named = same_names xs names is ∙ found.2 }

-- names of a first part
front_of : (ms : List Msg) (names : List MsgId) → are_first ms names ≡ true → (front : List Msg) × (names ≡ names_of front) × (AreFirst front ms)
front_of ms names is = let e = first-names ms names is in (take (length names) ms, e, ap (λ k. take k ms) (ap length e ∙ length-names_of (take (length names) ms)))

-- names of a first part of one list and then of the other
split_of : (a b : List Msg) (names : List MsgId) → are_split a b names ≡ true → (front : List Msg) × (back : List Msg) × (names ≡ names_of front ++ names_of back) × (AreFirst front a) × (AreFirst back b)
split_of a b [] is = ([], [], refl, refl, refl)
split_of [] b (n ∷ names) is = let back = front_of b (n ∷ names) is in ([], back.0, back.1, refl, back.2)
split_of (m ∷ a) b (n ∷ names) is = of_test (are_first b (n ∷ names)) refl is (split_of a b names)
  where
    of_test : (first : Bool) → are_first b (n ∷ names) ≡ first → first || (same_message m.id n && are_split a b names) ≡ true → (are_split a b names ≡ true → (front : List Msg) × (back : List Msg) × (names ≡ names_of front ++ names_of back) × (AreFirst front a) × (AreFirst back b)) → (front : List Msg) × (back : List Msg) × (n ∷ names ≡ names_of front ++ names_of back) × (AreFirst front (m ∷ a)) × (AreFirst back b)
    of_test true e at rest = let back = front_of b (n ∷ names) e in ([], back.0, back.1, refl, back.2)
    of_test false e at rest =
        let parts = both (same_message m.id n) (are_split a b names) at in
        let one : n ≡ m.id = sym (same_message-is m.id n parts.0) in
        let more = rest parts.1 in
        let others : names ≡ names_of more.0 ++ names_of more.1 = more.2 in
        (m ∷ more.0, more.1, cc, ap (λ xs. m ∷ xs) more.3, more.4)

-- a first part of what is held is held
held_front : (messages list : List Msg) → AreFirst messages list → All (Contains list) messages
held_front messages list first = subst (All (Contains list)) (sym first) (All-take (Contains list) (length messages) list (All-contains_itself list))

fills_gather : (past : List Event) (total first second : ℕ) (names : List MsgId) → is_selection_of (held past) (Gather total first second) names ≡ true → FillsGather past total first second names
fills_gather past total first second names is =
    let parts = both (length names == total) (are_split (held past first) (held past second) names) is in
    let split = split_of (held past first) (held past second) names parts.1 in
    let many : length names ≡ total = grind (arith, nat_tests, parts.0) in
    let named : names ≡ names_of split.0 ++ names_of split.1 = split.2 in
    let both_many : length names ≡ length (names_of split.0) + length (names_of split.1) = ap length named ∙ length-append (names_of split.0) (names_of split.1) in
    record {
      of_first = split.0;
      of_second = split.1;
      named = named;
      counted = omega (arith, both_many, many, length-names_of split.0, length-names_of split.1);
      first_held = held_front split.0 (held past first) split.3;
      second_held = held_front split.1 (held past second) split.4;
      first_oldest = split.3;
      second_oldest = split.4;
    }

fills_pattern : (past : List Event) (p : Pattern) (names : List MsgId) → IsPatternFilled p → is_selection_of (held past) p names ≡ true → FillsPattern past p names
fills_pattern past (Slots slots) names filled is = fills_slots past slots names filled.2 (selection_of_slots (held past) slots) refl is
fills_pattern past (Gather total first second) names filled is = fills_gather past total first second names is

one_oldest : (past : List Event) (port : ℕ) (names : List MsgId) (ms : List Msg) → held past port ≡ ms → are_oldest ms names ≡ true → IsOldest past port names
one_oldest past port [] ms at is = absurd (cc)
one_oldest past port (n ∷ []) [] at is = absurd (cc)
one_oldest past port (n ∷ []) (m ∷ ms) at is =
    let parts = both (same_message m.id n) true is in
    let one : n ≡ m.id = sym (same_message-is m.id n parts.0) in
    record { message = m; named = ap (λ name. name ∷ []) one; oldest = rw at refl }
one_oldest past port (n ∷ k ∷ names) ms at is =
    let parts = both (length (n ∷ k ∷ names) == 1) (are_first ms (n ∷ k ∷ names)) is in
    let long : length (n ∷ k ∷ names) ≡ 1 = grind (arith, nat_tests, parts.0) in
    absurd (omega (arith, long))

takes_whole : (w : Parts) → IsValid w → (past : List Event) (spot : Spot) (names : List MsgId) → is_selection w past spot names ≡ true → TakesWhole w past spot names
takes_whole w valid past (Branch b) names is =
    let found = some_of (λ (s : Placement). is_selection_of (held past) s.branch.pattern names) (placement w b) is in
    record { its = found.0; known = found.1; filled = fills_pattern past found.0.branch.pattern names ((sound w valid).patterns b found.0 found.1) found.2 }
takes_whole w valid past (Site b k) names is =
    let found = some_of (λ port. are_oldest (held past port) names) (site_port w b k) is in
    record { port = found.0; awaited = found.1; taken = one_oldest past found.0 names (held past found.0) refl found.2 }

-- whole pattern
pub whole_pattern : (w : Parts) → IsValid w → (h : List Event) → IsLegal w h → (past : List Event) (t : TaskId) (s : Spot) (ms : List MsgId) (cs : List TaskId) → Occurs h past (Fire t s ms cs) → TakesWhole w past s ms
whole_pattern w valid h legal past t s ms cs stands =
    let allowed = allowed_at w h past (Fire t s ms cs) legal stands in
    takes_whole w valid past s ms (FireFacts-allowed w past t s ms cs allowed).selection_made
