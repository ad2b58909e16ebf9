-- The blocked branches: what is known of them by their queues, and what comes in and leaves.
use Rattle.std.proofs.Common.{◌≡◌, ◌∙◌, ℕ, zero, suc, ◌+◌, ◌<◌, Bool, true, false, ◌||◌, List, [], ◌∷◌, length, Option, Some, None, refl, ap, sym, subst, arith, length-set}
use Rattle.std.specs.Prelude.{◌==◌, option_map, if◌then◌else◌}
use Rattle.std.specs.List.{slice_get}
use Rattle.std.specs.Option.{option_map_or}
use Rattle.ccr_base.specs.declared.names.Spot.{Spot}
use Rattle.ccr_base.specs.declared.names.Spot.TheVariants.{Branch, Site}
use Rattle.ccr_wiring.specs.declared.parts.Parts.{Parts}
use Rattle.ccr_wiring.specs.Wirings.{Placement, placement, policy_of, spots}
use Rattle.ccr_base.proofs.Booleans.{either, or_left, or_right, no_both, eq-self, same_number, eq_turned}
use Rattle.ccr_base.specs.Lists.{has_number}
use Rattle.ccr_ledger.specs.Rows.{row, with_row, empty_rows}
use Rattle.ccr_ledger.specs.Books.{Books}
use Rattle.ccr_ledger.specs.Asked.{room, queue_has_room}
use Rattle.ccr_ledger.proofs.Tables.{row-other, row-with_row}
use Rattle.ccr_ledger.proofs.Empty.{row-none, length-empty_rows}
use Rattle.ccr_engine.specs.Ready.{IsLeastFirst}
use Rattle.ccr_engine.specs.Numbered.{passes_at}
use Rattle.ccr_engine.specs.Blocked.{branch_queue, is_on, is_blocked, AreBlocked, Blocks}

-- which queue an index is blocked at
pub row_within : (rows : List (List ℕ)) (q k : ℕ) → has_number (row rows q) k ≡ true → q < length rows
row_within [] q k is = absurd (cc)
row_within (r ∷ rows) zero k is = omega arith
row_within (r ∷ rows) (suc q) k is = omega (arith, row_within rows q k is)

pub first_within : (rows : List (List ℕ)) (q k : ℕ) → slice_get (row rows q) 0 ≡ Some k → q < length rows
first_within [] q k is = absurd (cc)
first_within (r ∷ rows) zero k is = omega arith
first_within (r ∷ rows) (suc q) k is = omega (arith, first_within rows q k is)

pub row_blocked : (rows : List (List ℕ)) (q k : ℕ) → has_number (row rows q) k ≡ true → is_blocked rows k ≡ true
row_blocked [] q k is = absurd (cc)
row_blocked (r ∷ rows) zero k is = or_left (has_number r k) (is_blocked rows k) is
row_blocked (r ∷ rows) (suc q) k is = or_right (has_number r k) (is_blocked rows k) (row_blocked rows q k is)

pub blocked_row : (rows : List (List ℕ)) (k : ℕ) → is_blocked rows k ≡ true → (q : ℕ) × (has_number (row rows q) k ≡ true)
blocked_row [] k is = absurd (cc)
blocked_row (r ∷ rows) k is = of_test (has_number r k) refl is (λ more. blocked_row rows k more)
  where
    of_test : (b : Bool) → has_number r k ≡ b → b || is_blocked rows k ≡ true → (is_blocked rows k ≡ true → (q : ℕ) × (has_number (row rows q) k ≡ true)) → (q : ℕ) × (has_number (row (r ∷ rows) q) k ≡ true)
    of_test true at is there = (0, at)
    of_test false at is there = (suc (there is).0, (there is).1)

pub row_set : (rows : List (List ℕ)) (q : ℕ) (items : List ℕ) → q < length rows → row (with_row rows q items) q ≡ items
row_set rows q items low = row-with_row rows q q items low ∙ ap (λ b. if b then items else row rows q) (eq-self q)

-- how many are blocked, each as often as it is at a queue
abbrev pub total : List (List ℕ) → ℕ
total [] = 0
total (indices ∷ rows) = length indices + total rows

total_set : (rows : List (List ℕ)) (q : ℕ) (items : List ℕ) → q < length rows → length items < length (row rows q) → total (with_row rows q items) < total rows
total_set [] q items low less = absurd (omega (arith, low))
total_set (r ∷ rows) zero items low less = omega (arith, less)
total_set (r ∷ rows) (suc q) items low less = omega (arith, total_set rows q items (omega (arith, low)) less)

pub AreBlocked-none : (w : Parts) → AreBlocked w (empty_rows (length w.queues))
AreBlocked-none w = record {
  size = length-empty_rows ℕ (length w.queues);
  on_queue = λ q k is. absurd (no_both is (ap (λ ns. has_number ns k) (row-none (length w.queues) q)));
  lowest = λ q. subst IsLeastFirst (sym (row-none (length w.queues) q)) (λ k at. absurd (cc));
}

-- the branches of one queue have room together
room_on : (w : Parts) (b : Books) (q : ℕ) (s : Spot) → is_on w q s ≡ true → room w b s ≡ queue_has_room b q (policy_of w q)
room_on w b q (Site n k) on = absurd (cc)
room_on w b q (Branch n) on = of_placement (placement w n) on
  where
    of_placement : (o : Option Placement) → option_map_or (λ other. other == q) (option_map (λ (s : Placement). s.branch.queue) o) false ≡ true → option_map_or (λ (s : Placement). queue_has_room b s.branch.queue (policy_of w s.branch.queue)) o true ≡ queue_has_room b q (policy_of w q)
    of_placement None on = absurd (cc)
    of_placement (Some s) on = let same : s.branch.queue ≡ q = same_number s.branch.queue q on in rw same refl

room_at : (w : Parts) (b : Books) (q k : ℕ) → passes_at (is_on w q) (spots w) k ≡ true → passes_at (room w b) (spots w) k ≡ queue_has_room b q (policy_of w q)
room_at w b q k on = of_option (slice_get (spots w) k) on
  where
    of_option : (o : Option Spot) → option_map_or (is_on w q) o false ≡ true → option_map_or (room w b) o false ≡ queue_has_room b q (policy_of w q)
    of_option None on = absurd (cc)
    of_option (Some s) on = room_on w b q s on

pub same_room : (w : Parts) (b : Books) (blocked : List (List ℕ)) → AreBlocked w blocked → (q j k : ℕ) → has_number (row blocked q) j ≡ true → has_number (row blocked q) k ≡ true → passes_at (room w b) (spots w) j ≡ passes_at (room w b) (spots w) k
same_room w b blocked are q j k one other = room_at w b q j (are.on_queue q j one) ∙ sym (room_at w b q k (are.on_queue q k other))

-- one queue's indices change, and no other's
module _ (old new : List (List ℕ)) (q : ℕ) (others : new ≡ with_row old q (row new q)) where
  rows_else : (n : ℕ) → (n == q) ≡ false → row new n ≡ row old n
  rows_else n differs = ap (λ rows. row rows n) others ∙ row-other old q n (row new q) (eq_turned n q differs)

  same_size : length new ≡ length old
  same_size = ap length others ∙ length-set old q (row new q)

  all_lowest : IsLeastFirst (row new q) → ((n : ℕ) → IsLeastFirst (row old n)) → (n : ℕ) → IsLeastFirst (row new n)
  all_lowest least was n = of_test (n == q) refl
    where
      of_test : (b : Bool) → (n == q) ≡ b → IsLeastFirst (row new n)
      of_test true same = let here : n ≡ q = same_number n q same in subst (λ m. IsLeastFirst (row new m)) (sym here) least
      of_test false differs = subst IsLeastFirst (sym (rows_else n differs)) (was n)

  -- an index comes in
  module _ (index : ℕ) (members : (k : ℕ) → has_number (row new q) k ≡ (k == index) || has_number (row old q) k) where
    came : (n k : ℕ) → has_number (row new n) k ≡ true → (C : Type 0) → (n ≡ q → k ≡ index → C) → (has_number (row old n) k ≡ true → C) → C
    came n k is C one other = of_test (n == q) refl
      where
        of_test : (b : Bool) → (n == q) ≡ b → C
        of_test true same =
            let here : n ≡ q = same_number n q same in
            let within : (k == index) || has_number (row old q) k ≡ true = sym (members k) ∙ subst (λ m. has_number (row new m) k ≡ true) here is in
            either (k == index) (has_number (row old q) k) within C (λ at. one here (same_number k index at)) (λ was. other (subst (λ m. has_number (row old m) k ≡ true) (sym here) was))
        of_test false differs = other (subst (λ ns. has_number ns k ≡ true) (rows_else n differs) is)

    stays : (n k : ℕ) → has_number (row old n) k ≡ true → has_number (row new n) k ≡ true
    stays n k was = of_test (n == q) refl
      where
        of_test : (b : Bool) → (n == q) ≡ b → has_number (row new n) k ≡ true
        of_test true same =
            let here : n ≡ q = same_number n q same in
            let there : has_number (row old q) k ≡ true = subst (λ m. has_number (row old m) k ≡ true) here was in
            subst (λ m. has_number (row new m) k ≡ true) (sym here) (members k ∙ or_right (k == index) (has_number (row old q) k) there)
        of_test false differs = subst (λ ns. has_number ns k ≡ true) (sym (rows_else n differs)) was

    pub entered_blocked : is_blocked new index ≡ true
    entered_blocked = row_blocked new q index (members index ∙ or_left (index == index) (has_number (row old q) index) (eq-self index))

    pub blocks_entered : (w : Parts) (b : Books) (s : Spot) → AreBlocked w old → slice_get (spots w) index ≡ Some s → branch_queue w s ≡ Some q → room w b s ≡ false → IsLeastFirst (row new q) → Blocks w b old new
    blocks_entered w b s are at on full least =
        let here : passes_at (is_on w q) (spots w) index ≡ true = rw (at, on) (eq-self q) in
        let lacks : passes_at (room w b) (spots w) index ≡ false = rw at full in
        record {
          blocked = record {
            size = same_size ∙ are.size;
            on_queue = λ n k is. came n k is (passes_at (is_on w n) (spots w) k ≡ true) (λ same one. rw (same, one) here) (λ was. are.on_queue n k was);
            lowest = all_lowest least are.lowest;
          };
          more = λ k was. (let there = blocked_row old k was in row_blocked new there.0 k (stays there.0 k there.1));
          full = λ limit known n k is before. came n k is (passes_at (room w b) (spots w) k ≡ false) (λ same one. rw one lacks) (λ was. known n k was before);
        }

  -- the least leaves
  module _ (index : ℕ) (rest : row old q ≡ index ∷ row new q) where
    was_there : (n k : ℕ) → has_number (row new n) k ≡ true → has_number (row old n) k ≡ true
    was_there n k is = of_test (n == q) refl
      where
        of_test : (b : Bool) → (n == q) ≡ b → has_number (row old n) k ≡ true
        of_test true same =
            let here : n ≡ q = same_number n q same in
            let there : has_number (row new q) k ≡ true = subst (λ m. has_number (row new m) k ≡ true) here is in
            subst (λ m. has_number (row old m) k ≡ true) (sym here) (ap (λ ns. has_number ns k) rest ∙ or_right (index == k) (has_number (row new q) k) there)
        of_test false differs = subst (λ ns. has_number ns k ≡ true) (rows_else n differs) is

    pub AreBlocked-left : (w : Parts) → AreBlocked w old → IsLeastFirst (row new q) → AreBlocked w new
    AreBlocked-left w are least = record {
      size = same_size ∙ are.size;
      on_queue = λ n k is. are.on_queue n k (was_there n k is);
      lowest = all_lowest least are.lowest;
    }

    -- no other index leaves
    pub left_alone : (k : ℕ) → is_blocked old k ≡ true → is_blocked new k ≡ false → k ≡ index
    left_alone k was out = let there = blocked_row old k was in of_test there.0 there.1 (there.0 == q) refl
      where
        of_test : (n : ℕ) → has_number (row old n) k ≡ true → (b : Bool) → (n == q) ≡ b → k ≡ index
        of_test n among true same =
            let here : n ≡ q = same_number n q same in
            let within : (index == k) || has_number (row new q) k ≡ true = sym (ap (λ ns. has_number ns k) rest) ∙ subst (λ m. has_number (row old m) k ≡ true) here among in
            either (index == k) (has_number (row new q) k) within (k ≡ index) (λ at. sym (same_number index k at)) (λ still. absurd (no_both (row_blocked new q k still) out))
        of_test n among false differs = absurd (no_both (row_blocked new n k (subst (λ ns. has_number ns k ≡ true) (sym (rows_else n differs)) among)) out)

    pub total_left : q < length old → total new < total old
    total_left low =
        let longer : length (row old q) ≡ suc (length (row new q)) = ap length rest in
        let less = total_set old q (row new q) low (omega (arith, longer)) in
        subst (λ n. n < total old) (sym (ap total others)) less
