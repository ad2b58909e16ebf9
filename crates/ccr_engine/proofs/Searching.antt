-- The search for the first spot that can fire, among the touched ones and the blocked ones that have room.
use Rattle.std.proofs.Common.{◌≡◌, ◌∙◌, ℕ, ◌+◌, ◌<◌, ◌≤◌, Bool, true, false, ◌&&◌, List, ◌∷◌, length, Option, Some, None, Result, Ok, Err, refl, ap, sym, subst, arith}
use Rattle.std.specs.Prelude.{nat_lt, is_some, option_and_then, IfSome, IfNone, IfOk}
use Rattle.std.specs.List.{slice_get}
use Rattle.std.specs.Option.{option_map_or}
use Rattle.std.proofs.lemmas.Bool.Decides.{nat_tests}
use Rattle.ccr_base.specs.declared.names.TaskId.{TaskId}
use Rattle.ccr_base.specs.declared.names.Spot.{Spot}
use Rattle.ccr_base.specs.declared.list.OutOfMemory.{OutOfMemory}
use Rattle.ccr_wiring.specs.declared.parts.Parts.{Parts}
use Rattle.ccr_wiring.specs.Wirings.{spots}
use Rattle.ccr_model.specs.declared.history.Event.{Event}
use Rattle.ccr_base.proofs.Booleans.{both, refuted, no_both, same_number}
use Rattle.ccr_model.proofs.CanFire.{is_some-if, is_some-map}
use Rattle.ccr_base.proofs.Options.{no_head, some_then}
use Rattle.ccr_base.specs.Lists.{has_number}
use Rattle.ccr_ledger.specs.Rows.{row, with_row}
use Rattle.ccr_ledger.specs.Books.{Books}
use Rattle.ccr_ledger.specs.Asked.{lives, room, selection_at}
use Rattle.ccr_engine.specs.declared.search.Found.{Found}
use Rattle.ccr_engine.specs.Ready.{IsLeast, IsLeastFirst}
use Rattle.ccr_engine.specs.Numbered.{passes_at}
use Rattle.ccr_engine.specs.Blocked.{is_blocked, AreBlocked, is_before, IsFullBefore}
use Rattle.ccr_engine.specs.Parts.{choose_in, fire_in, first_fire_in, fires_in, could_fire_in, IsStillIn}
use Rattle.ccr_engine.specs.Candidates.{AreCandidates, IsNoneBefore, IsFirstOpen, index_of}
use Rattle.ccr_engine.proofs.Blocking.{same_room, row_within, first_within, blocked_row, AreBlocked-left, left_alone, total, total_left}
use Rattle.ccr_engine.proofs.Gaining.{none_before}
use Rattle.ccr_engine.proofs.PartSteps.{fire_at_index, fire_none}

-- before a limit
pub before_less : (limit : Option ℕ) (j k : ℕ) → j ≤ k → is_before limit k ≡ true → is_before limit j ≡ true
before_less None j k le before = refl
before_less (Some n) j k le before = grind (arith, nat_tests, le, before)

pub before_behind : (limit : Option ℕ) (j k : ℕ) → is_before limit j ≡ true → is_before limit k ≡ false → j < k
before_behind limit j k before behind = of_test (nat_lt j k) refl
  where
    of_test : (b : Bool) → nat_lt j k ≡ b → j < k
    of_test true less = grind (arith, nat_tests, less)
    of_test false more = let le : k ≤ j = grind (arith, nat_tests, more) in absurd (no_both (before_less limit k j le before) behind)

at_least : (ns : List ℕ) (j k : ℕ) → IsLeast ns k → has_number ns j ≡ true → k ≤ j
at_least ns j k least among = of_test (nat_lt j k) refl
  where
    of_test : (b : Bool) → nat_lt j k ≡ b → k ≤ j
    of_test true less = absurd (no_both among (least.low j (grind (arith, nat_tests, less))))
    of_test false more = grind (arith, nat_tests, more)

-- one queue more
module _ (w : Parts) (b : Books) (blocked : List (List ℕ)) (are : AreBlocked w blocked) (q : ℕ) (found : Option Found) (so_far : IsFirstOpen w b blocked q found) where
  -- of the queues so far, and of this one
  one_more : (limit : Option ℕ) → ((n k : ℕ) → n < q → has_number (row blocked n) k ≡ true → is_before limit k ≡ true → passes_at (room w b) (spots w) k ≡ false)
      → ((k : ℕ) → has_number (row blocked q) k ≡ true → is_before limit k ≡ true → passes_at (room w b) (spots w) k ≡ false)
      → (n k : ℕ) → n < q + 1 → has_number (row blocked n) k ≡ true → is_before limit k ≡ true → passes_at (room w b) (spots w) k ≡ false
  one_more limit known here n k low among before = of_test (nat_lt n q) refl
    where
      of_test : (t : Bool) → nat_lt n q ≡ t → passes_at (room w b) (spots w) k ≡ false
      of_test true less = known n k (grind (arith, nat_tests, less)) among before
      of_test false more =
          let same : n ≡ q = grind (arith, nat_tests, more, low) in
          here k (subst (λ m. has_number (row blocked m) k ≡ true) same among) before

  pub open_none : slice_get (row blocked q) 0 ≡ None → IsFirstOpen w b blocked (q + 1) found
  open_none none = record {
    is_open = so_far.is_open;
    full = one_more (index_of found) so_far.full (λ k among before. absurd (no_both among (ap (λ ns. has_number ns k) (no_head (row blocked q) none))));
  }

  pub open_passed : (index : ℕ) → slice_get (row blocked q) 0 ≡ Some index → is_before (index_of found) index && passes_at (room w b) (spots w) index ≡ false → IsFirstOpen w b blocked (q + 1) found
  open_passed index first out = record { is_open = so_far.is_open; full = one_more (index_of found) so_far.full here }
    where
      least : IsLeast (row blocked q) index
      least = are.lowest q index first

      of_tests : (t : Bool) → is_before (index_of found) index ≡ t → t && passes_at (room w b) (spots w) index ≡ false → (k : ℕ) → has_number (row blocked q) k ≡ true → is_before (index_of found) k ≡ true → passes_at (room w b) (spots w) k ≡ false
      of_tests true near full k among before = same_room w b blocked are q k index among least.among ∙ full
      of_tests false behind full k among before = absurd (no_both (before_less (index_of found) index k (at_least (row blocked q) k index least among) before) behind)

      here : (k : ℕ) → has_number (row blocked q) k ≡ true → is_before (index_of found) k ≡ true → passes_at (room w b) (spots w) k ≡ false
      here k among before = of_tests (is_before (index_of found) index) refl out k among before

  pub open_nearer : (index : ℕ) → slice_get (row blocked q) 0 ≡ Some index → is_before (index_of found) index && passes_at (room w b) (spots w) index ≡ true → IsFirstOpen w b blocked (q + 1) (Some (record { queue = q; index = index }))
  open_nearer index first is =
      let parts = both (is_before (index_of found) index) (passes_at (room w b) (spots w) index) is in
      let least = are.lowest q index first in
      record {
        is_open = record { least = first; roomy = parts.1 };
        full = one_more (Some index)
            (λ n k low among before. so_far.full n k low among (before_less (index_of found) k index (grind (arith, nat_tests, before)) parts.0))
            (λ k among before. absurd (no_both among (least.low k (grind (arith, nat_tests, before)))));
      }

-- all queues were looked at
pub full_before : (w : Parts) (b : Books) (blocked : List (List ℕ)) (found : Option Found) → IsFirstOpen w b blocked (length blocked) found → IsFullBefore w b blocked (index_of found)
full_before w b blocked found first = λ q k among before. first.full q k (row_within blocked q k among) among before

-- what fires could fire, and has room
fires_parts : (w : Parts) (t : TaskId) (b : Books) (s : Spot) → fires_in w t b s ≡ (lives w b s && room w b s) && is_some (selection_at w b s)
fires_parts w t b s = is_some-if (lives w b s && room w b s) (choose_in w t b s) ∙ ap (λ c. (lives w b s && room w b s) && c) (is_some-map _ (selection_at w b s))

no_room : (w : Parts) (t : TaskId) (b : Books) (k : ℕ) → passes_at (room w b) (spots w) k ≡ false → passes_at (fires_in w t b) (spots w) k ≡ false
no_room w t b k full = of_option (slice_get (spots w) k) full
  where
    of_bools : (l r c : Bool) → r ≡ false → (l && r) && c ≡ false
    of_bools true r c full = rw full refl
    of_bools false r c full = refl

    of_option : (o : Option Spot) → option_map_or (room w b) o false ≡ false → option_map_or (fires_in w t b) o false ≡ false
    of_option None full = refl
    of_option (Some s) full = fires_parts w t b s ∙ of_bools (lives w b s) (room w b s) (is_some (selection_at w b s)) full

could_not : (w : Parts) (t : TaskId) (b : Books) (k : ℕ) → passes_at (could_fire_in w b) (spots w) k ≡ false → passes_at (fires_in w t b) (spots w) k ≡ false
could_not w t b k out = of_option (slice_get (spots w) k) out
  where
    of_bools : (l r c : Bool) → l && c ≡ false → (l && r) && c ≡ false
    of_bools true true c out = out
    of_bools true false c out = refl
    of_bools false r c out = refl

    of_option : (o : Option Spot) → option_map_or (could_fire_in w b) o false ≡ false → option_map_or (fires_in w t b) o false ≡ false
    of_option None out = refl
    of_option (Some s) out = fires_parts w t b s ∙ of_bools (lives w b s) (room w b s) (is_some (selection_at w b s)) out

-- what has room and does not fire could not fire
pub asked_vain : (w : Parts) (t : TaskId) (b : Books) (k : ℕ) → passes_at (room w b) (spots w) k ≡ true → option_and_then (fire_in w t b) (slice_get (spots w) k) ≡ None → passes_at (could_fire_in w b) (spots w) k ≡ false
asked_vain w t b k roomy none = of_option (slice_get (spots w) k) roomy none
  where
    of_bools : (l r c : Bool) → r ≡ true → (l && r) && c ≡ false → l && c ≡ false
    of_bools true true c roomy out = out
    of_bools true false c roomy out = absurd (cc)
    of_bools false r c roomy out = refl

    of_option : (o : Option Spot) → option_map_or (room w b) o false ≡ true → option_and_then (fire_in w t b) o ≡ None → option_map_or (could_fire_in w b) o false ≡ false
    of_option None roomy none = refl
    of_option (Some s) roomy none = of_bools (lives w b s) (room w b s) (is_some (selection_at w b s)) roomy (sym (fires_parts w t b s) ∙ ap is_some none)

-- none before the limit fires, where none that is touched is before it
none_can : (w : Parts) (t : TaskId) (b : Books) (touched : List ℕ) (blocked : List (List ℕ)) (limit : Option ℕ) → IsStillIn w b touched blocked → IsFullBefore w b blocked limit → ((k : ℕ) → is_before limit k ≡ true → has_number touched k ≡ false) → IsNoneBefore w t b limit
none_can w t b touched blocked limit still full above = λ k before. of_test k before (is_blocked blocked k) refl
  where
    of_test : (k : ℕ) → is_before limit k ≡ true → (c : Bool) → is_blocked blocked k ≡ c → passes_at (fires_in w t b) (spots w) k ≡ false
    of_test k before true is = let there = blocked_row blocked k is in no_room w t b k (full there.0 k there.1 before)
    of_test k before false out = could_not w t b k (still k (above k before) out)

-- the firing at an index before which none fires is the first
pub first_at : (w : Parts) (t : TaskId) (b : Books) (k : ℕ) (e : Event) → IsNoneBefore w t b (Some k) → option_and_then (fire_in w t b) (slice_get (spots w) k) ≡ Some e → first_fire_in w t b (spots w) ≡ Some e
first_at w t b k e none is =
    let there = some_then (fire_in w t b) (slice_get (spots w) k) e is in
    fire_at_index w t b k (spots w) there.0 e (none_before (fires_in w t b) (spots w) k (λ index low. none index (grind (arith, nat_tests, low)))) there.1 there.2

pub first_none : (w : Parts) (t : TaskId) (b : Books) → IsNoneBefore w t b None → first_fire_in w t b (spots w) ≡ None
first_none w t b none = fire_none w t b (length (spots w)) (spots w) (none_before (fires_in w t b) (spots w) (length (spots w)) (λ index low. none index refl)) (omega arith)

-- among the touched spots
module _ (w : Parts) (t : TaskId) (b : Books) (touched : List ℕ) (blocked : List (List ℕ)) (are : AreCandidates w b touched blocked) (limit : Option ℕ) (full : IsFullBefore w b blocked limit) where
  pub touched_fires : (k : ℕ) (e : Event) → slice_get touched 0 ≡ Some k → is_before limit k ≡ true → option_and_then (fire_in w t b) (slice_get (spots w) k) ≡ Some e → first_fire_in w t b (spots w) ≡ Some e
  touched_fires k e first before is =
      let least = are.lowest k first in
      first_at w t b k e (none_can w t b touched blocked (Some k) are.still (λ q j among low. full q j among (before_less limit j k (grind (arith, nat_tests, low)) before)) (λ j low. least.low j (grind (arith, nat_tests, low)))) is

  pub touched_behind : (k : ℕ) → slice_get touched 0 ≡ Some k → is_before limit k ≡ false → IsNoneBefore w t b limit
  touched_behind k first behind =
      let least = are.lowest k first in
      none_can w t b touched blocked limit are.still full (λ j before. least.low j (before_behind limit j k before behind))

  pub touched_ends : slice_get touched 0 ≡ None → IsNoneBefore w t b limit
  touched_ends none = none_can w t b touched blocked limit are.still full (λ j before. ap (λ ns. has_number ns j) (no_head touched none))

-- among the blocked ones: those that left could not fire
pub record IsLeft (w : Parts) (b : Books) (old now : List (List ℕ)) : Type 0 where
  pub blocked : AreBlocked w now
  pub left : (k : ℕ) → is_blocked old k ≡ true → is_blocked now k ≡ false → passes_at (could_fire_in w b) (spots w) k ≡ false

module _ (w : Parts) (t : TaskId) (b : Books) (old now next : List (List ℕ)) (found : Found) (left : IsLeft w b old now) (first : IsFirstOpen w b now (length now) (Some found)) (others : next ≡ with_row now found.queue (row next found.queue)) (rest : IfSome (slice_get (row now found.queue) 0) (λ index. row now found.queue ≡ index ∷ row next found.queue)) where
  shorter : row now found.queue ≡ found.index ∷ row next found.queue
  shorter = subst (λ o. IfSome o (λ index. row now found.queue ≡ index ∷ row next found.queue)) first.is_open.least rest

  pub IsLeft-next : option_and_then (fire_in w t b) (slice_get (spots w) found.index) ≡ None → IsLeastFirst (row next found.queue) → IsLeft w b old next
  IsLeft-next none least = record { blocked = AreBlocked-left now next found.queue others found.index shorter w left.blocked least; left = λ k was out. of_test k was out (is_blocked now k) refl }
    where
      of_test : (k : ℕ) → is_blocked old k ≡ true → is_blocked next k ≡ false → (c : Bool) → is_blocked now k ≡ c → passes_at (could_fire_in w b) (spots w) k ≡ false
      of_test k was out true within =
          let one : k ≡ found.index = left_alone now next found.queue others found.index shorter k within out in
          subst (λ m. passes_at (could_fire_in w b) (spots w) m ≡ false) (sym one) (asked_vain w t b found.index first.is_open.roomy none)
      of_test k was out false gone = left.left k was gone

  pub fewer_left : total next < total now
  fewer_left = total_left now next found.queue others found.index shorter (first_within now found.queue found.index first.is_open.least)

-- the answer where all touched spots were asked
pub all_asked : (w : Parts) (t : TaskId) (b : Books) (o : Option Event) → IfSome o (λ e. first_fire_in w t b (spots w) ≡ Some e) → IfNone o (IsNoneBefore w t b None) → o ≡ first_fire_in w t b (spots w)
all_asked w t b None some none = sym (first_none w t b none)
all_asked w t b (Some e) some none = sym some

pub asked_all : (w : Parts) (t : TaskId) (b : Books) (r : Result (Option Event) OutOfMemory) → IfOk r (λ o. IfSome o (λ e. first_fire_in w t b (spots w) ≡ Some e)) → IfOk r (λ o. IfNone o (IsNoneBefore w t b None)) → IfOk r (λ o. o ≡ first_fire_in w t b (spots w))
asked_all w t b (Ok o) some none = all_asked w t b o some none
asked_all w t b (Err e) some none = tt
