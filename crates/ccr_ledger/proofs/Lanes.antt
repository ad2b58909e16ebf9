-- How lanes stay lanes while messages come and go.
use Rattle.std.proofs.Common.{◌≡◌, ℕ, zero, suc, ◌+◌, ◌-◌, ◌<◌, ◌≤◌, Bool, true, false, not, ◌&&◌, List, [], ◌∷◌, ◌++◌, length, filter, map, take, drop, Option, Some, None, refl, sym, ap, ◌∙◌, arith, length-append, append-nil, append_assoc}
use Rattle.std.specs.Prelude.{◌==◌, nat_lt, is_some, option_map, option_to_list, if◌then◌else◌}
use Rattle.std.specs.List.{slice_get, list_all, remove}
use Rattle.std.proofs.lemmas.List.Elements.{filter-append}
use Rattle.std.proofs.lemmas.List.{set_at, length-set, take_all, take-append-le, take-take, length-take-le}
use Rattle.std.proofs.lemmas.List.Edits.{length-remove}
use Rattle.std.proofs.lemmas.Grind.{common_steps}
use Rattle.std.proofs.lemmas.Bool.Decides.{nat_tests}
use Rattle.std.proofs.Math.ListN.{set, get_or}
use Rattle.std.proofs.lemmas.Option.{get_or_from_slice_get, slice_get_within, same_Some}
use Rattle.ccr_base.specs.declared.names.MsgId.{MsgId}
use Rattle.ccr_base.specs.declared.messages.Msg.{Msg}
use Rattle.ccr_base.specs.declared.patterns.Pred.{Pred}
use Rattle.ccr_base.specs.Selection.{holds, fitting}
use Rattle.ccr_ledger.specs.Lanes.{IndexLaneState, present, is_here, fits, fitting_indices, name_at, names_at, entered, entered_item, lost, IsLane, AreLanes, HasLane, HasPrefix}
use Rattle.ccr_ledger.specs.Taken.{without_first}
use Rattle.std.proofs.lemmas.Bool.{and_parts as both, ltb-true}
use Rattle.ccr_base.proofs.Booleans.{and_false}
use Rattle.ccr_base.proofs.Options.{none-above}
use Rattle.ccr_base.proofs.Lists.{take_more, all_both, all_weaker}

-- ---- one index more

is_here-below : (items : List (Option Msg)) (item : Option Msg) (k : ℕ) → k < length items → is_here (items ++ item ∷ []) k ≡ is_here items k
is_here-below [] item k low = absurd (omega arith)
is_here-below (x ∷ items) item zero low = refl
is_here-below (x ∷ items) item (suc k) low = is_here-below items item k (omega arith)

is_here-last : (items : List (Option Msg)) (item : Option Msg) → is_here (items ++ item ∷ []) (length items) ≡ is_some item
is_here-last [] item = refl
is_here-last (x ∷ items) item = is_here-last items item

fitting_indices-last : (n m : ℕ) (pred : Pred) (items : List (Option Msg)) (item : Option Msg) → n + length items ≡ m → fitting_indices n pred (items ++ item ∷ []) ≡ fitting_indices n pred items ++ (if fits pred item then m ∷ [] else [])
fitting_indices-last n m pred [] item is = let same : n ≡ m = omega arith in rw same refl
fitting_indices-last n m pred (x ∷ items) item is = grind (arith, common_steps, fitting_indices-last (n + 1) m pred items item (omega arith))

module _ (items : List (Option Msg)) (item : Option Msg) where
  filter-below : (ks : List ℕ) → list_all (λ k. nat_lt k (length items)) ks ≡ true → filter (is_here (items ++ item ∷ [])) ks ≡ filter (is_here items) ks
  filter-below [] low = refl
  filter-below (k ∷ ks) low = let parts = both _ _ low in rw (is_here-below items item k (ltb-true k (length items) parts.0), filter-below ks parts.1) refl

-- a lane that the last index was put behind, where it fits
lane-more : (items : List (Option Msg)) (item : Option Msg) (lane : IndexLaneState) (more : List ℕ) (count : ℕ) → IsLane items lane
    → list_all (λ k. nat_lt k (length items + 1)) more ≡ true
    → filter (is_here (items ++ item ∷ [])) more ≡ (if fits lane.pred item then length items ∷ [] else [])
    → count ≡ lane.count + length (if fits lane.pred item then length items ∷ [] else [])
    → IsLane (items ++ item ∷ []) (record { pred = lane.pred; indices = lane.indices ++ more; count = count })
lane-more items item lane more count is low fit counted =
    let last = fitting_indices-last 0 (length items) lane.pred items item (omega arith) in
    let long = length-append (fitting_indices 0 lane.pred items) (if fits lane.pred item then length items ∷ [] else []) in
    record {
      low = rw (length-append items (item ∷ [])) (all_both (λ k. nat_lt k (length items + 1)) lane.indices more (all_weaker (λ k. nat_lt k (length items)) (λ k. nat_lt k (length items + 1)) (λ k low. grind (arith, nat_tests, low)) lane.indices is.low) low);
      whole = filter-append (is_here (items ++ item ∷ [])) lane.indices more ∙ rw (filter-below items item lane.indices is.low, is.whole, fit) (sym last);
      counted = omega (arith, counted, is.counted, long, ap length last);
    }

last_low : (n : ℕ) → list_all (λ k. nat_lt k (n + 1)) (n ∷ []) ≡ true
last_low n = grind (arith, nat_tests)

lane-posted : (items : List (Option Msg)) (m : Msg) (lane : IndexLaneState) → IsLane items lane → IsLane (items ++ Some m ∷ []) (entered (length items) m.value lane)
lane-posted items m lane is = of_test (holds lane.pred m.value) refl
  where
    of_test : (b : Bool) → holds lane.pred m.value ≡ b → IsLane (items ++ Some m ∷ []) (if b then record { pred = lane.pred; indices = lane.indices ++ length items ∷ []; count = lane.count + 1 } else lane)
    of_test true holding = lane-more items (Some m) lane (length items ∷ []) (lane.count + 1) is (last_low (length items)) (rw (holding, is_here-last items (Some m)) refl) (rw holding refl)
    of_test false holding = rw (← append-nil lane.indices) (lane-more items (Some m) lane [] lane.count is refl (rw holding refl) (rw holding (omega arith)))

lane-gone : (items : List (Option Msg)) (lane : IndexLaneState) → IsLane items lane → IsLane (items ++ None ∷ []) lane
lane-gone items lane is = rw (← append-nil lane.indices) (lane-more items None lane [] lane.count is refl refl (omega arith))

pub lane-item : (items : List (Option Msg)) (n : ℕ) (item : Option Msg) (lane : IndexLaneState) → n ≡ length items → IsLane items lane → IsLane (items ++ item ∷ []) (entered_item n item lane)
lane-item items n None lane last is = lane-gone items lane is
lane-item items n (Some m) lane last is = rw last (lane-posted items m lane is)

pub pred-item : (n : ℕ) (item : Option Msg) (lane : IndexLaneState) → (entered_item n item lane).pred ≡ lane.pred
pred-item n None lane = refl
pred-item n (Some m) lane = of_test (holds lane.pred m.value)
  where
    of_test : (b : Bool) → (if b then record { pred = lane.pred; indices = lane.indices ++ n ∷ []; count = lane.count + 1 } else lane).pred ≡ lane.pred
    of_test true = refl
    of_test false = refl

pub posted : (items : List (Option Msg)) (m : Msg) (lanes : List IndexLaneState) → AreLanes items lanes → AreLanes (items ++ Some m ∷ []) (map (entered (length items) m.value) lanes)
posted items m [] are = tt
posted items m (lane ∷ lanes) are = (lane-posted items m lane are.0, posted items m lanes are.1)

-- ---- a lane that is tidy up to an index

-- those that are here among the first stand first
here-parts : (items : List (Option Msg)) (ks : List ℕ) (n : ℕ) → filter (is_here items) ks ≡ filter (is_here items) (take n ks) ++ filter (is_here items) (drop n ks)
here-parts items [] zero = refl
here-parts items [] (suc n) = refl
here-parts items (k ∷ ks) zero = refl
here-parts items (k ∷ ks) (suc n) = grind (arith, common_steps, here-parts items ks n)

take-of : (most n : ℕ) (ks rest : List ℕ) → most ≤ n → n ≤ length ks → take most (take n ks ++ rest) ≡ take most ks
take-of most n ks rest less within = take-append-le most (take n ks) rest (let long = length-take-le n ks within in omega (arith, long, less)) ∙ take-take most n ks less

-- the first indices of a lane, up to one, are of messages that are here
pub record IsTidy (items : List (Option Msg)) (lane : IndexLaneState) (n : ℕ) : Type 0 where
  pub here : filter (is_here items) (take n lane.indices) ≡ take n lane.indices
  pub within : n ≤ length lane.indices

module _ (items : List (Option Msg)) (lane : IndexLaneState) (n : ℕ) (is : IsLane items lane) (tidy : IsTidy items lane n) where
  pub tidy-front : (most : ℕ) → most ≤ n → take most lane.indices ≡ take most (fitting_indices 0 lane.pred items)
  tidy-front most less =
      let parts = here-parts items lane.indices n in
      rw (← is.whole, parts, tidy.here) (sym (take-of most n lane.indices (filter (is_here items) (drop n lane.indices)) less tidy.within))

  pub tidy-all : (most : ℕ) → slice_get lane.indices n ≡ None → take most lane.indices ≡ take most (fitting_indices 0 lane.pred items)
  tidy-all most at =
      let all = take_all n lane.indices (none-above lane.indices n at) in
      let here : filter (is_here items) lane.indices ≡ lane.indices = rw all at tidy.here in
      rw (← is.whole, here) refl

  pub tidy-more : (k : ℕ) → slice_get lane.indices n ≡ Some k → is_here items k ≡ true → IsTidy items lane (n + 1)
  tidy-more k at here =
      let one = take_more lane.indices n k at in
      let low = slice_get_within lane.indices n k at in
      record {
        here = rw (one, filter-append (is_here items) (take n lane.indices) (k ∷ []), tidy.here, here) refl;
        within = omega (arith, low);
      }

  -- the index of this number leaves, whose message is gone
  module _ (k : ℕ) (at : slice_get lane.indices n ≡ Some k) (gone : is_here items k ≡ false) where
    pub lane-left : IsLane items (record { pred = lane.pred; indices = remove lane.indices n; count = lane.count })
    lane-left = record {
      low = low-removed lane.indices n is.low;
      whole = here-removed lane.indices n k at gone ∙ is.whole;
      counted = is.counted;
    }
      where
        low-removed : (ks : List ℕ) (i : ℕ) → list_all (λ k. nat_lt k (length items)) ks ≡ true → list_all (λ k. nat_lt k (length items)) (remove ks i) ≡ true
        low-removed [] zero low = refl
        low-removed [] (suc i) low = refl
        low-removed (j ∷ ks) zero low = (both (nat_lt j (length items)) _ low).1
        low-removed (j ∷ ks) (suc i) low = let parts = both (nat_lt j (length items)) _ low in rw (parts.0) (low-removed ks i parts.1)

        here-removed : (ks : List ℕ) (i j : ℕ) → slice_get ks i ≡ Some j → is_here items j ≡ false → filter (is_here items) (remove ks i) ≡ filter (is_here items) ks
        here-removed [] i j at out = absurd (cc)
        here-removed (l ∷ ks) zero j at out = let same : l ≡ j = cc in rw (same, out) refl
        here-removed (l ∷ ks) (suc i) j at out = grind (arith, common_steps, here-removed ks i j at out)

    pub tidy-left : IsTidy items (record { pred = lane.pred; indices = remove lane.indices n; count = lane.count }) n
    tidy-left = record {
      here = rw (front lane.indices n k at) tidy.here;
      within = omega (arith, length-remove lane.indices n (slice_get_within lane.indices n k at), slice_get_within lane.indices n k at);
    }
      where
        front : (ks : List ℕ) (i j : ℕ) → slice_get ks i ≡ Some j → take i (remove ks i) ≡ take i ks
        front [] i j at = absurd (cc)
        front (l ∷ ks) zero j at = refl
        front (l ∷ ks) (suc i) j at = ap (λ (js : List ℕ). l ∷ js) (front ks i j at)

pub fewer-left : (ks : List ℕ) (n k : ℕ) → slice_get ks n ≡ Some k → length (remove ks n) - n < length ks - n
fewer-left ks n k at = let low = slice_get_within ks n k at in omega (arith, length-remove ks n low, low)

-- ---- a post, whole

module _ (items now : List (Option Msg)) (lanes then' : List IndexLaneState) (n : ℕ) (last : n ≡ length items) (grown : now ≡ items ++ None ∷ []) (are : AreLanes items lanes) where
  pub after_post : (m : Msg) → then' ≡ map (entered n m.value) lanes → AreLanes (set now n (Some m)) then'
  after_post m is = rw (grown, is, last, set_at items None [] (Some m) (length items) refl) (posted items m lanes are)

pub present-post : (items now : List (Option Msg)) (n : ℕ) (m : Msg) → n ≡ length items → now ≡ items ++ None ∷ [] → present (set now n (Some m)) ≡ present items ++ m ∷ []
present-post items now n m last grown = rw (grown, last, set_at items None [] (Some m) (length items) refl) (grind (arith, common_steps))

-- ---- a lane more, a lane changed, a lane looked up

pub are-one_more : (items : List (Option Msg)) (lanes : List IndexLaneState) (lane : IndexLaneState) → AreLanes items lanes → IsLane items lane → AreLanes items (lanes ++ lane ∷ [])
are-one_more items [] lane are is = (is, tt)
are-one_more items (l ∷ lanes) lane are is = (are.0, are-one_more items lanes lane are.1 is)

pub are-set : (items : List (Option Msg)) (lanes : List IndexLaneState) (n : ℕ) (lane : IndexLaneState) → AreLanes items lanes → IsLane items lane → AreLanes items (set lanes n lane)
are-set items [] n lane are is = tt
are-set items (l ∷ lanes) zero lane are is = (is, are.1)
are-set items (l ∷ lanes) (suc n) lane are is = (are.0, are-set items lanes n lane are.1 is)

pub is-at : (items : List (Option Msg)) (lanes : List IndexLaneState) (n : ℕ) (lane : IndexLaneState) → AreLanes items lanes → slice_get lanes n ≡ Some lane → IsLane items lane
is-at items [] n lane are at = absurd (cc)
is-at items (l ∷ lanes) zero lane are at = let same : l ≡ lane = cc in rw (← same) are.0
is-at items (l ∷ lanes) (suc n) lane are at = is-at items lanes n lane are.1 at

-- ---- a message goes

is_here-set : (items : List (Option Msg)) (j k : ℕ) → is_here (set items j None) k ≡ (is_here items k && not (k == j))
is_here-set [] j k = refl
is_here-set (x ∷ items) zero zero = sym (and_false (is_some x))
is_here-set (x ∷ items) zero (suc k) = grind (arith, nat_tests)
is_here-set (x ∷ items) (suc j) zero = grind (arith, nat_tests)
is_here-set (x ∷ items) (suc j) (suc k) = is_here-set items j k ∙ grind (arith, nat_tests)

-- the indices but this one
filter_here-set : (items : List (Option Msg)) (j : ℕ) (ks : List ℕ) → filter (is_here (set items j None)) ks ≡ filter (λ k. not (k == j)) (filter (is_here items) ks)
filter_here-set items j [] = refl
filter_here-set items j (k ∷ ks) = grind (arith, common_steps, is_here-set items j k, filter_here-set items j ks)

-- none of the indices is below the first number
fitting-above : (n j : ℕ) (pred : Pred) (items : List (Option Msg)) → j < n → filter (λ k. not (k == j)) (fitting_indices n pred items) ≡ fitting_indices n pred items
fitting-above n j pred [] less = refl
fitting-above n j pred (x ∷ items) less = grind (arith, nat_tests, common_steps, fitting-above (n + 1) j pred items (omega arith))

fitting_indices-set : (n i j : ℕ) (pred : Pred) (items : List (Option Msg)) → n + i ≡ j → i < length items → fitting_indices n pred (set items i None) ≡ filter (λ k. not (k == j)) (fitting_indices n pred items)
fitting_indices-set n i j pred [] is low = absurd (omega arith)
fitting_indices-set n zero j pred (x ∷ items) is low = grind (arith, nat_tests, common_steps, fitting-above (n + 1) j pred items (omega arith))
fitting_indices-set n (suc i) j pred (x ∷ items) is low = grind (arith, nat_tests, common_steps, fitting_indices-set (n + 1) i j pred items (omega arith) (omega arith))

-- one that fits is one less
count-set : (n i : ℕ) (pred : Pred) (m : Msg) (items : List (Option Msg)) → slice_get items i ≡ Some (Some m)
    → length (fitting_indices n pred (set items i None)) + (if holds pred m.value then 1 else 0) ≡ length (fitting_indices n pred items)
count-set n i pred m [] at = absurd (cc)
count-set n zero pred m (x ∷ items) at = let same : x ≡ Some m = cc in rw same (of_test (holds pred m.value))
  where
    of_test : (b : Bool) → length (fitting_indices (n + 1) pred items) + (if b then 1 else 0) ≡ length (if b then n ∷ fitting_indices (n + 1) pred items else fitting_indices (n + 1) pred items)
    of_test true = omega arith
    of_test false = omega arith
count-set n (suc i) pred m (x ∷ items) at = of_test (fits pred x) (count-set (n + 1) i pred m items at)
  where
    of_test : (b : Bool) → length (fitting_indices (n + 1) pred (set items i None)) + (if holds pred m.value then 1 else 0) ≡ length (fitting_indices (n + 1) pred items)
        → length (if b then n ∷ fitting_indices (n + 1) pred (set items i None) else fitting_indices (n + 1) pred (set items i None)) + (if holds pred m.value then 1 else 0) ≡ length (if b then n ∷ fitting_indices (n + 1) pred items else fitting_indices (n + 1) pred items)
    of_test true rest = omega (arith, rest)
    of_test false rest = rest

lane-taken : (items : List (Option Msg)) (j : ℕ) (m : Msg) (lane : IndexLaneState) → slice_get items j ≡ Some (Some m) → IsLane items lane → IsLane (set items j None) (lost m.value lane)
lane-taken items j m lane at is = of_test (holds lane.pred m.value) (count-set 0 j lane.pred m items at)
  where
    low : j < length items
    low = slice_get_within items j (Some m) at

    of_count : (count : ℕ) → count ≡ length (fitting_indices 0 lane.pred (set items j None)) → IsLane (set items j None) (record { pred = lane.pred; indices = lane.indices; count = count })
    of_count count counted = record {
      low = rw (length-set items j None) is.low;
      whole = filter_here-set items j lane.indices ∙ rw is.whole (sym (fitting_indices-set 0 j j lane.pred items (omega arith) low));
      counted = counted;
    }

    of_test : (b : Bool) → length (fitting_indices 0 lane.pred (set items j None)) + (if b then 1 else 0) ≡ length (fitting_indices 0 lane.pred items)
        → IsLane (set items j None) (if b then record { pred = lane.pred; indices = lane.indices; count = lane.count - 1 } else lane)
    of_test true fewer = of_count (lane.count - 1) (omega (arith, fewer, is.counted))
    of_test false fewer = of_count lane.count (omega (arith, fewer, is.counted))

pub taken : (items : List (Option Msg)) (j : ℕ) (m : Msg) (lanes : List IndexLaneState) → slice_get items j ≡ Some (Some m) → AreLanes items lanes → AreLanes (set items j None) (map (lost m.value) lanes)
taken items j m [] at are = tt
taken items j m (lane ∷ lanes) at are = (lane-taken items j m lane at are.0, taken items j m lanes at are.1)

-- ---- what the first index is of

pub record IsFirst (pred : Pred) (items : List (Option Msg)) (j : ℕ) (m : Msg) : Type 0 where
  pub at : slice_get items j ≡ Some (Some m)
  pub first : slice_get (fitting pred (present items)) 0 ≡ Some m
  pub rest : present (set items j None) ≡ without_first pred (present items)

first_found : (n k : ℕ) (pred : Pred) (items : List (Option Msg)) → slice_get (fitting_indices n pred items) 0 ≡ Some k → (j : ℕ) × (n + j ≡ k) × (m : Msg) × IsFirst pred items j m
first_found n k pred [] at = absurd (cc)
first_found n k pred (None ∷ items) at =
    let more = first_found (n + 1) k pred items at in
    (suc more.0, omega (arith, more.1), more.2, record { at = more.3.at; first = more.3.first; rest = more.3.rest })
first_found n k pred (Some m ∷ items) at = of_test (holds pred m.value) refl (λ later. first_found (n + 1) k pred items later)
  where
    of_test : (b : Bool) → holds pred m.value ≡ b
        → (slice_get (fitting_indices (n + 1) pred items) 0 ≡ Some k → (j : ℕ) × ((n + 1) + j ≡ k) × (w : Msg) × IsFirst pred items j w)
        → (j : ℕ) × (n + j ≡ k) × (w : Msg) × IsFirst pred (Some m ∷ items) j w
    of_test true is later = let here : Some n ≡ Some k = rw is at at in (0, omega (arith, same_Some n k here), m, record { at = refl; first = rw is refl; rest = rw is refl })
    of_test false is later =
        let more = later (rw is at at) in
        (suc more.0, omega (arith, more.1), more.2, record { at = more.3.at; first = rw is more.3.first; rest = rw (is, more.3.rest) refl })

none_found : (n : ℕ) (pred : Pred) (items : List (Option Msg)) → slice_get (fitting_indices n pred items) 0 ≡ None → (slice_get (fitting pred (present items)) 0 ≡ None) × (present items ≡ without_first pred (present items))
none_found n pred [] at = (refl, refl)
none_found n pred (None ∷ items) at = none_found (n + 1) pred items at
none_found n pred (Some m ∷ items) at = of_test (holds pred m.value) refl (λ later. none_found (n + 1) pred items later)
  where
    of_test : (b : Bool) → holds pred m.value ≡ b
        → (slice_get (fitting_indices (n + 1) pred items) 0 ≡ None → (slice_get (fitting pred (present items)) 0 ≡ None) × (present items ≡ without_first pred (present items)))
        → (slice_get (fitting pred (present (Some m ∷ items))) 0 ≡ None) × (present (Some m ∷ items) ≡ without_first pred (present (Some m ∷ items)))
    of_test true is later = absurd (cc (rw is at at))
    of_test false is later = let more = later (rw is at at) in (rw is more.0, rw is (ap (λ (ms : List Msg). m ∷ ms) more.1))

-- as many messages fit as there are indices
pub length-fitting : (n : ℕ) (pred : Pred) (items : List (Option Msg)) → length (fitting_indices n pred items) ≡ length (fitting pred (present items))
length-fitting n pred [] = refl
length-fitting n pred (None ∷ items) = length-fitting (n + 1) pred items
length-fitting n pred (Some m ∷ items) = grind (arith, common_steps, length-fitting (n + 1) pred items)

pub first_taken : (pred : Pred) (items : List (Option Msg)) (k : ℕ) → slice_get (fitting_indices 0 pred items) 0 ≡ Some k → (m : Msg) × IsFirst pred items k m
first_taken pred items k at = of_found (first_found 0 k pred items at)
  where
    of_found : ((j : ℕ) × (0 + j ≡ k) × (m : Msg) × IsFirst pred items j m) → (m : Msg) × IsFirst pred items k m
    of_found found = let same : found.0 ≡ k = omega (arith, found.1) in (found.2, rw (← same) found.3)

pub none_taken : (pred : Pred) (items : List (Option Msg)) → slice_get (fitting_indices 0 pred items) 0 ≡ None → (slice_get (fitting pred (present items)) 0 ≡ None) × (present items ≡ without_first pred (present items))
none_taken pred items at = none_found 0 pred items at

-- the index that was found, told of the items themselves
pub found_in : (pred : Pred) (now items : List (Option Msg)) (found o : Option ℕ) → now ≡ items → found ≡ slice_get (fitting_indices 0 pred now) 0 → found ≡ o → slice_get (fitting_indices 0 pred items) 0 ≡ o
found_in pred now items found o same index is = rw (← same, ← index) is

-- one name more, where the index has one
pub names-more : (items : List (Option Msg)) (ks : List ℕ) (n k : ℕ) → slice_get ks n ≡ Some k → names_at items (take (n + 1) ks) ≡ names_at items (take n ks) ++ option_to_list (name_at items k)
names-more items ks n k at = rw (take_more ks n k at) (of_front (take n ks))
  where
    of_front : (js : List ℕ) → names_at items (js ++ k ∷ []) ≡ names_at items js ++ option_to_list (name_at items k)
    of_front [] = append-nil (option_to_list (name_at items k))
    of_front (j ∷ js) = ap (λ (names : List MsgId). option_to_list (name_at items j) ++ names) (of_front js) ∙ sym (append_assoc (option_to_list (name_at items j)) (names_at items js) (option_to_list (name_at items k)))

-- ---- what a lane says of the messages

name-behind : (front items : List (Option Msg)) (x : Option Msg) → name_at (front ++ x ∷ items) (length front) ≡ option_map (λ (m : Msg). m.id) x
name-behind [] items x = refl
name-behind (y ∷ front) items x = name-behind front items x

names-fitting : (front items : List (Option Msg)) (pred : Pred) (n most : ℕ) → n ≡ length front → names_at (front ++ items) (take most (fitting_indices n pred items)) ≡ map (λ (m : Msg). m.id) (take most (fitting pred (present items)))
names-fitting front [] pred n zero is = refl
names-fitting front [] pred n (suc most) is = refl
names-fitting front (None ∷ items) pred n most is =
    rw (← append_assoc front (None ∷ []) items) (names-fitting (front ++ None ∷ []) items pred (n + 1) most (rw length-append (omega arith)))
names-fitting front (Some m ∷ items) pred n most is = of_test (holds pred m.value) refl most (λ more. rw (← append_assoc front (Some m ∷ []) items) (names-fitting (front ++ Some m ∷ []) items pred (n + 1) more (rw length-append (omega arith))))
  where
    of_test : (b : Bool) → holds pred m.value ≡ b → (more : ℕ)
        → ((more : ℕ) → names_at (front ++ Some m ∷ items) (take more (fitting_indices (n + 1) pred items)) ≡ map (λ (m : Msg). m.id) (take more (fitting pred (present items))))
        → names_at (front ++ Some m ∷ items) (take more (fitting_indices n pred (Some m ∷ items))) ≡ map (λ (m : Msg). m.id) (take more (fitting pred (present (Some m ∷ items))))
    of_test false out more rest = rw out (rest more)
    of_test true out zero rest = refl
    of_test true out (suc more) rest = rw (out, is, name-behind front items (Some m), ← is) (ap (λ (names : List MsgId). m.id ∷ names) (rest more))

pub names-of : (items : List (Option Msg)) (pred : Pred) (most : ℕ) → names_at items (take most (fitting_indices 0 pred items)) ≡ map (λ (m : Msg). m.id) (take most (fitting pred (present items)))
names-of items pred most = names-fitting [] items pred 0 most refl

-- the count of the lane that stands at a number
pub count-told : (items now : List (Option Msg)) (lanes : List IndexLaneState) (n : ℕ) (lane : IndexLaneState) (pred : Pred) → now ≡ items → AreLanes now lanes → HasLane lanes n pred → lane ≡ get_or lanes n lane
    → lane.count ≡ length (fitting pred (present items))
count-told items now lanes n lane pred same are found read =
    let this : lane ≡ found.0 = read ∙ get_or_from_slice_get lanes n found.0 lane found.1 in
    let here : IsLane items found.0 = is-at items lanes n found.0 (rw same at are) found.1 in
    rw this (here.counted ∙ rw found.2 (length-fitting 0 pred items))

-- the front of the lane that stands at a number
pub front-told : (lanes : List IndexLaneState) (n most : ℕ) (lane : IndexLaneState) (front : List ℕ) → HasPrefix lanes n front most → lane ≡ get_or lanes n lane → take most lane.indices ≡ front
front-told lanes n most lane front found read =
    let this : lane ≡ found.0 = read ∙ get_or_from_slice_get lanes n found.0 lane found.1 in
    rw this found.2
