-- How the lanes of a port stay what they are while messages come and go.
use Rattle.std.proofs.Common.{◌≡◌, ℕ, zero, suc, ◌+◌, ◌^◌, ◌<◌, Bool, true, false, not, ◌==◌, ◌&&◌, ◌||◌, List, [], ◌∷◌, ◌++◌, length, map, take, drop, Some, refl, sym, ap, ◌∙◌, arith, add-one, length-take}
use Rattle.std.specs.Prelude.{if◌then◌else◌, nat_lt}
use Rattle.std.specs.List.{slice_get, list_all}
use Rattle.std.proofs.Math.ListN.{set, get_or}
use Rattle.std.proofs.lemmas.Option.{same_Some}
use Rattle.std.proofs.lemmas.List.{take_more_set, drop_more}
use Rattle.std.proofs.lemmas.Bool.Decides.{nat_tests}
use Rattle.std.proofs.lemmas.Bool.{lt-ltb}
use Rattle.std.proofs.Math.Bool.{or-true}
use Rattle.ccr_base.specs.declared.messages.Msg.{Msg}
use Rattle.ccr_base.specs.declared.patterns.Pred.{Pred}
use Rattle.ccr_base.specs.Selection.{holds}
use Rattle.ccr_base.specs.Lists.{are_apart}
use Rattle.ccr_port.specs.Chains.{has_key, without_key}
use Rattle.ccr_port.specs.Entries.{keys_of, message_under, without_entry, without_entries, can_take}
use Rattle.ccr_port.specs.Lanes.{KeyLaneState, fitting_keys, AreLanes, AreSame, can_enter, can_leave, appended, unlinked, entered, left, have_room}
use Rattle.ccr_port.proofs.Chains.{both}
use Rattle.ccr_port.proofs.Listing.{Stands, fitting_keys-more, fits-absent, few-fitting_keys}

-- ---- room

pub same-self : (xs : List KeyLaneState) → AreSame xs xs
same-self [] = tt
same-self (x ∷ xs) = (refl, refl, same-self xs)

pub same-set : (xs ys : List KeyLaneState) (n : ℕ) (old lane : KeyLaneState) → AreSame xs ys → old ≡ get_or ys n old → lane.pred ≡ old.pred → lane.keys ≡ old.keys → AreSame xs (set ys n lane)
same-set [] [] n old lane same at pred keys = tt
same-set [] (y ∷ ys) n old lane same at pred keys = absurd same
same-set (x ∷ xs) [] n old lane same at pred keys = absurd same
same-set (x ∷ xs) (y ∷ ys) zero old lane same at pred keys = (pred ∙ ap (λ (l : KeyLaneState). l.pred) at ∙ same.0, keys ∙ ap (λ (l : KeyLaneState). l.keys) at ∙ same.1, same.2)
same-set (x ∷ xs) (y ∷ ys) (suc n) old lane same at pred keys = (same.0, same.1, same-set xs ys n old lane same.2 at pred keys)

pub room-none : (key : ℕ) (xs : List KeyLaneState) → have_room key (take 0 xs) ≡ true
room-none key [] = refl
room-none key (x ∷ xs) = refl

pub same-long : (xs ys : List KeyLaneState) → AreSame xs ys → length ys ≡ length xs
same-long [] [] same = refl
same-long [] (y ∷ ys) same = absurd same
same-long (x ∷ xs) [] same = absurd same
same-long (x ∷ xs) (y ∷ ys) same = ap suc (same-long xs ys same.2)

room-more : (key : ℕ) (xs : List KeyLaneState) (lane : KeyLaneState) → have_room key xs ≡ true → nat_lt key lane.room ≡ true → have_room key (xs ++ lane ∷ []) ≡ true
room-more key [] lane all one = ap (λ b. b && true) one
room-more key (x ∷ xs) lane all one = ap (λ b. b && have_room key (xs ++ lane ∷ [])) (both _ _ all).0 ∙ room-more key xs lane (both _ _ all).1 one

pub room-set : (key n : ℕ) (xs : List KeyLaneState) (lane : KeyLaneState) → n < length xs → have_room key (take n xs) ≡ true → key < lane.room → have_room key (take (n + 1) (set xs n lane)) ≡ true
room-set key n xs lane low all room =
    ap (have_room key) (take_more_set xs n lane low) ∙ room-more key (take n xs) lane all (test key lane.room room)
  where
    test : (a b : ℕ) → a < b → nat_lt a b ≡ true
    test a b is = grind (arith, nat_tests, is)

pub are-same : (es : List (ℕ × Msg)) (xs ys : List KeyLaneState) → AreSame xs ys → AreLanes es xs → AreLanes es ys
are-same es [] [] same are = tt
are-same es [] (y ∷ ys) same are = absurd same
are-same es (x ∷ xs) [] same are = absurd same
are-same es (x ∷ xs) (y ∷ ys) same are = (same.1 ∙ are.0 ∙ ap (λ p. fitting_keys p es) (sym same.0), are-same es xs ys same.2 are.1)

-- ---- lanes one after another

-- a test of each lane is one of the lane at a number, as long as only those before it have changed
pub all-here : (P : KeyLaneState → Bool) (f : KeyLaneState → KeyLaneState) (xs ys : List KeyLaneState) (n : ℕ) (lane : KeyLaneState) → list_all P xs ≡ true → n < length xs → ys ≡ map f (take n xs) ++ drop n xs → lane ≡ get_or ys n lane → P lane ≡ true
all-here P f xs ys n lane all low is at = from xs n all low (at ∙ ap (λ l. get_or l n lane) is)
  where
    from : (xs : List KeyLaneState) (n : ℕ) → list_all P xs ≡ true → n < length xs → lane ≡ get_or (map f (take n xs) ++ drop n xs) n lane → P lane ≡ true
    from [] n all low at = absurd (omega arith)
    from (x ∷ xs) zero all low at = ap P at ∙ (both _ _ all).0
    from (x ∷ xs) (suc n) all low at = from xs n (both _ _ all).1 (omega arith) at

-- ---- a message comes

pub can-enter-all : (es : List (ℕ × Msg)) (key : ℕ) → has_key key (keys_of es) ≡ false → length es + 1 < 2 ^ 32 → (lanes : List KeyLaneState) → AreLanes es lanes → have_room key lanes ≡ true → list_all (can_enter key) lanes ≡ true
can-enter-all es key out few [] are room = refl
can-enter-all es key out few (lane ∷ lanes) are room =
    let parts = both (nat_lt key lane.room) (have_room key lanes) room in
    let absent : has_key key lane.keys ≡ false = ap (has_key key) are.0 ∙ fits-absent lane.pred key es out in
    let short : length lane.keys + 1 < 2 ^ 32 = omega (arith, few-fitting_keys lane.pred es, ap length are.0) in
    ap (λ b. (b && (not (has_key key lane.keys) && nat_lt (length lane.keys + 1) (2 ^ 32))) && list_all (can_enter key) lanes) parts.0
    ∙ ap (λ b. (not b && nat_lt (length lane.keys + 1) (2 ^ 32)) && list_all (can_enter key) lanes) absent
    ∙ ap (λ b. b && list_all (can_enter key) lanes) (lt-ltb (length lane.keys + 1) (2 ^ 32) short)
    ∙ can-enter-all es key out few lanes are.1 parts.1

lane-entered : (es : List (ℕ × Msg)) (key : ℕ) (message : Msg) (lane : KeyLaneState) → lane.keys ≡ fitting_keys lane.pred es → (entered key message.value lane).keys ≡ fitting_keys (entered key message.value lane).pred (es ++ (key, message) ∷ [])
lane-entered es key message lane is = of_test (holds lane.pred message.value) refl
  where
    of_test : (b : Bool) → holds lane.pred message.value ≡ b → (if b then appended key lane else lane).keys ≡ fitting_keys (if b then appended key lane else lane).pred (es ++ (key, message) ∷ [])
    of_test true holding = ap (λ l. l ++ key ∷ []) is ∙ sym (fitting_keys-more key message lane.pred es ∙ ap (λ b. if b then fitting_keys lane.pred es ++ key ∷ [] else fitting_keys lane.pred es) holding)
    of_test false holding = is ∙ sym (fitting_keys-more key message lane.pred es ∙ ap (λ b. if b then fitting_keys lane.pred es ++ key ∷ [] else fitting_keys lane.pred es) holding)

pub entered-all : (es : List (ℕ × Msg)) (key : ℕ) (message : Msg) (lanes : List KeyLaneState) → AreLanes es lanes → AreLanes (es ++ (key, message) ∷ []) (map (entered key message.value) lanes)
entered-all es key message [] are = tt
entered-all es key message (lane ∷ lanes) are = (lane-entered es key message lane are.0, entered-all es key message lanes are.1)

-- ---- a message goes

fits-has : (pred : Pred) (key : ℕ) (message : Msg) (es : List (ℕ × Msg)) → message_under key es ≡ Some message → holds pred message.value ≡ true → has_key key (fitting_keys pred es) ≡ true
fits-has pred key message [] at holding = absurd (cc)
fits-has pred key message (e ∷ es) at holding = of_tests (e.0 == key) (holds pred e.1.value) refl refl (λ later. fits-has pred key message es later holding)
  where
    of_tests : (b c : Bool) → (e.0 == key) ≡ b → holds pred e.1.value ≡ c → (message_under key es ≡ Some message → has_key key (fitting_keys pred es) ≡ true) → has_key key (if c then e.0 ∷ fitting_keys pred es else fitting_keys pred es) ≡ true
    of_tests true true here fits rest = ap (λ b. b || has_key key (fitting_keys pred es)) here
    of_tests true false here fits rest =
        let found : Some e.1 ≡ Some message = sym (ap (λ b. if b then Some e.1 else message_under key es) here) ∙ at in
        let same = same_Some e.1 message found in
        let wrong : holds pred e.1.value ≡ true = ap (λ (m : Msg). holds pred m.value) same ∙ holding in
        absurd (cc)
    of_tests false true here fits rest = ap (λ b. (e.0 == key) || b) (rest (sym (ap (λ b. if b then Some e.1 else message_under key es) here) ∙ at)) ∙ or-true (e.0 == key)
    of_tests false false here fits rest = rest (sym (ap (λ b. if b then Some e.1 else message_under key es) here) ∙ at)

pub can-leave-all : (es : List (ℕ × Msg)) (key : ℕ) (message : Msg) → message_under key es ≡ Some message → (lanes : List KeyLaneState) → AreLanes es lanes → list_all (can_leave key message.value) lanes ≡ true
can-leave-all es key message at [] are = refl
can-leave-all es key message at (lane ∷ lanes) are = ap (λ b. b && list_all (can_leave key message.value) lanes) (one (holds lane.pred message.value) refl) ∙ can-leave-all es key message at lanes are.1
  where
    one : (b : Bool) → holds lane.pred message.value ≡ b → (not b || has_key key lane.keys) ≡ true
    one true holding = ap (has_key key) are.0 ∙ fits-has lane.pred key message es at holding
    one false holding = refl

fits-left : (pred : Pred) (key : ℕ) (message : Msg) (es : List (ℕ × Msg)) → message_under key es ≡ Some message → fitting_keys pred (without_entry key es) ≡ (if holds pred message.value then without_key key (fitting_keys pred es) else fitting_keys pred es)
fits-left pred key message [] at = absurd (cc)
fits-left pred key message (e ∷ es) at = of_tests (e.0 == key) (holds pred e.1.value) refl refl (λ later. fits-left pred key message es later)
  where
    of_tests : (b c : Bool) → (e.0 == key) ≡ b → holds pred e.1.value ≡ c
        → (message_under key es ≡ Some message → fitting_keys pred (without_entry key es) ≡ (if holds pred message.value then without_key key (fitting_keys pred es) else fitting_keys pred es))
        → fitting_keys pred (if b then es else e ∷ without_entry key es) ≡ (if holds pred message.value then without_key key (if c then e.0 ∷ fitting_keys pred es else fitting_keys pred es) else (if c then e.0 ∷ fitting_keys pred es else fitting_keys pred es))
    of_tests true c here fits rest =
        let found : Some e.1 ≡ Some message = sym (ap (λ b. if b then Some e.1 else message_under key es) here) ∙ at in
        let same = same_Some e.1 message found in
        let fits_too : holds pred message.value ≡ c = ap (λ (m : Msg). holds pred m.value) (sym same) ∙ fits in
        sym (by_fit c) ∙ ap (λ b. if b then without_key key (if c then e.0 ∷ fitting_keys pred es else fitting_keys pred es) else (if c then e.0 ∷ fitting_keys pred es else fitting_keys pred es)) (sym fits_too)
      where
        by_fit : (c : Bool) → (if c then without_key key (if c then e.0 ∷ fitting_keys pred es else fitting_keys pred es) else (if c then e.0 ∷ fitting_keys pred es else fitting_keys pred es)) ≡ fitting_keys pred es
        by_fit true = ap (λ b. if b then fitting_keys pred es else e.0 ∷ without_key key (fitting_keys pred es)) here
        by_fit false = refl
    of_tests false c here fits rest =
        let inner = rest (sym (ap (λ b. if b then Some e.1 else message_under key es) here) ∙ at) in
        later c (holds pred message.value) fits inner
      where
        later : (c b : Bool) → holds pred e.1.value ≡ c → fitting_keys pred (without_entry key es) ≡ (if b then without_key key (fitting_keys pred es) else fitting_keys pred es)
            → fitting_keys pred (e ∷ without_entry key es) ≡ (if b then without_key key (if c then e.0 ∷ fitting_keys pred es else fitting_keys pred es) else (if c then e.0 ∷ fitting_keys pred es else fitting_keys pred es))
        later true true fits inner = rw (fits, here) (ap (λ l. e.0 ∷ l) inner)
        later true false fits inner = rw fits (ap (λ l. e.0 ∷ l) inner)
        later false true fits inner = rw fits inner
        later false false fits inner = rw fits inner

pub left-all : (es : List (ℕ × Msg)) (key : ℕ) (message : Msg) → message_under key es ≡ Some message → (lanes : List KeyLaneState) → AreLanes es lanes → AreLanes (without_entry key es) (map (left key message.value) lanes)
left-all es key message at [] are = tt
left-all es key message at (lane ∷ lanes) are = (one (holds lane.pred message.value) refl, left-all es key message at lanes are.1)
  where
    one : (b : Bool) → holds lane.pred message.value ≡ b → (if b then unlinked key lane else lane).keys ≡ fitting_keys (if b then unlinked key lane else lane).pred (without_entry key es)
    one true holding = ap (without_key key) are.0 ∙ sym (fits-left lane.pred key message es at ∙ ap (λ b. if b then without_key key (fitting_keys lane.pred es) else fitting_keys lane.pred es) holding)
    one false holding = are.0 ∙ sym (fits-left lane.pred key message es at ∙ ap (λ b. if b then without_key key (fitting_keys lane.pred es) else fitting_keys lane.pred es) holding)

-- ---- a lane more, and a lane looked up

pub are-one_more : (es : List (ℕ × Msg)) (lanes : List KeyLaneState) (lane : KeyLaneState) → AreLanes es lanes → lane.keys ≡ fitting_keys lane.pred es → AreLanes es (lanes ++ lane ∷ [])
are-one_more es [] lane are is = (is, tt)
are-one_more es (l ∷ lanes) lane are is = (are.0, are-one_more es lanes lane are.1 is)

pub is-at : (es : List (ℕ × Msg)) (lanes : List KeyLaneState) (n : ℕ) (lane : KeyLaneState) → AreLanes es lanes → slice_get lanes n ≡ Some lane → lane.keys ≡ fitting_keys lane.pred es
is-at es [] n lane are at = absurd (cc)
is-at es (l ∷ lanes) zero lane are at = let same : l ≡ lane = cc in rw (← same) are.0
is-at es (l ∷ lanes) (suc n) lane are at = is-at es lanes n lane are.1 at

-- ---- a lane that is made

entered-pred : (key : ℕ) (value : List ℕ) (lane : KeyLaneState) → (entered key value lane).pred ≡ lane.pred
entered-pred key value lane = of_test (holds lane.pred value)
  where
    of_test : (b : Bool) → (if b then appended key lane else lane).pred ≡ lane.pred
    of_test true = refl
    of_test false = refl

module _ (es : List (ℕ × Msg)) (index key : ℕ) (stand : Stands es index key) (apart : are_apart (keys_of es) ≡ true) (lane : KeyLaneState) where
  pub can-enter-next : (pred : Pred) → lane.pred ≡ pred → lane.keys ≡ fitting_keys pred (take index es) → key < lane.room → index + 1 < 2 ^ 32 → can_enter key lane ≡ true
  can-enter-next pred same keys room few =
      let short : length (take index es) + 1 < 2 ^ 32 = omega (arith, length-take index es) in
      let roomy : have_room key (lane ∷ []) ≡ true = ap (λ b. b && true) (lt-ltb key lane.room room) in
      (both (can_enter key lane) true (can-enter-all (take index es) key (stand.before apart) short (lane ∷ []) (keys ∙ ap (λ p. fitting_keys p (take index es)) (sym same), tt) roomy)).0

  pub lane-next : (pred : Pred) (new : KeyLaneState) (message : Msg) → message_under key es ≡ Some message → lane.pred ≡ pred → lane.keys ≡ fitting_keys pred (take index es) → new ≡ entered key message.value lane
      → (new.pred ≡ pred) × (new.keys ≡ fitting_keys pred (take (index + 1) es))
  lane-next pred new message found same keys is =
      let one = same_Some message stand.message (sym found ∙ stand.under apart) in
      let pred_is : new.pred ≡ pred = ap (λ (l : KeyLaneState). l.pred) is ∙ entered-pred key message.value lane ∙ same in
      let more : take (index + 1) es ≡ take index es ++ (key, message) ∷ [] = rw add-one (stand.front ∙ ap (λ m. take index es ++ (key, m) ∷ []) (sym one)) in (
        pred_is,
        ap (λ (l : KeyLaneState). l.keys) is
            ∙ lane-entered (take index es) key message lane (keys ∙ ap (λ p. fitting_keys p (take index es)) (sym same))
            ∙ ap (λ p. fitting_keys p (take index es ++ (key, message) ∷ [])) (entered-pred key message.value lane ∙ same)
            ∙ ap (fitting_keys pred) (sym more),
      )

-- ---- messages that go, one key after another

module _ (keys : List ℕ) (index : ℕ) (low : index < length keys) (es : List (ℕ × Msg)) (there : can_take (drop index keys) es ≡ true) where
  here : can_take (get_or keys index 0 ∷ drop (index + 1) keys) es ≡ true
  here = sym (ap (λ ks. can_take ks es) (drop_more keys index 0 low)) ∙ there

  pub next-there : has_key (get_or keys index 0) (keys_of es) ≡ true
  next-there = (both (has_key (get_or keys index 0) (keys_of es)) (can_take (drop (index + 1) keys) (without_entry (get_or keys index 0) es)) here).0

  pub rest-there : can_take (drop (index + 1) keys) (without_entry (get_or keys index 0) es) ≡ true
  rest-there = (both (has_key (get_or keys index 0) (keys_of es)) (can_take (drop (index + 1) keys) (without_entry (get_or keys index 0) es)) here).1

  pub rest-left : without_entries (drop (index + 1) keys) (without_entry (get_or keys index 0) es) ≡ without_entries (drop index keys) es
  rest-left = sym (ap (λ ks. without_entries ks es) (drop_more keys index 0 low))
