-- How a port stays one while messages come, are marked and go.
use Rattle.std.proofs.Common.{◌≡◌, ℕ, suc, ◌+◌, ◌^◌, ◌<◌, ◌≤◌, min, Bool, true, false, ◌==◌, List, [], ◌∷◌, ◌++◌, length, map, take, Option, Some, None, refl, sym, ap, ◌∙◌, arith}
use Rattle.std.specs.Prelude.{if◌then◌else◌, nat_le, nat_lt}
use Rattle.std.specs.List.{list_all}
use Rattle.std.proofs.Math.ListN.{get_or}
use Rattle.std.proofs.lemmas.Option.{get_or_from_slice_get}
use Rattle.std.proofs.lemmas.Grind.{common_steps}
use Rattle.std.proofs.lemmas.Bool.Decides.{nat_tests}
use Rattle.std.proofs.lemmas.Bool.{lt-leb}
use Rattle.std.proofs.lemmas.List.{length_push, take-append-le}
use Rattle.ccr_base.specs.declared.names.TaskId.{TaskId}
use Rattle.ccr_base.specs.declared.messages.Msg.{Msg}
use Rattle.ccr_base.specs.declared.patterns.Pred.{Pred}
use Rattle.ccr_base.specs.declared.patterns.Slot.{Slot}
use Rattle.ccr_base.specs.Selection.{holds, fitting}
use Rattle.ccr_base.specs.Lists.{are_apart}
use Rattle.ccr_base.proofs.Apart.{apart_snoc}
use Rattle.ccr_places.specs.declared.claims.StandingClaim.{StandingClaim}
use Rattle.ccr_places.specs.declared.notes.ClaimNote.TheVariants.{Got as GotNote, Short as ShortNote}
use Rattle.ccr_places.specs.Ports.{PortState, may_post, claim_note, after_claim, without_first}
use Rattle.ccr_port.specs.declared.claims.Claimed.TheVariants.{Got, Short}
use Rattle.ccr_port.specs.declared.claims.MarkedClaim.{MarkedClaim}
use Rattle.ccr_port.specs.Chains.{has_key, without_key}
use Rattle.ccr_port.specs.Entries.{keys_of, messages_of, messages_under, are_under, can_take, without_entry, without_entries}
use Rattle.ccr_port.specs.Lanes.{KeyLaneState, fitting_keys, AreLanes, AreSame, HasLane, can_enter, entered, have_room}
use Rattle.ccr_port.specs.Marks.{IsMarked, IsPort}
use Rattle.ccr_port.specs.Replies.{are_at, claim_reply}
use Rattle.ccr_port.proofs.Chains.{both, apart-without}
use Rattle.ccr_port.proofs.MessagesBearTheirPort.{own_more, own-rest}
use Rattle.ccr_port.proofs.Listing.{messages-more, fitting_keys-more, length-fitting_keys, is_selection}
use Rattle.ccr_port.proofs.LaneLists.{are-same, can-enter-all, entered-all, is-at}

take_min : {X : Type 0} (n : ℕ) (xs : List X) → take (min (length xs) n) xs ≡ take n xs
take_min n xs = grind (arith, common_steps)

-- ---- a message comes

messages-long : (es : List (ℕ × Msg)) → length (messages_of es) ≡ length es
messages-long [] = refl
messages-long (e ∷ es) = ap suc (messages-long es)

pub few_posted : (es : List (ℕ × Msg)) (port : PortState) (message : Msg) → port.items ≡ messages_of es → may_post port message ≡ true → length es + 1 < 2 ^ 32
few_posted es port message are may =
    let test = (both (message.port == port.number) (nat_lt (length port.items + 1) (2 ^ 32)) may).1 in
    let low = below (length port.items + 1) (2 ^ 32) test in
    omega (arith, low, ap length are, messages-long es)
  where
    below : (a b : ℕ) → nat_lt a b ≡ true → a < b
    below a b is = grind (arith, nat_tests, is)

marked-more : (es : List (ℕ × Msg)) (key : ℕ) (message : Msg) (claim : Option MarkedClaim) → IsMarked es claim → IsMarked (es ++ (key, message) ∷ []) claim
marked-more es key message None is = tt
marked-more es key message (Some mark) is = of_test (holds mark.standing.pred message.value) (fitting_keys-more key message mark.standing.pred es)
  where
    keys : List ℕ
    keys = fitting_keys mark.standing.pred es

    of_test : (b : Bool) → fitting_keys mark.standing.pred (es ++ (key, message) ∷ []) ≡ (if b then fitting_keys mark.standing.pred es ++ key ∷ [] else fitting_keys mark.standing.pred es)
        → (mark.keys.items ≡ take mark.standing.count (fitting_keys mark.standing.pred (es ++ (key, message) ∷ []))) × (mark.standing.count ≤ length (fitting_keys mark.standing.pred (es ++ (key, message) ∷ [])))
    of_test true more = rw more (is.0 ∙ sym (take-append-le mark.standing.count (fitting_keys mark.standing.pred es) (key ∷ []) is.1), grind (arith, common_steps, is.1))
    of_test false more = rw more is

keys_of-more : (es : List (ℕ × Msg)) (key : ℕ) (message : Msg) → keys_of (es ++ (key, message) ∷ []) ≡ keys_of es ++ key ∷ []
keys_of-more [] key message = refl
keys_of-more (e ∷ es) key message = ap (λ l. e.0 ∷ l) (keys_of-more es key message)

module _ (number : ℕ) (es now : List (ℕ × Msg)) (lanes lanes2 : List KeyLaneState) (claim : Option MarkedClaim) (key : ℕ) (message : Msg)
    (is : IsPort number es lanes claim) (same : AreSame lanes lanes2) (out : has_key key (keys_of es) ≡ false) where
  pub posted : length es + 1 < 2 ^ 32 → (message.port == number) ≡ true → now ≡ es ++ (key, message) ∷ [] → IsPort number now (map (entered key message.value) lanes2) claim
  posted few here come = rw come (record {
    few = omega (arith, length_push es (key, message));
    own = rw (messages-more key message es) (own_more number (messages_of es) message is.own here);
    apart = ap are_apart (keys_of-more es key message) ∙ apart_snoc (keys_of es) key is.apart out;
    lanes = entered-all es key message lanes2 (are-same es lanes lanes2 same is.lanes);
    marked = marked-more es key message claim is.marked;
  })

  pub may_enter-all : length es + 1 < 2 ^ 32 → have_room key lanes2 ≡ true → list_all (can_enter key) lanes2 ≡ true
  may_enter-all few room = can-enter-all es key out few lanes2 (are-same es lanes lanes2 same is.lanes) room

  pub gave_up : now ≡ es → IsPort number now lanes2 claim
  gave_up come = rw come (record { few = is.few; own = is.own; apart = is.apart; lanes = are-same es lanes lanes2 same is.lanes; marked = is.marked })

-- ---- a claim

pub lane-keys : (es : List (ℕ × Msg)) (lanes : List KeyLaneState) (number : ℕ) (pred : Pred) (lane : KeyLaneState) → AreLanes es lanes → HasLane lanes number pred → lane ≡ get_or lanes number lane → lane.keys ≡ fitting_keys pred es
lane-keys es lanes number pred lane are found at =
    let same : lane ≡ found.0 = at ∙ get_or_from_slice_get lanes number found.0 lane found.1 in
    ap (λ (l : KeyLaneState). l.keys) same ∙ is-at es lanes number found.0 are found.1 ∙ ap (λ p. fitting_keys p es) found.2

-- what the port keeps
abbrev pub state_of : ℕ → List (ℕ × Msg) → Option StandingClaim → PortState
state_of number es claim = record { number = number; items = messages_of es; claim = claim }

module _ (number : ℕ) (es : List (ℕ × Msg)) (task : TaskId) (slot : Slot) (n : ℕ) (fits : n ≡ length (fitting_keys slot.pred es)) where
  count-is : n ≡ length (fitting slot.pred (messages_of es))
  count-is = fits ∙ length-fitting_keys slot.pred es

  module _ (few : n < slot.least) where
    too_few : nat_le slot.least (length (fitting slot.pred (messages_of es))) ≡ false
    too_few = rw (← count-is) (lt-leb slot.least n few)

    pub short-reply : Short n ≡ claim_reply (state_of number es None) slot
    short-reply = rw (too_few, ← count-is) refl

    pub short-note : ShortNote n ≡ claim_note (state_of number es None) slot
    short-note = rw (too_few, ← count-is) refl

    pub short-step : state_of number es None ≡ after_claim (state_of number es None) task slot (claim_note (state_of number es None) slot)
    short-step = ap (after_claim (state_of number es None) task slot) short-note

    pub short-after : state_of number es None ≡ after_claim (state_of number es None) task slot (ShortNote n)
    short-after = refl

  module _ (enough : slot.least ≤ n) (apart : are_apart (keys_of es) ≡ true) (count : ℕ) (least_of : count ≡ min n slot.most) where
    marks : List ℕ
    marks = take count (fitting_keys slot.pred es)

    choosable : nat_le slot.least (length (fitting slot.pred (messages_of es))) ≡ true
    choosable = rw (← count-is) (test slot.least n enough)
      where
        test : (a b : ℕ) → a ≤ b → nat_le a b ≡ true
        test a b is = grind (arith, nat_tests, is)

    chosen : take count (fitting slot.pred (messages_of es)) ≡ take slot.most (fitting slot.pred (messages_of es))
    chosen = ap (λ k. take k (fitting slot.pred (messages_of es))) (least_of ∙ ap (λ k. min k slot.most) count-is) ∙ take_min slot.most (fitting slot.pred (messages_of es))

    long : length (take slot.most (fitting slot.pred (messages_of es))) ≡ count
    long = grind (arith, common_steps, least_of, count-is)

    pub marks-there : are_under (take count (fitting_keys slot.pred es)) es ≡ true
    marks-there = (is_selection slot.pred count es apart).there

    module _ (copies : List Msg) (copied : copies ≡ messages_under (take count (fitting_keys slot.pred es)) es) where
      copies-are : copies ≡ take slot.most (fitting slot.pred (messages_of es))
      copies-are = copied ∙ (is_selection slot.pred count es apart).messages ∙ chosen

      pub got-reply : Got copies ≡ claim_reply (state_of number es None) slot
      got-reply = rw (choosable, copies-are) refl

      pub got-note : GotNote (length copies) ≡ claim_note (state_of number es None) slot
      got-note = rw (choosable, copies-are) refl

      pub got-step : state_of number es (Some (record { task = task; pred = slot.pred; count = count })) ≡ after_claim (state_of number es None) task slot (claim_note (state_of number es None) slot)
      got-step =
          ap (λ k. state_of number es (Some (record { task = task; pred = slot.pred; count = k }))) (sym (ap length copies-are ∙ long))
          ∙ ap (after_claim (state_of number es None) task slot) got-note

      pub got-after : state_of number es (Some (record { task = task; pred = slot.pred; count = count })) ≡ after_claim (state_of number es None) task slot (GotNote (length copies))
      got-after = ap (λ k. state_of number es (Some (record { task = task; pred = slot.pred; count = k }))) (sym (ap length copies-are ∙ long))

    pub claimed : (lanes : List KeyLaneState) (mark : MarkedClaim) → IsPort number es lanes None → mark.standing.pred ≡ slot.pred → mark.standing.count ≡ count → mark.keys.items ≡ take count (fitting_keys slot.pred es) → IsPort number es lanes (Some mark)
    claimed lanes mark is pred_is count_is keys_are =
        record { few = is.few; own = is.own; apart = is.apart; lanes = is.lanes; marked = rw (pred_is, count_is) (keys_are, bound) }
      where
        bound : count ≤ length (fitting_keys slot.pred es)
        bound = omega (arith, least_of, fits)

-- ---- the marked messages go

keys_of-without : (key : ℕ) (es : List (ℕ × Msg)) → keys_of (without_entry key es) ≡ without_key key (keys_of es)
keys_of-without key [] = refl
keys_of-without key (e ∷ es) = of_test (e.0 == key) (keys_of-without key es)
  where
    of_test : (b : Bool) → keys_of (without_entry key es) ≡ without_key key (keys_of es) → keys_of (if b then es else e ∷ without_entry key es) ≡ (if b then keys_of es else e.0 ∷ without_key key (keys_of es))
    of_test true rest = refl
    of_test false rest = ap (λ l. e.0 ∷ l) rest

fewer-without : (key : ℕ) (es : List (ℕ × Msg)) → length (without_entry key es) ≤ length es
fewer-without key [] = omega arith
fewer-without key (e ∷ es) = of_test (e.0 == key) (fewer-without key es)
  where
    of_test : (b : Bool) → length (without_entry key es) ≤ length es → length (if b then es else e ∷ without_entry key es) ≤ suc (length es)
    of_test true rest = omega arith
    of_test false rest = omega arith

apart-rest : (ks : List ℕ) (es : List (ℕ × Msg)) → are_apart (keys_of es) ≡ true → are_apart (keys_of (without_entries ks es)) ≡ true
apart-rest [] es apart = apart
apart-rest (k ∷ ks) es apart = apart-rest ks (without_entry k es) (ap are_apart (keys_of-without k es) ∙ apart-without k (keys_of es) apart)

fewer-rest : (ks : List ℕ) (es : List (ℕ × Msg)) → length (without_entries ks es) ≤ length es
fewer-rest [] es = omega arith
fewer-rest (k ∷ ks) es = omega (arith, fewer-rest ks (without_entry k es), fewer-without k es)

module _ (number : ℕ) (es : List (ℕ × Msg)) (lanes : List KeyLaneState) (mark : MarkedClaim) (is : IsPort number es lanes (Some mark)) where
  pub marks-can_go : can_take mark.keys.items es ≡ true
  marks-can_go = ap (λ ks. can_take ks es) is.marked.0 ∙ (is_selection mark.standing.pred mark.standing.count es is.apart).can_go

  pub marks-gone : messages_of (without_entries mark.keys.items es) ≡ without_first mark.standing.count mark.standing.pred (messages_of es)
  marks-gone = ap (λ ks. messages_of (without_entries ks es)) is.marked.0 ∙ (is_selection mark.standing.pred mark.standing.count es is.apart).rest

  pub consumed : (now : List (ℕ × Msg)) (lanes2 : List KeyLaneState) → AreLanes now lanes2 → now ≡ without_entries mark.keys.items es → IsPort number now lanes2 None
  consumed now lanes2 are gone = record {
    few = omega (arith, ap length gone, fewer-rest mark.keys.items es, is.few);
    own = ap (λ l. are_at number (messages_of l)) gone ∙ own-rest number mark.keys.items es is.own;
    apart = ap (λ l. are_apart (keys_of l)) gone ∙ apart-rest mark.keys.items es is.apart;
    lanes = are;
    marked = tt;
  }
