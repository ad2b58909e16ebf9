-- Each firing takes a message that no other took.
use Rattle.std.proofs.Common.{◌≡◌, ℕ, zero, suc, ◌+◌, ◌≤◌, inl, inr, Bool, true, false, not, ◌&&◌, ◌||◌, List, [], ◌∷◌, ◌++◌, length, take, filter, Option, Some, None, refl, arith, subst, ap, ◌∙◌}
use Rattle.std.specs.Prelude.{◌==◌, if◌then◌else◌, nat_le}
use Rattle.std.specs.Option.{option_map_or}
use Rattle.std.proofs.lemmas.Grind.{common_steps}
use Rattle.std.proofs.lemmas.Bool.Decides.{nat_tests}
use Rattle.ccr_base.specs.declared.names.TaskId.{TaskId}
use Rattle.ccr_base.specs.declared.names.MsgId.{MsgId}
use Rattle.ccr_base.specs.declared.messages.Msg.{Msg}
use Rattle.ccr_base.specs.declared.patterns.Slot.{Slot}
use Rattle.ccr_base.specs.declared.patterns.Pattern.{Pattern}
use Rattle.ccr_base.specs.declared.patterns.Pattern.TheVariants.{Slots, Gather}
use Rattle.ccr_base.specs.declared.names.Spot.{Spot}
use Rattle.ccr_base.specs.declared.names.Spot.TheVariants.{Branch, Site}
use Rattle.ccr_wiring.specs.declared.parts.Parts.{Parts}
use Rattle.ccr_model.specs.declared.history.Event.{Event}
use Rattle.ccr_model.specs.declared.history.Event.TheVariants.{Post, Fire}
use Rattle.ccr_base.specs.Names.{same_message, same_lists, has_message}
use Rattle.ccr_base.specs.Selection.{fitting, is_choosable, selection}
use Rattle.ccr_wiring.specs.Wirings.{Placement, placement, site_port}
use Rattle.ccr_model.specs.Posts.{posts, taken, held}
use Rattle.ccr_model.specs.Selection.{names_of, selection_of_slots, are_first, are_split, is_selection_of, are_oldest, is_selection}
use Rattle.ccr_model.proofs.Allowing.{filter_head}
use Rattle.ccr_model.proofs.Members.{Among, Among-left, Among-right, Among-filter, Among-kept, kept_among, fewer_kept, filter_all}
use Rattle.ccr_model.proofs.TakenOnce.{joined_some, untaken}
use Rattle.ccr_base.proofs.Booleans.{both, either}
use Rattle.ccr_base.proofs.Filters.{filter_swap}
use Rattle.ccr_laws.specs.Potential.{takes_some, TakesSome}

-- one of the names is that of a message of one of the ports
pub record NamesOne (at : ℕ → List Msg) (names : List MsgId) : Type 0 where
  pub port : ℕ
  pub message : Msg
  pub there : Among message (at port)
  pub named : has_message names message.id ≡ true

one_taken : (n least : ℕ) (fit : List Msg) → nat_le 1 least ≡ true → nat_le 1 n ≡ true → nat_le least (length fit) ≡ true → (m : Msg) × (rest : List Msg) × (fit ≡ m ∷ rest) × Among m (take n fit)
one_taken n least [] some most enough = absurd (grind (arith, nat_tests))
one_taken zero least (m ∷ rest) some most enough = absurd (grind (arith, nat_tests))
one_taken (suc n) least (m ∷ rest) some most enough = (m, rest, refl, inl refl)

slot_takes : (slot : Slot) (ms xs : List Msg) → nat_le 1 slot.least && nat_le 1 slot.most ≡ true → selection slot ms ≡ Some xs → (m : Msg) × Among m ms × Among m xs
slot_takes slot ms xs some is = of_test (is_choosable slot ms) refl is
  where
    of_test : (b : Bool) → is_choosable slot ms ≡ b → (if b then Some (take slot.most (fitting slot.pred ms)) else None) ≡ Some xs → (m : Msg) × Among m ms × Among m xs
    of_test false enough e = absurd (cc)
    of_test true enough e =
        let parts = both (nat_le 1 slot.least) (nat_le 1 slot.most) some in
        let one = one_taken slot.most slot.least (fitting slot.pred ms) parts.0 parts.1 enough in
        let same : take slot.most (fitting slot.pred ms) ≡ xs = cc in
        (one.0, filter_head _ ms one.0 one.1 one.2, subst (λ ys. Among one.0 ys) same one.3)

slots_take : (at : ℕ → List Msg) (slots : List Slot) (xs : List Msg) → takes_some (Slots slots) ≡ true → selection_of_slots at slots ≡ Some xs → (port : ℕ) × (m : Msg) × Among m (at port) × Among m xs
slots_take at [] xs some is = absurd (cc)
slots_take at (slot ∷ slots) xs some is =
    let parts = joined_some (selection slot (at slot.port)) (selection_of_slots at slots) xs is in
    of_test parts.0 parts.1 parts.2 parts.4 (nat_le 1 slot.least && nat_le 1 slot.most) refl some (λ later. slots_take at slots parts.1 later parts.3)
  where
    of_test : (front back : List Msg) → selection slot (at slot.port) ≡ Some front → front ++ back ≡ xs → (b : Bool) → nat_le 1 slot.least && nat_le 1 slot.most ≡ b → b || takes_some (Slots slots) ≡ true → (takes_some (Slots slots) ≡ true → (port : ℕ) × (m : Msg) × Among m (at port) × Among m back) → (port : ℕ) × (m : Msg) × Among m (at port) × Among m xs
    of_test front back here whole true takes any rest =
        let one = slot_takes slot (at slot.port) front takes here in
        (slot.port, one.0, one.1, subst (λ ys. Among one.0 ys) whole (Among-left one.0 front back one.2))
    of_test front back here whole false takes any rest =
        let one = rest any in
        (one.0, one.1, one.2, subst (λ ys. Among one.1 ys) whole (Among-right one.1 front back one.3))

-- whose names are listed
same_named : (xs : List Msg) (names : List MsgId) (m : Msg) → same_lists same_message (names_of xs) names ≡ true → Among m xs → has_message names m.id ≡ true
same_named [] names m same among = absurd among
same_named (x ∷ xs) [] m same among = absurd (cc)
same_named (x ∷ xs) (n ∷ names) m same (inl e) = let parts = both (same_message x.id n) (same_lists same_message (names_of xs) names) same in grind (arith, e, parts.0)
same_named (x ∷ xs) (n ∷ names) m same (inr among) = let parts = both (same_message x.id n) (same_lists same_message (names_of xs) names) same in grind (arith, same_named xs names m parts.1 among)

-- the first name is that of the first message
first_named : (ms : List Msg) (n : MsgId) (names : List MsgId) → are_first ms (n ∷ names) ≡ true → (m : Msg) × Among m ms × (has_message (n ∷ names) m.id ≡ true)
first_named [] n names is = absurd (cc)
first_named (m ∷ ms) n names is = let parts = both (same_message m.id n) (are_first ms names) is in (m, inl refl, grind (arith, parts.0))

split_named : (at : ℕ → List Msg) (p q : ℕ) (a : List Msg) → at p ≡ a → (n : MsgId) (names : List MsgId) → are_split a (at q) (n ∷ names) ≡ true → NamesOne at (n ∷ names)
split_named at p q [] here n names is = let one = first_named (at q) n names is in record { port = q; message = one.0; there = one.1; named = one.2 }
split_named at p q (m ∷ a) here n names is = of_test (are_first (at q) (n ∷ names)) refl is
  where
    of_test : (b : Bool) → are_first (at q) (n ∷ names) ≡ b → b || (same_message m.id n && are_split a (at q) names) ≡ true → NamesOne at (n ∷ names)
    of_test true e either = let one = first_named (at q) n names e in record { port = q; message = one.0; there = one.1; named = one.2 }
    of_test false e either = let parts = both (same_message m.id n) (are_split a (at q) names) either in record { port = p; message = m; there = rw here (inl refl); named = grind (arith, parts.0) }

gather_named : (at : ℕ → List Msg) (total p q : ℕ) (names : List MsgId) → nat_le 1 total ≡ true → (length names == total) && are_split (at p) (at q) names ≡ true → NamesOne at names
gather_named at total p q [] some is = let parts = both (0 == total) (are_split (at p) (at q) []) is in absurd (grind (arith, nat_tests, some, parts.0))
gather_named at total p q (n ∷ names) some is = let parts = both (length (n ∷ names) == total) (are_split (at p) (at q) (n ∷ names)) is in split_named at p q (at p) refl n names parts.1

pattern_named : (at : ℕ → List Msg) (p : Pattern) (names : List MsgId) → takes_some p ≡ true → is_selection_of at p names ≡ true → NamesOne at names
pattern_named at (Slots slots) names some is = of_option (selection_of_slots at slots) refl is
  where
    of_option : (o : Option (List Msg)) → selection_of_slots at slots ≡ o → option_map_or (λ messages. same_lists same_message (names_of messages) names) o false ≡ true → NamesOne at names
    of_option None e same = absurd (cc)
    of_option (Some xs) e same =
        let one = slots_take at slots xs some e in
        record { port = one.0; message = one.1; there = one.2; named = same_named xs names one.1 same one.3 }
pattern_named at (Gather total p q) names some is = gather_named at total p q names some is

oldest_named : (at : ℕ → List Msg) (port : ℕ) (names : List MsgId) → are_oldest (at port) names ≡ true → NamesOne at names
oldest_named at port [] is = absurd (cc)
oldest_named at port (n ∷ names) is =
    let parts = both (length (n ∷ names) == 1) (are_first (at port) (n ∷ names)) is in
    let one = first_named (at port) n names parts.1 in
    record { port = port; message = one.0; there = one.1; named = one.2 }

-- a selection names a message that its port holds
pub selection_named : (w : Parts) → TakesSome w → (h : List Event) (s : Spot) (names : List MsgId) → is_selection w h s names ≡ true → NamesOne (held h) names
selection_named w some h (Branch b) names is = of_option (placement w b) refl is
  where
    of_option : (o : Option Placement) → placement w b ≡ o → option_map_or (λ (s : Placement). is_selection_of (held h) s.branch.pattern names) o false ≡ true → NamesOne (held h) names
    of_option None e chosen = absurd (cc)
    of_option (Some s) e chosen = pattern_named (held h) s.branch.pattern names (some b s e) chosen
selection_named w some h (Site b k) names is = of_option (site_port w b k) is
  where
    of_option : (o : Option ℕ) → option_map_or (λ port. are_oldest (held h port) names) o false ≡ true → NamesOne (held h) names
    of_option None chosen = absurd (cc)
    of_option (Some port) chosen = oldest_named (held h) port names chosen

-- a test that fails for one more of a port's messages keeps fewer of all
one_less : (port : ℕ) (p q : Msg → Bool) → ((x : Msg) → q x ≡ true → p x ≡ true) → (m : Msg) → q m ≡ false → (ms : List Msg) → Among m (filter p (filter (λ (x : Msg). x.port == port) ms)) → length (filter q ms) + 1 ≤ length (filter p ms)
one_less port p q weaker m out ms among =
    let there = Among-filter p (filter (λ (x : Msg). x.port == port) ms) m among in
    let less = fewer_kept q (filter p ms) m (kept_among p ms m (Among-kept (λ (x : Msg). x.port == port) ms m there.0) there.1) out in
    let same : filter q (filter p ms) ≡ filter q ms = filter_swap q p ms ∙ filter_all p (filter q ms) (λ x is. weaker x (Among-filter q ms x is).1) in
    let long = ap length same in
    omega (arith, less, long)

pub untaken_post : (h : List Event) (m : Msg) → length (untaken (h ++ Post m ∷ [])) ≤ length (untaken h) + 1
untaken_post h m = grind (arith, common_steps)

pub untaken_fire : (w : Parts) → TakesSome w → (h : List Event) (t : TaskId) (s : Spot) (names : List MsgId) (cs : List TaskId) → is_selection w h s names ≡ true → length (untaken (h ++ Fire t s names cs ∷ [])) + 1 ≤ length (untaken h)
untaken_fire w some h t s names cs is =
    let one = selection_named w some h s names is in
    let gone : not (has_message (taken h ++ names) one.message.id) ≡ false = grind (arith, common_steps, one.named) in
    let less = one_less one.port (λ m. not (has_message (taken h) m.id)) (λ m. not (has_message (taken h ++ names) m.id)) (λ m. stronger (taken h) m.id) one.message gone (posts h) one.there in
    grind (arith, common_steps, less)
  where
    stronger : (names' : List MsgId) (n : MsgId) → not (has_message (names' ++ names) n) ≡ true → not (has_message names' n) ≡ true
    stronger names' n left = grind (arith, common_steps)
