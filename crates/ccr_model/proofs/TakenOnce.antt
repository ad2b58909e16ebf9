-- At most one firing names a message, and once.
use Rattle.std.proofs.Common.{◌≡◌, ℕ, zero, suc, ◌+◌, ◌<◌, ◌≤◌, Bool, true, false, not, ◌&&◌, ◌||◌, List, [], ◌∷◌, ◌++◌, length, take, filter, Option, Some, None, refl, arith, subst, append-nil, ap}
use Rattle.std.specs.Prelude.{◌==◌}
use Rattle.std.specs.Option.{option_map_or}
use Rattle.std.proofs.lemmas.Grind.{common_steps}
use Rattle.std.proofs.lemmas.Bool.Decides.{nat_tests}
use Rattle.ccr_base.specs.declared.names.TaskId.{TaskId}
use Rattle.ccr_base.specs.declared.names.MsgId.{MsgId}
use Rattle.ccr_base.specs.declared.messages.Msg.{Msg}
use Rattle.ccr_base.specs.declared.patterns.Slot.{Slot}
use Rattle.ccr_base.specs.declared.patterns.Pattern.{Pattern}
use Rattle.ccr_base.specs.declared.patterns.Pattern.TheVariants.{Slots, Gather}
use Rattle.ccr_base.specs.declared.names.Spot.{Spot}
use Rattle.ccr_base.specs.declared.names.Spot.TheVariants.{Branch, Site}
use Rattle.ccr_wiring.specs.declared.parts.Parts.{Parts}
use Rattle.ccr_model.specs.declared.history.Event.{Event}
use Rattle.ccr_model.specs.declared.history.Event.TheVariants.{Post, Fire, Admit, Put, Start, End}
use Rattle.ccr_base.specs.Names.{same_message, same_lists, has_message}
use Rattle.ccr_model.specs.Posts.{posts, held, taken, taken_by}
use Rattle.ccr_wiring.specs.Wirings.{Placement, placement, site_port}
use Rattle.ccr_base.specs.Selection.{holds, selection}
use Rattle.ccr_model.specs.Selection.{names_of, joined, selection_of_slots, are_first, are_split, is_selection_of, are_oldest, is_selection}
use Rattle.ccr_model.specs.Live.{is_live, has_room}
use Rattle.ccr_model.specs.Rules.{is_new}
use Rattle.ccr_model.specs.Legal.{IsAllowed, IsLegal}
use Rattle.ccr_wiring.specs.Valid.{slot_ports, names_ports_once, HasPortsApart}
use Rattle.ccr_model.proofs.PostNames.{times, along, refused_not, AreNamed, named_kept}
use Rattle.ccr_base.proofs.SameNames.{same_message-is}
use Rattle.ccr_base.proofs.Booleans.{both}
use Rattle.ccr_base.specs.Lists.{has_number, are_apart}
use Rattle.ccr_base.proofs.Filters.{none_pass}

-- how often the name stands in the list of names
abbrev pub times_named : MsgId → List MsgId → ℕ
times_named name names = length (filter (same_message name) names)

-- how often it stands among the messages of these ports
abbrev times_at : MsgId → List ℕ → List Msg → ℕ
times_at name ports ms = length (filter (λ (m : Msg). same_message m.id name && has_number ports m.port) ms)

pub times-filter : (name : MsgId) (t : Msg → Bool) (ms : List Msg) → times name (filter t ms) ≤ times name ms
times-filter name t [] = grind arith
times-filter name t (m ∷ ms) = grind (arith, times-filter name t ms)

pub times-take : (name : MsgId) (n : ℕ) (ms : List Msg) → times name (take n ms) ≤ times name ms
times-take name zero ms = grind arith
times-take name (suc n) [] = grind arith
times-take name (suc n) (m ∷ ms) = grind (arith, times-take name n ms)

times_at-all : (name : MsgId) (ports : List ℕ) (ms : List Msg) → times_at name ports ms ≤ times name ms
times_at-all name ports [] = grind arith
times_at-all name ports (m ∷ ms) = grind (arith, times_at-all name ports ms)

times-append : (name : MsgId) (ms ns : List Msg) → times name (ms ++ ns) ≡ times name ms + times name ns
times-append name [] ns = grind arith
times-append name (m ∷ ms) ns = grind (arith, times-append name ms ns)

-- the messages of a port and those of others
times_at-apart : (name : MsgId) (t : Msg → Bool) (port : ℕ) (ports : List ℕ) → has_number ports port ≡ false → (ms : List Msg) → times name (filter t (filter (λ m. m.port == port) ms)) + times_at name ports (filter t ms) ≤ times_at name (port ∷ ports) (filter t ms)
times_at-apart name t port ports apart [] = grind arith
times_at-apart name t port ports apart (m ∷ ms) = grind (arith, nat_tests, times_at-apart name t port ports apart ms)

pub joined_some : (a b : Option (List Msg)) (xs : List Msg) → joined a b ≡ Some xs → (front : List Msg) × (back : List Msg) × (a ≡ Some front) × (b ≡ Some back) × (front ++ back ≡ xs)
joined_some (Some front) (Some back) xs is = (front, back, refl, refl, grind (arith, is))
joined_some None b xs is = absurd (cc)
joined_some (Some front) None xs is = absurd (cc)

pub selection_some : (slot : Slot) (ms xs : List Msg) → selection slot ms ≡ Some xs → xs ≡ take slot.most (filter (λ m. holds slot.pred m.value) ms)
selection_some slot ms xs is = grind arith

times-selection : (name : MsgId) (slot : Slot) (ms xs : List Msg) → selection slot ms ≡ Some xs → times name xs ≤ times name ms
times-selection name slot ms xs is = rw (selection_some slot ms xs is) (omega (arith, times-take name slot.most (filter (λ m. holds slot.pred m.value) ms), times-filter name (λ m. holds slot.pred m.value) ms))

abbrev at : (Msg → Bool) → List Msg → ℕ → List Msg
at t ms port = filter t (filter (λ m. m.port == port) ms)

times-slots : (name : MsgId) (t : Msg → Bool) (ms : List Msg) (slots : List Slot) (xs : List Msg) → are_apart (slot_ports slots) ≡ true → selection_of_slots (at t ms) slots ≡ Some xs → times name xs ≤ times_at name (slot_ports slots) (filter t ms)
times-slots name t ms [] xs apart is = grind arith
times-slots name t ms (slot ∷ slots) xs apart is =
    let parts = joined_some (selection slot (at t ms slot.port)) (selection_of_slots (at t ms) slots) xs is in
    let apart_both = both (not (has_number (slot_ports slots) slot.port)) (are_apart (slot_ports slots)) apart in
    let other : has_number (slot_ports slots) slot.port ≡ false = grind (arith, apart_both.0) in
    let here = times-selection name slot (at t ms slot.port) parts.0 parts.2 in
    let there = times-slots name t ms slots parts.1 apart_both.1 parts.3 in
    subst (λ ys. times name ys ≤ times_at name (slot.port ∷ slot_ports slots) (filter t ms)) parts.4 (omega (arith, times-append name parts.0 parts.1, here, there, times_at-apart name t slot.port (slot_ports slots) other ms))

-- names that are those of messages stand as often
named-first : (name : MsgId) (ms : List Msg) (names : List MsgId) → are_first ms names ≡ true → times_named name names ≤ times name ms
named-first name ms [] is = grind arith
named-first name [] (n ∷ names) is = absurd (cc)
named-first name (m ∷ ms) (n ∷ names) is =
    let parts = both (same_message m.id n) (are_first ms names) is in
    let same : m.id ≡ n = same_message-is m.id n parts.0 in
    grind (arith, same, named-first name ms names parts.1)

named-split : (name : MsgId) (a b : List Msg) (names : List MsgId) → are_split a b names ≡ true → times_named name names ≤ times name a + times name b
named-split name a b [] is = grind arith
named-split name [] b (n ∷ names) is = omega (arith, named-first name b (n ∷ names) is)
named-split name (m ∷ a) b (n ∷ names) is = split_or_first (are_first b (n ∷ names)) refl is (named-split name a b names)
  where
    split_or_first : (first : Bool) → are_first b (n ∷ names) ≡ first → first || (same_message m.id n && are_split a b names) ≡ true → (are_split a b names ≡ true → times_named name names ≤ times name a + times name b) → times_named name (n ∷ names) ≤ times name (m ∷ a) + times name b
    split_or_first true one is rest = omega (arith, named-first name b (n ∷ names) one)
    split_or_first false one is rest =
        let parts = both (same_message m.id n) (are_split a b names) is in
        let same : m.id ≡ n = same_message-is m.id n parts.0 in
        grind (arith, same, rest parts.1)

named-same : (name : MsgId) (ms : List Msg) (names : List MsgId) → same_lists same_message (names_of ms) names ≡ true → times_named name names ≤ times name ms
named-same name [] [] is = grind arith
named-same name [] (n ∷ names) is = absurd (cc)
named-same name (m ∷ ms) [] is = absurd (cc)
named-same name (m ∷ ms) (n ∷ names) is =
    let parts = both (same_message m.id n) (same_lists same_message (names_of ms) names) is in
    let same : m.id ≡ n = same_message-is m.id n parts.0 in
    grind (arith, same, named-same name ms names parts.1)

-- the messages of two ports
pub times-two : (name : MsgId) (t : Msg → Bool) (p q : ℕ) → not (p == q) ≡ true → (ms : List Msg) → times name (at t ms p) + times name (at t ms q) ≤ times name (filter t ms)
times-two name t p q apart [] = grind arith
times-two name t p q apart (m ∷ ms) = grind (arith, nat_tests, times-two name t p q apart ms)

times-one : (name : MsgId) (t : Msg → Bool) (p : ℕ) (ms : List Msg) → times name (at t ms p) ≤ times name (filter t ms)
times-one name t p [] = grind arith
times-one name t p (m ∷ ms) = grind (arith, times-one name t p ms)

-- the names of a selection stand among the messages that no firing took
named-selection_of : (name : MsgId) (t : Msg → Bool) (ms : List Msg) (p : Pattern) (names : List MsgId) → names_ports_once p ≡ true → is_selection_of (at t ms) p names ≡ true → times_named name names ≤ times name (filter t ms)
named-selection_of name t ms (Slots slots) names apart is = some_selection (selection_of_slots (at t ms) slots) refl is
  where
    some_selection : (o : Option (List Msg)) → selection_of_slots (at t ms) slots ≡ o → option_map_or (λ messages. same_lists same_message (names_of messages) names) o false ≡ true → times_named name names ≤ times name (filter t ms)
    some_selection None e is = absurd (cc)
    some_selection (Some xs) e is = omega (arith, named-same name xs names is, times-slots name t ms slots xs apart e, times_at-all name (slot_ports slots) (filter t ms))
named-selection_of name t ms (Gather total first second) names apart is =
    let parts = both (length names == total) (are_split (at t ms first) (at t ms second) names) is in
    omega (arith, named-split name (at t ms first) (at t ms second) names parts.1, times-two name t first second apart ms)

-- the messages that no firing took, of all ports
abbrev pub untaken : List Event → List Msg
untaken h = filter (λ (m : Msg). not (has_message (taken h) m.id)) (posts h)

pub named-selection : (w : Parts) (h : List Event) (s : Spot) (name : MsgId) (names : List MsgId) → HasPortsApart w → is_selection w h s names ≡ true → times_named name names ≤ times name (untaken h)
named-selection w h (Branch b) name names apart is = some_placement (placement w b) refl is
  where
    some_placement : (o : Option Placement) → placement w b ≡ o → option_map_or (λ (s : Placement). is_selection_of (held h) s.branch.pattern names) o false ≡ true → times_named name names ≤ times name (untaken h)
    some_placement None e is = absurd (cc)
    some_placement (Some s) e is = named-selection_of name (λ m. not (has_message (taken h) m.id)) (posts h) s.branch.pattern names (apart b s e) is
named-selection w h (Site b k) name names apart is = some_port (site_port w b k) is
  where
    some_port : (o : Option ℕ) → option_map_or (λ port. are_oldest (held h port) names) o false ≡ true → times_named name names ≤ times name (untaken h)
    some_port None is = absurd (cc)
    some_port (Some port) is =
        let parts = both (length names == 1) (are_first (held h port) names) is in
        omega (arith, named-first name (held h port) names parts.1, times-one name (λ m. not (has_message (taken h) m.id)) port (posts h))

-- what is untaken isn't taken
pub taken_none : (name : MsgId) (gone : List MsgId) (ms : List Msg) → 0 < times name (filter (λ (m : Msg). not (has_message gone m.id)) ms) → has_message gone name ≡ false
taken_none name gone [] some = absurd (omega arith)
taken_none name gone (m ∷ ms) some = one_more (has_message gone m.id) (same_message m.id name) refl refl (taken_none name gone ms)
  where
    one_more : (a b : Bool) → has_message gone m.id ≡ a → same_message m.id name ≡ b → (0 < times name (filter (λ (m : Msg). not (has_message gone m.id)) ms) → has_message gone name ≡ false) → has_message gone name ≡ false
    one_more true b is same rest = rest (grind (arith, is, some))
    one_more false true is same rest = let e : m.id ≡ name = same_message-is m.id name same in rw (← e) is
    one_more false false is same rest = rest (grind (arith, is, same, some))

pub named_none : (name : MsgId) (gone : List MsgId) → has_message gone name ≡ false → times_named name gone ≡ 0
named_none name gone is = ap length (none_pass (same_message name) gone is)

pub named-append : (name : MsgId) (xs ys : List MsgId) → times_named name (xs ++ ys) ≡ times_named name xs + times_named name ys
named-append name [] ys = grind arith
named-append name (x ∷ xs) ys = grind (arith, named-append name xs ys)

-- what an allowed firing says, rule by rule
pub record FireFacts (w : Parts) (h : List Event) (t : TaskId) (s : Spot) (ms : List MsgId) (cs : List TaskId) : Type 0 where
  pub new_name : is_new h t ≡ true
  pub live : is_live w h s ≡ true
  pub selection_made : is_selection w h s ms ≡ true
  pub room : has_room w h s ≡ true

pub FireFacts-allowed : (w : Parts) (h : List Event) (t : TaskId) (s : Spot) (ms : List MsgId) (cs : List TaskId) → IsAllowed w h (Fire t s ms cs) → FireFacts w h t s ms cs
FireFacts-allowed w h t s ms cs allowed =
    let a = refused_not (is_new h t) _ _ allowed in
    let b = refused_not (is_live w h s) _ _ a.1 in
    let c = refused_not (is_selection w h s ms) _ _ b.1 in
    let d = refused_not (has_room w h s) _ _ c.1 in
    record { new_name = a.0; live = b.0; selection_made = c.0; room = d.0 }

pub taken-push : (h : List Event) (e : Event) → taken (h ++ e ∷ []) ≡ taken h ++ taken_by e
taken-push h e = grind (arith, common_steps)

-- each name is taken once at most
abbrev IsTakenOnce : List Event → Type 0
IsTakenOnce h = (name : MsgId) → times_named name (taken h) ≤ 1

taken_fire : (w : Parts) → HasPortsApart w → (h : List Event) (t : TaskId) (s : Spot) (ms : List MsgId) (cs : List TaskId) → ((name : MsgId) → times name (posts h) ≤ 1) → IsTakenOnce h → IsAllowed w h (Fire t s ms cs) → (name : MsgId) → times_named name (taken h ++ ms) ≤ 1
taken_fire w apart h t s ms cs posted_one once allowed name =
    let among = named-selection w h s name ms apart (FireFacts-allowed w h t s ms cs allowed).selection_made in
    let all = times-filter name (λ (m : Msg). not (has_message (taken h) m.id)) (posts h) in
    new_or_not (has_message (taken h) name) refl among all
  where
    new_or_not : (b : Bool) → has_message (taken h) name ≡ b → times_named name ms ≤ times name (untaken h) → times name (untaken h) ≤ times name (posts h) → times_named name (taken h ++ ms) ≤ 1
    new_or_not false is among all = omega (arith, named-append name (taken h) ms, named_none name (taken h) is, posted_one name)
    new_or_not true is among all = grind (arith, named-append name (taken h) ms, once name, taken_none name (taken h) (posts h))

taken_kept : (w : Parts) → HasPortsApart w → (h : List Event) (e : Event) → AreNamed (posts h) → IsTakenOnce h → IsAllowed w h e → IsTakenOnce (h ++ e ∷ [])
taken_kept w apart h (Fire t s ms cs) posted once allowed = λ name. rw taken-push (taken_fire w apart h t s ms cs posted.once once allowed name)
taken_kept w apart h (Post m) posted once allowed = λ name. rw (taken-push, append-nil) (once name)
taken_kept w apart h (Admit t) posted once allowed = λ name. rw (taken-push, append-nil) (once name)
taken_kept w apart h (Put t d) posted once allowed = λ name. rw (taken-push, append-nil) (once name)
taken_kept w apart h (Start t a) posted once allowed = λ name. rw (taken-push, append-nil) (once name)
taken_kept w apart h (End t how) posted once allowed = λ name. rw (taken-push, append-nil) (once name)

-- one fate, second part: at most one firing names a message, and it names it once
pub taken_once : (w : Parts) → HasPortsApart w → (h : List Event) → IsLegal w h → (name : MsgId) → times_named name (taken h) ≤ 1
taken_once w apart h legal =
    (along w (λ g. AreNamed (posts g) × IsTakenOnce g) (λ g e p allowed. (named_kept w g e p.0 allowed, taken_kept w apart g e p.0 p.1 allowed)) (record { below = λ name. λ some. omega arith; once = λ name. omega arith }, λ name. omega arith) h legal).1
