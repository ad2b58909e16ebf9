-- What a firing takes off.
use Rattle.std.proofs.Common.{◌≡◌, ℕ, zero, suc, ◌+◌, ◌≤◌, Bool, true, false, not, List, [], ◌∷◌, ◌++◌, length, take, filter, Some, None, refl, sym, ap, ◌∙◌, subst, arith, length-take}
use Rattle.std.specs.Prelude.{◌==◌, if◌then◌else◌, nat_le}
use Rattle.std.specs.List.{list_all}
use Rattle.std.proofs.lemmas.Bool.Decides.{nat_tests}
use Rattle.ccr_base.specs.declared.names.MsgId.{MsgId}
use Rattle.ccr_base.specs.declared.names.Spot.{Spot}
use Rattle.ccr_base.specs.declared.names.Spot.TheVariants.{Branch, Site}
use Rattle.ccr_base.specs.declared.messages.Msg.{Msg}
use Rattle.ccr_base.specs.declared.patterns.Pred.TheVariants.{Any}
use Rattle.ccr_base.specs.Names.{same_message, has_message, same_lists}
use Rattle.ccr_base.specs.Selection.{fitting, is_choosable, selection}
use Rattle.ccr_model.specs.declared.history.Event.{Event}
use Rattle.ccr_model.specs.Posts.{posts, taken, held}
use Rattle.ccr_model.specs.Selection.{names_of, selection_of_slots, is_selection}
use Rattle.ccr_base.proofs.Booleans.{both, not_not}
use Rattle.ccr_base.proofs.Filters.{filter_swap}
use Rattle.ccr_model.proofs.FirstNames.{same_names}
use Rattle.ccr_base.proofs.Options.{some_of}
use Rattle.ccr_base.proofs.Lists.{all_weaker, any_left, any_right}
use Rattle.ccr_base.proofs.SameNames.{same_message-self, names_of-append}
use Rattle.ccr_model.proofs.TakenOnce.{joined_some}
use Rattle.ccr_model.proofs.MessageNames.{any_fits}
use Rattle.ccr_gen.specs.Generated.{any_of, generated}
use Rattle.ccr_gen.specs.Weights.{weight, value, load, is_open}
use Rattle.ccr_model.proofs.Members.{all_from, Among-filter, Among-take}

-- a total of messages: what each is worth, added up
abbrev pub AddsUp : (Msg → ℕ) → (List Msg → ℕ) → Type 0
AddsUp worth total = (total [] ≡ 0) × ((m : Msg) (ms : List Msg) → total (m ∷ ms) ≡ worth m + total ms)

-- a stronger test keeps no more
pub stronger : (worth : Msg → ℕ) (total : List Msg → ℕ) → AddsUp worth total → (wide strict : Msg → Bool) → ((x : Msg) → strict x ≡ true → wide x ≡ true) → (ms : List Msg) → total (filter strict ms) ≤ total (filter wide ms)
stronger worth total adds wide strict less [] = omega arith
stronger worth total adds wide strict less (x ∷ ms) = grind (arith, less x, adds.1 x (filter strict ms), adds.1 x (filter wide ms), stronger worth total adds wide strict less ms)

-- what was kept and is no more, of some that also pass another test, is off
pub fall : (worth : Msg → ℕ) (total : List Msg → ℕ) → AddsUp worth total → (n : ℕ) (wide strict other : Msg → Bool) → ((x : Msg) → strict x ≡ true → wide x ≡ true) → (ms : List Msg) → list_all (λ x. not (strict x)) (take n (filter other (filter wide ms))) ≡ true
    → total (filter strict ms) + total (take n (filter other (filter wide ms))) ≤ total (filter wide ms)
fall worth total adds zero wide strict other less ms gone = grind (arith, adds.0, stronger worth total adds wide strict less ms)
fall worth total adds (suc n) wide strict other less [] gone = grind (arith, adds.0)
fall worth total adds (suc n) wide strict other less (x ∷ ms) gone = by (wide x) (other x) (strict x) refl refl refl gone (less x) (fall worth total adds n wide strict other less ms) (fall worth total adds (suc n) wide strict other less ms)
  where
    by : (a b c : Bool) → wide x ≡ a → other x ≡ b → strict x ≡ c → list_all (λ x. not (strict x)) (take (suc n) (filter other (filter wide (x ∷ ms)))) ≡ true → (strict x ≡ true → wide x ≡ true)
        → (list_all (λ x. not (strict x)) (take n (filter other (filter wide ms))) ≡ true → total (filter strict ms) + total (take n (filter other (filter wide ms))) ≤ total (filter wide ms))
        → (list_all (λ x. not (strict x)) (take (suc n) (filter other (filter wide ms))) ≡ true → total (filter strict ms) + total (take (suc n) (filter other (filter wide ms))) ≤ total (filter wide ms))
        → total (filter strict (x ∷ ms)) + total (take (suc n) (filter other (filter wide (x ∷ ms)))) ≤ total (filter wide (x ∷ ms))
    by false b c ea eb ec gone weak again same = grind (arith, ea, ec, gone, weak, same)
    by true false c ea eb ec gone weak again same = grind (arith, ea, eb, ec, gone, adds.1 x (filter strict ms), adds.1 x (filter wide ms), same)
    by true true true ea eb ec gone weak again same = grind (arith, ea, eb, ec, gone)
    by true true false ea eb ec gone weak again same = grind (arith, ea, eb, ec, gone, adds.1 x (filter wide ms), adds.1 x (take n (filter other (filter wide ms))), again)

loads : AddsUp (λ (m : Msg). weight m.port) load
loads = (refl, λ m ms. refl)

pub all_named : (ms : List Msg) → list_all (λ (x : Msg). has_message (names_of ms) x.id) ms ≡ true
all_named [] = refl
all_named (m ∷ ms) =
    let others = all_weaker (λ (x : Msg). has_message (names_of ms) x.id) (λ (x : Msg). has_message (names_of (m ∷ ms)) x.id) (λ x is. any_right (same_message x.id) (m.id ∷ []) (names_of ms) is) ms (all_named ms) in
    rw (same_message-self m.id, others) refl

-- what a firing names is open no more
pub all_gone : (gone back : List MsgId) (ms : List Msg) → list_all (λ (x : Msg). not (is_open (gone ++ (names_of ms ++ back)) x)) ms ≡ true
all_gone gone back ms = all_weaker (λ (x : Msg). has_message (names_of ms) x.id) (λ (x : Msg). not (is_open (gone ++ (names_of ms ++ back)) x)) (λ x is. not_not (has_message (gone ++ (names_of ms ++ back)) x.id) ∙ any_right (same_message x.id) gone (names_of ms ++ back) (any_left (same_message x.id) (names_of ms) back is)) ms (all_named ms)

pub still_open : (gone names : List MsgId) (x : Msg) → is_open (gone ++ names) x ≡ true → is_open gone x ≡ true
still_open gone names x is = by (has_message gone x.id) refl is
  where
    by : (b : Bool) → has_message gone x.id ≡ b → not (has_message (gone ++ names) x.id) ≡ true → not (has_message gone x.id) ≡ true
    by true e is = let more = any_left (same_message x.id) gone names e in absurd (cc)
    by false e is = rw e refl

-- the messages of the port
abbrev pub at : ℕ → Msg → Bool
at port m = m.port == port

-- messages of one port
abbrev each : ℕ → ℕ → ℕ
each w zero = 0
each w (suc n) = w + each w n

load_each : (port : ℕ) (ms : List Msg) → list_all (at port) ms ≡ true → load ms ≡ each (weight port) (length ms)
load_each port [] all = refl
load_each port (m ∷ ms) all =
    let parts = both (at port m) (list_all (at port) ms) all in
    let here : m.port ≡ port = grind (arith, nat_tests, parts.0) in
    rw (here, load_each port ms parts.1) refl

all_at : (port n : ℕ) (ms : List Msg) → list_all (at port) (take n (filter (at port) ms)) ≡ true
all_at port n ms = all_from (at port) (take n (filter (at port) ms)) (λ x is. (Among-filter (at port) ms x (Among-take n (filter (at port) ms) x is)).1)

-- the selection of a slot of any messages
slot_takes : (port count : ℕ) (ms xs : List Msg) → selection (any_of port count) ms ≡ Some xs → (xs ≡ take count ms) × (length xs ≡ count)
slot_takes port count ms xs is = by (is_choosable (any_of port count) ms) refl is
  where
    by : (b : Bool) → is_choosable (any_of port count) ms ≡ b → (if b then Some (take count (fitting Any ms)) else None) ≡ Some xs → (xs ≡ take count ms) × (length xs ≡ count)
    by false e is = absurd cc
    by true e is =
        let same : take count (fitting Any ms) ≡ xs = cc in
        let taken : xs ≡ take count ms = sym same ∙ ap (take count) (any_fits ms) in
        let enough : nat_le count (length ms) ≡ true = ap (λ (l : List Msg). nat_le count (length l)) (sym (any_fits ms)) ∙ e in
        let many : count ≤ length ms = grind (arith, nat_tests, enough) in
        (taken, ap length taken ∙ omega (arith, length-take count ms))

-- a firing whose first slot takes so many of the port takes at least their load off
first_slot : (port count : ℕ) (h : List Event) (front : List Msg) (back : List MsgId) → selection (any_of port count) (held h port) ≡ Some front
    → load (filter (is_open (taken h ++ (names_of front ++ back))) (posts h)) + each (weight port) count ≤ load (filter (is_open (taken h)) (posts h))
first_slot port count h front back is =
    let gone = taken h in
    let got = slot_takes port count (held h port) front is in
    let kept = filter (at port) (filter (is_open gone) (posts h)) in
    let swap : held h port ≡ kept = filter_swap (is_open gone) (at port) (posts h) in
    let front_is : front ≡ take count kept = got.0 ∙ ap (take count) swap in
    let all : list_all (λ (x : Msg). not (is_open (gone ++ (names_of front ++ back)) x)) (take count kept) ≡ true = subst (λ (ms : List Msg). list_all (λ (x : Msg). not (is_open (gone ++ (names_of front ++ back)) x)) ms ≡ true) front_is (all_gone gone back front) in
    let less : load (filter (is_open (gone ++ (names_of front ++ back))) (posts h)) + load (take count kept) ≤ load (filter (is_open gone) (posts h)) = fall (λ (m : Msg). weight m.port) load loads count (is_open gone) (is_open (gone ++ (names_of front ++ back))) (at port) (still_open gone (names_of front ++ back)) (posts h) all in
    let much : load (take count kept) ≡ each (weight port) count = load_each port (take count kept) (all_at port count (filter (is_open gone) (posts h))) ∙ ap (each (weight port)) (ap length (sym front_is) ∙ got.1) in
    omega (arith, less, much)

-- an allowed selection takes off what the firing leads to
pub fire_falls : (size : ℕ) (h : List Event) (s : Spot) (names : List MsgId) → is_selection (generated size) h s names ≡ true
    → load (filter (is_open (taken h ++ names)) (posts h)) + value s ≤ load (filter (is_open (taken h)) (posts h))
fire_falls size h (Site branch site) names is = omega (arith, stronger (λ (m : Msg). weight m.port) load loads (is_open (taken h)) (is_open (taken h ++ names)) (still_open (taken h) names) (posts h))
fire_falls size h (Branch (suc (suc (suc branch)))) names is = omega (arith, stronger (λ (m : Msg). weight m.port) load loads (is_open (taken h)) (is_open (taken h ++ names)) (still_open (taken h) names) (posts h))
fire_falls size h (Branch zero) names is =
    let slots = any_of 0 1 ∷ any_of 1 1 ∷ [] in
    let got = some_of (λ (ms : List Msg). same_lists same_message (names_of ms) names) (selection_of_slots (held h) slots) is in
    let parts = joined_some (selection (any_of 0 1) (held h 0)) (selection_of_slots (held h) (any_of 1 1 ∷ [])) got.0 got.1 in
    let named : names ≡ names_of parts.0 ++ names_of parts.1 = same_names got.0 names got.2 ∙ (ap names_of (sym parts.4) ∙ names_of-append parts.0 parts.1) in
    rw named (first_slot 0 1 h parts.0 (names_of parts.1) parts.2)
fire_falls size h (Branch (suc zero)) names is =
    let got = some_of (λ (ms : List Msg). same_lists same_message (names_of ms) names) (selection_of_slots (held h) (any_of 2 4 ∷ [])) is in
    let parts = joined_some (selection (any_of 2 4) (held h 2)) (Some []) got.0 got.1 in
    let named : names ≡ names_of parts.0 ++ names_of parts.1 = same_names got.0 names got.2 ∙ (ap names_of (sym parts.4) ∙ names_of-append parts.0 parts.1) in
    rw named (first_slot 2 4 h parts.0 (names_of parts.1) parts.2)
fire_falls size h (Branch (suc (suc zero))) names is =
    let got = some_of (λ (ms : List Msg). same_lists same_message (names_of ms) names) (selection_of_slots (held h) (any_of 3 1 ∷ [])) is in
    let parts = joined_some (selection (any_of 3 1) (held h 3)) (Some []) got.0 got.1 in
    let named : names ≡ names_of parts.0 ++ names_of parts.1 = same_names got.0 names got.2 ∙ (ap names_of (sym parts.4) ∙ names_of-append parts.0 parts.1) in
    rw named (first_slot 3 1 h parts.0 (names_of parts.1) parts.2)
