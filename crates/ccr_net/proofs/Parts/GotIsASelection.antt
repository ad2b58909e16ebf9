-- What an attempt got is a selection of its pattern; and what others' firings and puts leave.
use Rattle.std.proofs.Common.{◌⊎◌, inl, inr, ◌≡◌, ◌≢◌, ◌≤◌, ℕ, ◌+◌, ◌-◌, Bool, true, false, List, [], ◌∷◌, ◌++◌, length, map, flat_map, take, refl, sym, arith, ap, ◌∙◌, subst, append-nil, length-append}
use Rattle.std.specs.Prelude.{◌==◌, nat_lt}
use Rattle.std.proofs.lemmas.Grind.{common_steps}
use Rattle.std.proofs.lemmas.List.{length-map}
use Rattle.std.proofs.lemmas.Bool.Decides.{nat_tests}
use Rattle.std.proofs.lemmas.Bool.{and_from}
use Rattle.ccr_base.specs.declared.messages.Msg.{Msg}
use Rattle.ccr_base.specs.declared.names.MsgId.{MsgId}
use Rattle.ccr_base.specs.declared.names.Spot.{Spot}
use Rattle.ccr_base.specs.declared.names.TaskId.{TaskId}
use Rattle.ccr_base.specs.declared.patterns.Pattern.{Pattern}
use Rattle.ccr_base.specs.declared.patterns.Pattern.TheVariants.{Slots, Gather}
use Rattle.ccr_base.specs.declared.patterns.Pred.{Pred}
use Rattle.ccr_base.specs.declared.patterns.Pred.TheVariants.{Any}
use Rattle.ccr_base.specs.declared.patterns.Slot.{Slot}
use Rattle.ccr_base.specs.Selection.{fitting}
use Rattle.ccr_base.specs.Names.{same_task, has_task}
use Rattle.ccr_wiring.specs.declared.parts.Parts.{Parts}
use Rattle.ccr_model.specs.declared.history.Event.{Event}
use Rattle.ccr_model.specs.declared.history.Event.TheVariants as events
use Rattle.ccr_model.specs.Selection.{is_selection_of, are_split}
use Rattle.ccr_model.specs.Firings.{fired}
use Rattle.ccr_model.specs.Posts.{posts, held}
use Rattle.ccr_base.proofs.Booleans.{or_left}
use Rattle.ccr_model.proofs.Members.{Among, Among-map, Among-mapped}
use Rattle.ccr_model.proofs.PostNames.{AreNamed}
use Rattle.ccr_model.proofs.OneMoreEvent.{fired-fire}
use Rattle.ccr_base.specs.Names.{same_message}
use Rattle.ccr_base.proofs.SameNames.{same_task-is, same_message-self, same_lists-self}
use Rattle.ccr_model.proofs.MessageNames.{any_fits}
use Rattle.ccr_model.proofs.Allowing.{split_both}
use Rattle.ccr_places.specs.Ports.{PortState}
use Rattle.ccr_claim.specs.declared.plan.Had.{Had}
use Rattle.ccr_claim.specs.Plans.{had_at, ports_in, in_slots, in_pattern, names_of, sort_slots}
use Rattle.ccr_claim.specs.declared.asks.Asked.{Asked}
use Rattle.ccr_claim.specs.Attempts.{had_in}
use Rattle.ccr_actor.specs.Actors.{State, name_at}
use Rattle.ccr_net.proofs.Parts.PortsAndHandsMatch.{PortsMatch, ActorMatches, put_in, puts_in}
use Rattle.ccr_net.proofs.Parts.GotNamesStandAlone.{sorted_among, among_sorted, selection_slots, had_at-is, held_had}
use Rattle.ccr_net.proofs.Parts.PhasesFitPlans.{Fits, slot_had, lower, higher}
use Rattle.ccr_net.proofs.Kept.WhatWiringsHave.{IsEven}

-- ---- what an attempt got is a selection of its pattern

pub all_fit : (pred : Pred) (ms : List Msg) → pred ≡ Any → fitting pred ms ≡ ms
all_fit pred ms is = ap (λ p. fitting p ms) is ∙ any_fits ms

-- both claims of a gather were made
pub record BothGot (first second total : ℕ) (had : List Had) : Type 0 where
  pub one : Had
  pub other : Had
  pub is_one : Among one had
  pub is_other : Among other had
  pub one_port : one.slot.port ≡ first
  pub other_port : other.slot.port ≡ second
  pub one_any : one.slot.pred ≡ Any
  pub other_any : other.slot.pred ≡ Any
  pub sum : ((d : Had) → Among d had → (d.slot.least ≤ length d.messages) × (length d.messages ≤ d.slot.most)) → length one.messages + length other.messages ≡ total
  pub alone : (d : Had) → Among d had → (d.slot.port ≡ first) ⊎ (d.slot.port ≡ second)

both_got : (first second total : ℕ) (had : List Had) → Fits (Gather total first second) [] had → BothGot first second total had
both_got first second total [] fits = absurd (cc)
both_got first second total (d ∷ []) fits = absurd (let none = fits.1 in cc)
both_got first second total (d ∷ x ∷ y ∷ more) fits = absurd fits
both_got first second total (d ∷ x ∷ []) fits = by (nat_lt first second) refl
  where
    lower_port : d.slot.port ≡ lower first second
    lower_port = ap (λ (s : Slot). s.port) fits.0

    higher_port : x.slot.port ≡ higher first second
    higher_port = ap (λ (s : Slot). s.port) fits.1

    sums : ((z : Had) → Among z (d ∷ x ∷ []) → (z.slot.least ≤ length z.messages) × (length z.messages ≤ z.slot.most)) → length d.messages + length x.messages ≡ total
    sums enough =
        let a = enough d (inl refl) in let b = enough x (inr (inl refl)) in
        let most : d.slot.most ≡ total = ap (λ (s : Slot). s.most) fits.0 in
        let low : x.slot.least ≡ total - length d.messages = ap (λ (s : Slot). s.least) fits.1 in
        let high : x.slot.most ≡ total - length d.messages = ap (λ (s : Slot). s.most) fits.1 in
        omega (arith, a.1, b.0, b.1, most, low, high)

    which : (z : Had) → Among z (d ∷ x ∷ []) → (z.slot.port ≡ lower first second) ⊎ (z.slot.port ≡ higher first second)
    which z (inl e) = inl (ap (λ (y : Had). y.slot.port) e ∙ lower_port)
    which z (inr (inl e)) = inr (ap (λ (y : Had). y.slot.port) e ∙ higher_port)
    which z (inr (inr none)) = absurd none

    turned : {P Q : Type 0} → P ⊎ Q → Q ⊎ P
    turned (inl p) = inr p
    turned (inr q) = inl q

    by : (c : Bool) → nat_lt first second ≡ c → BothGot first second total (d ∷ x ∷ [])
    by true e =
        let l : lower first second ≡ first = rw e refl in let r : higher first second ≡ second = rw e refl in
        record { one = d; other = x; is_one = inl refl; is_other = inr (inl refl); one_port = lower_port ∙ l; other_port = higher_port ∙ r; one_any = ap (λ (s : Slot). s.pred) fits.0; other_any = ap (λ (s : Slot). s.pred) fits.1; sum = sums; alone = λ z is. rw e at (which z is) }
    by false e =
        let l : lower first second ≡ second = rw e refl in let r : higher first second ≡ first = rw e refl in
        record { one = x; other = d; is_one = inr (inl refl); is_other = inl refl; one_port = higher_port ∙ r; other_port = lower_port ∙ l; one_any = ap (λ (s : Slot). s.pred) fits.1; other_any = ap (λ (s : Slot). s.pred) fits.0; sum = λ enough. (let s = sums enough in omega (arith, s)); alone = λ z is. turned (rw e at (which z is)) }

-- what a firing takes, port by port
pub in_ports : (pattern : Pattern) (had : List Had) → in_pattern pattern had ≡ flat_map (had_at had) (ports_in pattern)
in_ports (Slots slots) had = by_slots slots
  where
    by_slots : (ss : List Slot) → in_slots ss had ≡ flat_map (had_at had) (map (λ (s : Slot). s.port) ss)
    by_slots [] = refl
    by_slots (s ∷ ss) = ap (λ rest. had_at had s.port ++ rest) (by_slots ss)
in_ports (Gather total first second) had = ap (λ rest. had_at had first ++ rest) (sym (append-nil (had_at had second)))

chosen_ports : (w : Parts) (h : List Event) (port : ℕ → PortState) (a : ℕ) (st : State) → AreNamed (posts h) → PortsMatch h port → ActorMatches w h port a st → has_task (fired h) (name_at a st) ≡ false → (pattern : Pattern) → IsEven pattern → Fits pattern [] (had_in st.phase) → is_selection_of (held h) pattern (names_of (flat_map (had_at (had_in st.phase)) (ports_in pattern))) ≡ true
chosen_ports w h port a st named match own fresh (Gather total first second) even fits = rw (front, back, append-nil got.other.messages) (and_from (length (names_of (got.one.messages ++ got.other.messages)) == total) _ count split)
  where
    got : BothGot first second total (had_in st.phase)
    got = both_got first second total (had_in st.phase) fits

    front : had_at (had_in st.phase) first ≡ got.one.messages
    front = ap (had_at (had_in st.phase)) (sym got.one_port) ∙ had_at-is w h port a st named match own fresh got.one got.is_one

    back : had_at (had_in st.phase) second ≡ got.other.messages
    back = ap (had_at (had_in st.phase)) (sym got.other_port) ∙ had_at-is w h port a st named match own fresh got.other got.is_other

    count : (length (names_of (got.one.messages ++ got.other.messages)) == total) ≡ true
    count = let s = got.sum own.had_enough in let l = length-append {A = Msg} got.one.messages got.other.messages in let m = length-map (got.one.messages ++ got.other.messages) (λ (x : Msg). x.id) in grind (arith, nat_tests, s, l, m)

    taken_first : (d : Had) → Among d (had_in st.phase) → d.slot.pred ≡ Any → (p : ℕ) → d.slot.port ≡ p → take (length d.messages) (held h p) ≡ d.messages
    taken_first d is any p at_p = ap (λ q. take (length d.messages) (held h q)) (sym at_p) ∙ ap (take (length d.messages)) (held_had w h port a st named match own fresh d is ∙ sym (all_fit d.slot.pred (port d.slot.port).items any)) ∙ own.had_marked d is

    split : are_split (held h first) (held h second) (names_of (got.one.messages ++ got.other.messages)) ≡ true
    split = subst (λ xs. are_split (held h first) (held h second) (names_of (xs ++ got.other.messages)) ≡ true) (taken_first got.one got.is_one got.one_any first got.one_port) (subst (λ ys. are_split (held h first) (held h second) (names_of (take (length got.one.messages) (held h first) ++ ys)) ≡ true) (taken_first got.other got.is_other got.other_any second got.other_port) (split_both (held h first) (held h second) (length got.one.messages) (length got.other.messages)))
chosen_ports w h port a st named match own fresh (Slots all) even fits = rw (selection_slots w h port a st named match own fresh all (λ slot is. (from_sorted slot (among_sorted all slot is), even slot is))) (same_lists-self same_message same_message-self (names_of (flat_map (had_at (had_in st.phase)) (ports_in (Slots all)))))
  where
    from_sorted : (slot : Slot) → Among slot (sort_slots all) → (d : Had) × Among d (had_in st.phase) × (d.slot ≡ slot)
    from_sorted slot is = Among-mapped slot_had (had_in st.phase) slot (subst (Among slot) (sym fits ∙ append-nil (map slot_had (had_in st.phase))) is)

pub chosen : (w : Parts) (h : List Event) (port : ℕ → PortState) (a : ℕ) (st : State) → AreNamed (posts h) → PortsMatch h port → ActorMatches w h port a st → has_task (fired h) (name_at a st) ≡ false → (pattern : Pattern) → IsEven pattern → Fits pattern [] (had_in st.phase) → is_selection_of (held h) pattern (names_of (in_pattern pattern (had_in st.phase))) ≡ true
chosen w h port a st named match own fresh pattern even fits = subst (λ ms. is_selection_of (held h) pattern (names_of ms) ≡ true) (sym (in_ports pattern (had_in st.phase))) (chosen_ports w h port a st named match own fresh pattern even fits)

pub whole_ports : (pattern : Pattern) → IsEven pattern → (had : List Had) → Fits pattern [] had → (d : Had) → Among d had → Among d.slot.port (ports_in pattern)
whole_ports (Gather total first second) even had fits d is = by ((both_got first second total had fits).alone d is)
  where
    by : (d.slot.port ≡ first) ⊎ (d.slot.port ≡ second) → Among d.slot.port (first ∷ second ∷ [])
    by (inl e) = inl e
    by (inr e) = inr (inl e)
whole_ports (Slots all) even had fits d is = Among-map (λ (s : Slot). s.port) all d.slot (sorted_among all d.slot (subst (Among d.slot) (sym (append-nil (map slot_had had)) ∙ fits) (Among-map slot_had had d is)))

pub fired_other : (h : List Event) (t u : TaskId) (s : Spot) (ms : List MsgId) (cs : List TaskId) → t.actor ≢ u.actor → has_task (fired (h ++ events.Fire t s ms cs ∷ [])) u ≡ has_task (fired h) u
fired_other h t u s ms cs other = rw (fired-fire h t s ms cs) (of_test (same_task u t) refl)
  where
    of_test : (b : Bool) → same_task u t ≡ b → has_task (fired h ++ t ∷ []) u ≡ has_task (fired h) u
    of_test true e = absurd (other (ap (λ (x : TaskId). x.actor) (sym (same_task-is u t e))))
    of_test false e = grind (arith, common_steps, e)

pub none_put : (hand : List Asked) → length (puts_in hand) ≤ 0 → (y : Asked) → Among y hand → put_in y.ask ≡ []
none_put [] few y is = absurd is
none_put (x ∷ hand) few y (inl e) = ap (λ (z : Asked). put_in z.ask) e ∙ front (put_in x.ask) (puts_in hand) few
  where
    front : (ts us : List TaskId) → length (ts ++ us) ≤ 0 → ts ≡ []
    front [] us le = refl
    front (t ∷ ts) us le = absurd (omega arith)
none_put (x ∷ hand) few y (inr is) = none_put hand (back (put_in x.ask) (puts_in hand) few) y is
  where
    back : (ts us : List TaskId) → length (ts ++ us) ≤ 0 → length us ≤ 0
    back [] us le = le
    back (t ∷ ts) us le = absurd (omega arith)
