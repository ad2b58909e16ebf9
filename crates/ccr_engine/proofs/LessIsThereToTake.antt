-- What there is to take after an event that posts to no port of a spot was there before.
use Rattle.std.proofs.Common.{◌≡◌, ℕ, ◌≤◌, Bool, true, false, not, List, [], ◌∷◌, ◌++◌, length, filter, refl, sym, arith, subst}
use Rattle.std.specs.Prelude.{nat_lt, ◌||◌}
use Rattle.std.specs.List.{list_any, list_all}
use Rattle.std.proofs.lemmas.Grind.{common_steps}
use Rattle.std.proofs.lemmas.Bool.Decides.{nat_tests}
use Rattle.ccr_base.specs.declared.messages.Msg.{Msg}
use Rattle.ccr_base.specs.declared.patterns.Pred.{Pred}
use Rattle.ccr_base.specs.declared.patterns.Slot.{Slot}
use Rattle.ccr_base.specs.declared.patterns.Pattern.{Pattern}
use Rattle.ccr_base.specs.declared.patterns.Pattern.TheVariants.{Slots, Gather}
use Rattle.ccr_base.specs.Names.{has_message}
use Rattle.ccr_base.specs.Selection.{is_choosable, fitting, holds}
use Rattle.ccr_wiring.specs.Repeats.{slot_ports}
use Rattle.ccr_wiring.specs.Spots.{pattern_ports}
use Rattle.ccr_model.specs.declared.history.Event.{Event}
use Rattle.ccr_model.specs.declared.history.Event.TheVariants.{Post, Fire, Admit, Put, Start, End}
use Rattle.ccr_model.specs.Posts.{held}
use Rattle.ccr_model.specs.Enough.{has_enough}
use Rattle.ccr_model.proofs.HeldSteps.{held-fire, held-admit, held-put, held-start, held-end}
use Rattle.ccr_base.proofs.Filters.{length-kept, filter_swap}
use Rattle.ccr_base.proofs.Booleans.{both, neither, eq_turned}
use Rattle.ccr_engine.specs.Touched.{posts_to}

-- the second list holds as many of each predicate, and in all
pub record IsLess (less more : List Msg) : Type 0 where
  pub by_pred : (p : Pred) → length (fitting p less) ≤ length (fitting p more)
  pub in_all : length less ≤ length more

less-same : (a b : List Msg) → a ≡ b → IsLess a b
less-same a b same = record { by_pred = λ p. rw same (omega arith); in_all = rw same (omega arith) }

less-kept : (test : Msg → Bool) (a b : List Msg) → a ≡ filter test b → IsLess a b
less-kept test a b is = record {
  by_pred = λ p. subst (λ xs. length (fitting p xs) ≤ length (fitting p b)) (sym is) (rw (filter_swap (λ (m : Msg). holds p m.value) test b) (length-kept test (fitting p b)));
  in_all = rw is (length-kept test b);
}

-- a port that the event does not post to held as many before
pub less_before : (h : List Event) (e : Event) (port : ℕ) → posts_to e port ≡ false → IsLess (held (h ++ e ∷ []) port) (held h port)
less_before h (Post m) port none = let other = eq_turned port m.port none in less-same (held (h ++ Post m ∷ []) port) (held h port) (grind (arith, common_steps, other))
less_before h (Fire t s ms cs) port none = less-kept (λ m. not (has_message ms m.id)) (held (h ++ Fire t s ms cs ∷ []) port) (held h port) (held-fire h t s ms cs port)
less_before h (Admit t) port none = less-same (held (h ++ Admit t ∷ []) port) (held h port) (held-admit h t port)
less_before h (Put t d) port none = less-same (held (h ++ Put t d ∷ []) port) (held h port) (held-put h t d port)
less_before h (Start t a) port none = less-same (held (h ++ Start t a ∷ []) port) (held h port) (held-start h t a port)
less_before h (End t how) port none = less-same (held (h ++ End t how ∷ []) port) (held h port) (held-end h t how port)

choosable_before : (slot : Slot) (a b : List Msg) → IsLess a b → is_choosable slot a ≡ true → is_choosable slot b ≡ true
choosable_before slot a b less is = let few = less.by_pred slot.pred in grind (arith, nat_tests, few, is)

pub some_before : (a b : List Msg) → IsLess a b → nat_lt 0 (length a) ≡ true → nat_lt 0 (length b) ≡ true
some_before a b less is = let few = less.in_all in grind (arith, nat_tests, few, is)

slots_before : (g f : ℕ → List Msg) (test : ℕ → Bool) (slots : List Slot) → ((p : ℕ) → test p ≡ false → IsLess (g p) (f p)) → list_any test (slot_ports slots) ≡ false
    → list_all (λ (slot : Slot). is_choosable slot (g slot.port)) slots ≡ true → list_all (λ (slot : Slot). is_choosable slot (f slot.port)) slots ≡ true
slots_before g f test [] less none is = refl
slots_before g f test (s ∷ slots) less none is =
    let outs = neither (test s.port) (list_any test (slot_ports slots)) none in
    let parts = both (is_choosable s (g s.port)) (list_all (λ (slot : Slot). is_choosable slot (g slot.port)) slots) is in
    let here = choosable_before s (g s.port) (f s.port) (less s.port outs.0) parts.0 in
    rw here (slots_before g f test slots less outs.1 parts.1)

pub enough_before : (g f : ℕ → List Msg) (test : ℕ → Bool) (p : Pattern) → ((p : ℕ) → test p ≡ false → IsLess (g p) (f p)) → list_any test (pattern_ports p) ≡ false → has_enough g p ≡ true → has_enough f p ≡ true
enough_before g f test (Slots slots) less none is = slots_before g f test slots less none is
enough_before g f test (Gather total p q) less none is =
    let outs = neither (test p) (test q || false) none in
    let one = (less p outs.0).in_all in
    let two = (less q (neither (test q) false outs.1).0).in_all in
    grind (arith, nat_tests, one, two, is)
