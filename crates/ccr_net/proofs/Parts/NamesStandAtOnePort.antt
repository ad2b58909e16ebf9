-- One name stands at one port.
use Rattle.std.proofs.Common.{◌⊎◌, inl, inr, ◌≡◌, ◌≤◌, ℕ, zero, suc, Bool, true, false, not, ◌&&◌, ◌||◌, List, [], ◌∷◌, filter, refl, sym, arith, ◌∙◌}
use Rattle.std.specs.Prelude.{◌==◌, if◌then◌else◌}
use Rattle.std.proofs.lemmas.Grind.{common_steps}
use Rattle.std.proofs.lemmas.Bool.Decides.{nat_tests}
use Rattle.ccr_base.specs.declared.names.MsgId.{MsgId}
use Rattle.ccr_base.specs.declared.messages.Msg.{Msg}
use Rattle.ccr_base.specs.Names.{same_message, has_message}
use Rattle.ccr_model.specs.declared.history.Event.{Event}
use Rattle.ccr_model.specs.Posts.{posts, held, posted, taken}
use Rattle.ccr_model.proofs.PostNames.{times, AreNamed, place_of, sent_by}
use Rattle.ccr_model.proofs.MessageNames.{not_named}
use Rattle.ccr_base.proofs.SameNames.{same_message-sym}
use Rattle.ccr_net.proofs.Parts.PostsKeepMarks.{has_name, has_name-filter}

-- whether a message of the name was posted to the port
abbrev pub at_port : List Msg → ℕ → MsgId → Bool
at_port ms p name = has_name (filter (λ (m : Msg). m.port == p) ms) name

at_port-cons : (m : Msg) (ms : List Msg) (p : ℕ) (name : MsgId) → at_port (m ∷ ms) p name ≡ ((m.port == p) && same_message name m.id) || at_port ms p name
at_port-cons m ms p name = of_test (m.port == p)
  where
    of_test : (b : Bool) → has_name (if b then m ∷ filter (λ (x : Msg). x.port == p) ms else filter (λ (x : Msg). x.port == p) ms) name ≡ (b && same_message name m.id) || at_port ms p name
    of_test true = grind (arith, common_steps)
    of_test false = refl

some_port : (b c d : Bool) → (b && c) || d ≡ true → (b ≡ true) ⊎ (d ≡ true)
some_port true c d is = inl refl
some_port false c d is = inr is

at_most : (ms : List Msg) (p : ℕ) (name : MsgId) → at_port ms p name ≡ true → 1 ≤ times name ms
at_most [] p name is = absurd (cc)
at_most (m ∷ ms) p name is = of_test (same_message m.id name) refl (sym (at_port-cons m ms p name) ∙ is) (at_most ms p name)
  where
    of_test : (b : Bool) → same_message m.id name ≡ b → ((m.port == p) && same_message name m.id) || at_port ms p name ≡ true → (at_port ms p name ≡ true → 1 ≤ times name ms) → 1 ≤ times name (m ∷ ms)
    of_test true e now rest = grind (arith, e)
    of_test false e now rest =
        let back : same_message name m.id ≡ false = same_message-sym name m.id ∙ e in
        let old : at_port ms p name ≡ true = of_and (m.port == p) (same_message name m.id) back now in
        let low = rest old in grind (arith, e, low)
      where
        of_and : (b c : Bool) → c ≡ false → (b && c) || at_port ms p name ≡ true → at_port ms p name ≡ true
        of_and b true out is = absurd (cc)
        of_and true false out is = is
        of_and false false out is = is

pub one_port : (ms : List Msg) (p q : ℕ) (name : MsgId) → times name ms ≤ 1 → at_port ms p name ≡ true → at_port ms q name ≡ true → p ≡ q
one_port [] p q name once at_p at_q = absurd (cc)
one_port (m ∷ ms) p q name once at_p at_q = of_test (same_message m.id name) refl (sym (at_port-cons m ms p name) ∙ at_p) (sym (at_port-cons m ms q name) ∙ at_q) (one_port ms p q name)
  where
    of_test : (b : Bool) → same_message m.id name ≡ b → ((m.port == p) && same_message name m.id) || at_port ms p name ≡ true → ((m.port == q) && same_message name m.id) || at_port ms q name ≡ true → (times name ms ≤ 1 → at_port ms p name ≡ true → at_port ms q name ≡ true → p ≡ q) → p ≡ q
    of_test true e now_p now_q rest =
        let few : times name ms ≡ 0 = grind (arith, e, once) in
        let is_p : m.port ≡ p = here p few now_p in
        let is_q : m.port ≡ q = here q few now_q in
        sym is_p ∙ is_q
      where
        here : (r : ℕ) → times name ms ≡ 0 → ((m.port == r) && same_message name m.id) || at_port ms r name ≡ true → m.port ≡ r
        here r few now = of_some (some_port (m.port == r) (same_message name m.id) (at_port ms r name) now)
          where
            of_some : ((m.port == r) ≡ true) ⊎ (at_port ms r name ≡ true) → m.port ≡ r
            of_some (inl is) = grind (arith, nat_tests, is)
            of_some (inr old) = let low = at_most ms r name old in absurd (omega (arith, low, few))
    of_test false e now_p now_q rest =
        let back : same_message name m.id ≡ false = same_message-sym name m.id ∙ e in
        rest (grind (arith, e, once)) (of_and (m.port == p) (same_message name m.id) (at_port ms p name) back now_p) (of_and (m.port == q) (same_message name m.id) (at_port ms q name) back now_q)
      where
        of_and : (b c d : Bool) → c ≡ false → (b && c) || d ≡ true → d ≡ true
        of_and b true d out is = absurd (cc)
        of_and true false d out is = is
        of_and false false d out is = is

-- what is held at one port has no name that is held at another
pub held_apart : (h : List Event) (p q : ℕ) (name : MsgId) → AreNamed (posts h) → has_name (held h p) name ≡ true → has_name (held h q) name ≡ true → p ≡ q
held_apart h p q name named at_p at_q = one_port (posts h) p q name (named.once name) (has_name-filter _ (posted h p) name at_p) (has_name-filter _ (posted h q) name at_q)

-- what is held was posted
pub held_posted : (h : List Event) (p : ℕ) (name : MsgId) → has_name (held h p) name ≡ true → has_name (posts h) name ≡ true
held_posted h p name is = has_name-filter (λ (m : Msg). m.port == p) (posts h) name (has_name-filter (λ (m : Msg). not (has_message (taken h) m.id)) (posted h p) name is)

-- a post of the next name is new
pub post_fresh : (ms : List Msg) (name : MsgId) → AreNamed ms → place_of name ≡ sent_by name ms → has_name ms name ≡ false
post_fresh ms name named next = by (times name ms) refl
  where
    by : (n : ℕ) → times name ms ≡ n → has_name ms name ≡ false
    by zero none = not_named name ms none
    by (suc n) some = let below = named.below name (omega (arith, some)) in absurd (omega (arith, below, next))
