-- The tests of names don't tell their sides apart.
use Rattle.std.proofs.Common.{◌≡◌, Bool, true, false, cond, ◌||◌, ◌+◌, ◌<◌, List, [], ◌∷◌, length, take, get_or, Some, refl, sym, ap, ◌∙◌}
use Rattle.std.specs.Prelude.{ℕ}
use Rattle.std.proofs.lemmas.List.{take_more}
use Rattle.std.proofs.lemmas.List.Folds.{list_any-append}
use Rattle.ccr_base.specs.declared.names.MsgId.{MsgId}
use Rattle.ccr_base.specs.declared.names.MsgId.TheVariants.{Script, Task}
use Rattle.std.specs.List.{list_any}
use Rattle.std.specs.Map.{lookup}
use Rattle.ccr_base.specs.contracts.names.MsgIdPartialEq.TheImpl.{ghosts as names}
use Rattle.ccr_base.specs.Names.{same_message, has_message}
use Rattle.ccr_base.proofs.Lists.{any_same}
use Rattle.ccr_base.proofs.SameNames.{same_message-sym}

-- whether a name stands among one name more
pub has_message-more : (names : List MsgId) (i : ℕ) (d name : MsgId) → i < length names → has_message (take (i + 1) names) name ≡ cond (same_message (get_or names i d) name) true (has_message (take i names) name)
has_message-more names i d name l = rw (take_more names i d l, list_any-append (same_message name) (take i names) (get_or names i d ∷ [])) (of_test (same_message (get_or names i d) name) (same_message name (get_or names i d)) (has_message (take i names) name) (same_message-sym name (get_or names i d)))
  where
    of_test : (a b rest : Bool) → b ≡ a → (rest || (b || false)) ≡ cond a true rest
    of_test true true true e = refl
    of_test true true false e = refl
    of_test false false true e = refl
    of_test false false false e = refl
    of_test true false rest e = cc
    of_test false true rest e = cc

-- the derived comparison of messages is the test of their names
pub derived_message : (a b : MsgId) → names.eq a b ≡ same_message a b
derived_message (Script a k) (Script b l) = refl
derived_message (Script a k) (Task t j) = refl
derived_message (Task s i) (Script b l) = refl
derived_message (Task s i) (Task t j) = refl

-- a set after one name more
pub message_inserted : (old new : List MsgId) (key name : MsgId) → list_any (names.eq name) new ≡ cond (names.eq key name) true (list_any (names.eq name) old) → list_any (same_message name) new ≡ cond (same_message key name) true (list_any (same_message name) old)
message_inserted old new key name updates =
    sym (any_same (names.eq name) (same_message name) new (derived_message name))
    ∙ updates
    ∙ ap (λ (b : Bool). cond b true (list_any (names.eq name) old)) (derived_message key name)
    ∙ ap (λ (b : Bool). cond (same_message key name) true b) (any_same (names.eq name) (same_message name) old (derived_message name))

pub lookup_same : {K X : Type 0} (p q : K → Bool) → ((x : K) → p x ≡ q x) → (entries : List (K × X)) → lookup p entries ≡ lookup q entries
lookup_same p q same [] = refl
lookup_same p q same (entry ∷ entries) = rw (same entry.0) (ap (λ o. cond (q entry.0) (Some entry.1) o) (lookup_same p q same entries))
