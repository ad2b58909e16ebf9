-- The messages of a port by their keys: which satisfy a predicate, and what is left without them.
use Rattle.std.proofs.Common.{◌≡◌, ℕ, zero, suc, ◌-◌, ◌<◌, ◌≤◌, Bool, true, false, not, ◌==◌, ◌&&◌, ◌||◌, List, [], ◌∷◌, ◌++◌, length, take, Some, None, refl, sym, ap, ◌∙◌, arith, option_to_list, drop}
use Rattle.std.specs.Prelude.{if◌then◌else◌, nat_lt}
use Rattle.std.specs.List.{slice_get}
use Rattle.std.proofs.Math.ListN.{get_or}
use Rattle.std.proofs.lemmas.Bool.Decides.{nat_tests}
use Rattle.std.proofs.Math.Bool.{or-true}
use Rattle.std.proofs.lemmas.Option.{same_Some}
use Rattle.ccr_base.specs.declared.messages.Msg.{Msg}
use Rattle.ccr_base.specs.declared.patterns.Pred.{Pred}
use Rattle.ccr_base.specs.Selection.{holds, fitting}
use Rattle.ccr_base.proofs.Booleans.{eq_turned, not_true, eq-self, same_number}
use Rattle.ccr_base.specs.Lists.{are_apart}
use Rattle.ccr_base.proofs.Lists.{take_none, any_parts}
use Rattle.ccr_base.proofs.Options.{none-above}
use Rattle.ccr_places.specs.Ports.{without_first}
use Rattle.ccr_base.proofs.FirstFitting.{without_first-none}
use Rattle.ccr_port.specs.Chains.{has_key}
use Rattle.ccr_port.specs.Entries.{keys_of, messages_of, message_under, messages_under, are_under, without_entry, without_entries, can_take}
use Rattle.ccr_port.specs.Lanes.{fitting_keys}
use Rattle.ccr_port.proofs.Chains.{both, neither}
use Rattle.std.proofs.lemmas.List.{take-append-drop}

-- ---- one more message

module _ (key : ℕ) (message : Msg) where
  pub messages-more : (es : List (ℕ × Msg)) → messages_of (es ++ (key, message) ∷ []) ≡ messages_of es ++ message ∷ []
  messages-more [] = refl
  messages-more (e ∷ es) = ap (λ l. e.1 ∷ l) (messages-more es)

  pub without-more : (es : List (ℕ × Msg)) → has_key key (keys_of es) ≡ false → without_entry key (es ++ (key, message) ∷ []) ≡ es
  without-more [] out = ap (λ b. if b then [] else (key, message) ∷ []) (eq-self key)
  without-more (e ∷ es) out =
      let parts = neither _ _ out in
      ap (λ b. if b then es ++ (key, message) ∷ [] else e ∷ without_entry key (es ++ (key, message) ∷ [])) parts.0 ∙ ap (λ l. e ∷ l) (without-more es parts.1)

  pub has-more : (es : List (ℕ × Msg)) → has_key key (keys_of (es ++ (key, message) ∷ [])) ≡ true
  has-more [] = ap (λ b. b || false) (eq-self key)
  has-more (e ∷ es) = ap (λ b. (e.0 == key) || b) (has-more es) ∙ or-true (e.0 == key)

  pub under-more : (es : List (ℕ × Msg)) → has_key key (keys_of es) ≡ false → message_under key (es ++ (key, message) ∷ []) ≡ Some message
  under-more [] out = ap (λ b. if b then Some message else None) (eq-self key)
  under-more (e ∷ es) out =
      let parts = neither _ _ out in
      ap (λ b. if b then Some e.1 else message_under key (es ++ (key, message) ∷ [])) parts.0 ∙ under-more es parts.1

  pub fitting_keys-more : (pred : Pred) (es : List (ℕ × Msg)) → fitting_keys pred (es ++ (key, message) ∷ []) ≡ (if holds pred message.value then fitting_keys pred es ++ key ∷ [] else fitting_keys pred es)
  fitting_keys-more pred [] = refl
  fitting_keys-more pred (e ∷ es) = of_tests (holds pred e.1.value) (holds pred message.value) (fitting_keys-more pred es)
    where
      of_tests : (b c : Bool) → fitting_keys pred (es ++ (key, message) ∷ []) ≡ (if c then fitting_keys pred es ++ key ∷ [] else fitting_keys pred es)
          → (if b then e.0 ∷ fitting_keys pred (es ++ (key, message) ∷ []) else fitting_keys pred (es ++ (key, message) ∷ [])) ≡ (if c then (if b then e.0 ∷ fitting_keys pred es else fitting_keys pred es) ++ key ∷ [] else (if b then e.0 ∷ fitting_keys pred es else fitting_keys pred es))
      of_tests true true rest = ap (λ l. e.0 ∷ l) rest
      of_tests true false rest = ap (λ l. e.0 ∷ l) rest
      of_tests false true rest = rest
      of_tests false false rest = rest

-- ---- the keys of those that satisfy a predicate

module _ (pred : Pred) where
  pub fits-absent : (key : ℕ) (es : List (ℕ × Msg)) → has_key key (keys_of es) ≡ false → has_key key (fitting_keys pred es) ≡ false
  fits-absent key [] out = refl
  fits-absent key (e ∷ es) out = of_test (holds pred e.1.value) (fits-absent key es (neither _ _ out).1)
    where
      of_test : (b : Bool) → has_key key (fitting_keys pred es) ≡ false → has_key key (if b then e.0 ∷ fitting_keys pred es else fitting_keys pred es) ≡ false
      of_test true rest = ap (λ b. b || has_key key (fitting_keys pred es)) (neither _ _ out).0 ∙ rest
      of_test false rest = rest

  pub length-fitting_keys : (es : List (ℕ × Msg)) → length (fitting_keys pred es) ≡ length (fitting pred (messages_of es))
  length-fitting_keys [] = refl
  length-fitting_keys (e ∷ es) = of_test (holds pred e.1.value) (length-fitting_keys es)
    where
      of_test : (b : Bool) → length (fitting_keys pred es) ≡ length (fitting pred (messages_of es)) → length (if b then e.0 ∷ fitting_keys pred es else fitting_keys pred es) ≡ length (if b then e.1 ∷ fitting pred (messages_of es) else fitting pred (messages_of es))
      of_test true rest = ap suc rest
      of_test false rest = rest

  pub few-fitting_keys : (es : List (ℕ × Msg)) → length (fitting_keys pred es) ≤ length es
  few-fitting_keys [] = omega arith
  few-fitting_keys (e ∷ es) = of_test (holds pred e.1.value) (few-fitting_keys es)
    where
      of_test : (b : Bool) → length (fitting_keys pred es) ≤ length es → length (if b then e.0 ∷ fitting_keys pred es else fitting_keys pred es) ≤ suc (length es)
      of_test true rest = omega arith
      of_test false rest = omega arith

has-take : (key n : ℕ) (ks : List ℕ) → has_key key ks ≡ false → has_key key (take n ks) ≡ false
has-take key n ks out = (any_parts (λ k. k == key) (take n ks) (drop n ks) (ap (has_key key) (take-append-drop n ks) ∙ out)).0

-- ---- a message whose key is none of these

module _ (e : ℕ × Msg) where
  under-off : (es : List (ℕ × Msg)) (ks : List ℕ) → has_key e.0 ks ≡ false → messages_under ks (e ∷ es) ≡ messages_under ks es
  under-off es [] out = refl
  under-off es (k ∷ ks) out =
      let parts = neither _ _ out in
      ap (λ b. option_to_list (if b then Some e.1 else message_under k es) ++ messages_under ks (e ∷ es)) (eq_turned k e.0 parts.0)
      ∙ ap (λ l. option_to_list (message_under k es) ++ l) (under-off es ks parts.1)

  are_under-off : (es : List (ℕ × Msg)) (ks : List ℕ) → has_key e.0 ks ≡ false → are_under ks (e ∷ es) ≡ are_under ks es
  are_under-off es [] out = refl
  are_under-off es (k ∷ ks) out =
      let parts = neither _ _ out in
      ap (λ b. (b || has_key k (keys_of es)) && are_under ks (e ∷ es)) (eq_turned k e.0 parts.0)
      ∙ ap (λ b. has_key k (keys_of es) && b) (are_under-off es ks parts.1)

  can_take-off : (es : List (ℕ × Msg)) (ks : List ℕ) → has_key e.0 ks ≡ false → can_take ks (e ∷ es) ≡ can_take ks es
  can_take-off es [] out = refl
  can_take-off es (k ∷ ks) out =
      let parts = neither _ _ out in
      ap (λ b. (b || has_key k (keys_of es)) && can_take ks (if b then es else e ∷ without_entry k es)) (eq_turned k e.0 parts.0)
      ∙ ap (λ b. has_key k (keys_of es) && b) (can_take-off (without_entry k es) ks parts.1)

  without-off : (es : List (ℕ × Msg)) (ks : List ℕ) → has_key e.0 ks ≡ false → without_entries ks (e ∷ es) ≡ e ∷ without_entries ks es
  without-off es [] out = refl
  without-off es (k ∷ ks) out =
      let parts = neither _ _ out in
      ap (λ b. without_entries ks (if b then es else e ∷ without_entry k es)) (eq_turned k e.0 parts.0)
      ∙ without-off (without_entry k es) ks parts.1

-- ---- the selection, by its keys

-- what the keys of the first messages that satisfy a predicate tell
pub record IsSelection (pred : Pred) (n : ℕ) (es : List (ℕ × Msg)) : Type 0 where
  pub there : are_under (take n (fitting_keys pred es)) es ≡ true
  pub messages : messages_under (take n (fitting_keys pred es)) es ≡ take n (fitting pred (messages_of es))
  pub can_go : can_take (take n (fitting_keys pred es)) es ≡ true
  pub rest : messages_of (without_entries (take n (fitting_keys pred es)) es) ≡ without_first n pred (messages_of es)

none_chosen : (pred : Pred) (es : List (ℕ × Msg)) → IsSelection pred 0 es
none_chosen pred es =
    let none = take_none (fitting_keys pred es) in
    record {
      there = ap (λ ks. are_under ks es) none;
      messages = ap (λ ks. messages_under ks es) none ∙ sym (take_none (fitting pred (messages_of es)));
      can_go = ap (λ ks. can_take ks es) none;
      rest = ap (λ ks. messages_of (without_entries ks es)) none ∙ sym (without_first-none pred (messages_of es));
    }

pub is_selection : (pred : Pred) (n : ℕ) (es : List (ℕ × Msg)) → are_apart (keys_of es) ≡ true → IsSelection pred n es
is_selection pred zero es apart = none_chosen pred es
is_selection pred (suc n) [] apart = record { there = refl; messages = refl; can_go = refl; rest = refl }
is_selection pred (suc n) (e ∷ es) apart = of_test (holds pred e.1.value) refl (is_selection pred n es parts.1) (is_selection pred (suc n) es parts.1)
  where
    parts : (not (has_key e.0 (keys_of es)) ≡ true) × (are_apart (keys_of es) ≡ true)
    parts = both _ _ apart

    out : (m : ℕ) → has_key e.0 (take m (fitting_keys pred es)) ≡ false
    out m = has-take e.0 m (fitting_keys pred es) (fits-absent pred e.0 es (not_true _ parts.0))

    of_test : (b : Bool) → holds pred e.1.value ≡ b → IsSelection pred n es → IsSelection pred (suc n) es → IsSelection pred (suc n) (e ∷ es)
    of_test true is fewer same = record {
      there = rw (is, eq-self e.0) (are_under-off e es _ (out n) ∙ fewer.there);
      messages = rw (is, eq-self e.0) (ap (λ l. e.1 ∷ l) (under-off e es _ (out n) ∙ fewer.messages));
      can_go = rw (is, eq-self e.0) fewer.can_go;
      rest = rw (is, eq-self e.0) (fewer.rest ∙ one_less);
    }
      where
        one_less : without_first n pred (messages_of es) ≡ (if true && nat_lt 0 (suc n) then without_first (suc n - 1) pred (messages_of es) else e.1 ∷ without_first (suc n) pred (messages_of es))
        one_less = let less : suc n - 1 ≡ n = omega arith in let more : nat_lt 0 (suc n) ≡ true = grind (arith, nat_tests) in rw (less, more) refl
    of_test false is fewer same = record {
      there = rw is (are_under-off e es _ (out (suc n)) ∙ same.there);
      messages = rw is (under-off e es _ (out (suc n)) ∙ same.messages);
      can_go = rw is (can_take-off e es _ (out (suc n)) ∙ same.can_go);
      rest = rw is (ap messages_of (without-off e es _ (out (suc n))) ∙ ap (λ l. e.1 ∷ l) same.rest);
    }

-- ---- the message at an index

-- the message at the index, whose key is this
pub record Stands (es : List (ℕ × Msg)) (index key : ℕ) : Type 0 where
  pub message : Msg
  pub front : take (suc index) es ≡ take index es ++ (key, message) ∷ []
  pub at : slice_get (messages_of es) index ≡ Some message
  pub has : has_key key (keys_of es) ≡ true
  pub under : are_apart (keys_of es) ≡ true → message_under key es ≡ Some message
  pub before : are_apart (keys_of es) ≡ true → has_key key (keys_of (take index es)) ≡ false

pub stands : (es : List (ℕ × Msg)) (index key : ℕ) → slice_get (keys_of es) index ≡ Some key → Stands es index key
stands [] index key is = absurd (cc)
stands (e ∷ es) zero key is = from_key (same_Some _ _ is)
  where
    take_none : take 0 (e ∷ es) ≡ []
    take_none = refl

    one : (xs : List (ℕ × Msg)) → take 1 (e ∷ xs) ≡ e ∷ []
    one [] = refl
    one (x ∷ xs) = refl

    from_key : e.0 ≡ key → Stands (e ∷ es) zero key
    from_key same = record {
      message = e.1;
      front = one es ∙ ap (λ n. (n, e.1) ∷ []) same;
      at = refl;
      has = ap (λ b. b || has_key key (keys_of es)) (ap (λ n. n == key) same ∙ eq-self key);
      under = λ apart. ap (λ b. if b then Some e.1 else message_under key es) (ap (λ n. n == key) same ∙ eq-self key);
      before = λ apart. refl;
    }
stands (e ∷ es) (suc index) key is = later (stands es index key is)
  where
    later : Stands es index key → Stands (e ∷ es) (suc index) key
    later rest = record {
      message = rest.message;
      front = ap (λ l. e ∷ l) rest.front;
      at = rest.at;
      has = ap (λ b. (e.0 == key) || b) rest.has ∙ or-true (e.0 == key);
      under = λ apart. ap (λ b. if b then Some e.1 else message_under key es) (other apart) ∙ rest.under (tails apart);
      before = λ apart. ap (λ b. b || has_key key (keys_of (take index es))) (other apart) ∙ rest.before (tails apart);
    }
      where
        tails : are_apart (keys_of (e ∷ es)) ≡ true → are_apart (keys_of es) ≡ true
        tails apart = (both (not (has_key e.0 (keys_of es))) (are_apart (keys_of es)) apart).1

        other : are_apart (keys_of (e ∷ es)) ≡ true → (e.0 == key) ≡ false
        other apart = of_test (e.0 == key) refl
          where
            of_test : (b : Bool) → (e.0 == key) ≡ b → b ≡ false
            of_test true same = let here : has_key e.0 (keys_of es) ≡ true = ap (λ n. has_key n (keys_of es)) (same_number e.0 key same) ∙ rest.has in let gone : has_key e.0 (keys_of es) ≡ false = not_true (has_key e.0 (keys_of es)) (both (not (has_key e.0 (keys_of es))) (are_apart (keys_of es)) apart).0 in cc
            of_test false same = refl

pub keys-long : (es : List (ℕ × Msg)) → length (keys_of es) ≡ length es
keys-long [] = refl
keys-long (e ∷ es) = ap suc (keys-long es)

pub some_at : (ks : List ℕ) (index : ℕ) → index < length ks → slice_get ks index ≡ None → ⊥
some_at ks index low none = omega (arith, low, none-above ks index none)

pub has-at : (ks : List ℕ) (index key : ℕ) → slice_get ks index ≡ Some key → has_key key ks ≡ true
has-at [] index key is = absurd (cc)
has-at (k ∷ ks) zero key is = let same : k ≡ key = cc in ap (λ b. b || has_key key ks) (ap (λ n. n == key) same ∙ eq-self key)
has-at (k ∷ ks) (suc index) key is = ap (λ b. (k == key) || b) (has-at ks index key is) ∙ or-true (k == key)

pub under-at : (ks : List ℕ) (es : List (ℕ × Msg)) (index key : ℕ) → are_under ks es ≡ true → index < length ks → key ≡ get_or ks index 0 → has_key key (keys_of es) ≡ true
under-at [] es index key under low is = absurd (omega arith)
under-at (k ∷ ks) es zero key under low is = rw is (both _ _ under).0
under-at (k ∷ ks) es (suc index) key under low is = under-at ks es index key (both _ _ under).1 (omega arith) is

pub none_past : (es : List (ℕ × Msg)) (index : ℕ) → length es ≤ index → None ≡ slice_get (messages_of es) index
none_past [] index past = refl
none_past (e ∷ es) zero past = absurd (omega arith)
none_past (e ∷ es) (suc index) past = none_past es index (omega arith)
