-- Taking the oldest messages that a slot, a gather or a site takes is taking those of the names that were chosen.
use Rattle.std.proofs.Common.{◌≡◌, ℕ, zero, suc, ◌+◌, ◌-◌, ◌≤◌, Bool, true, false, not, ◌&&◌, ◌||◌, List, [], ◌∷◌, ◌++◌, length, take, drop, refl, sym, ap, ◌∙◌, arith}
use Rattle.std.specs.Prelude.{if◌then◌else◌}
use Rattle.ccr_base.specs.declared.names.MsgId.{MsgId}
use Rattle.ccr_base.specs.declared.messages.Msg.{Msg}
use Rattle.ccr_base.specs.declared.patterns.Pred.{Pred}
use Rattle.ccr_base.specs.declared.patterns.Pred.TheVariants.{Any}
use Rattle.ccr_base.specs.Selection.{holds, fitting, without_first as without_so_many}
use Rattle.ccr_base.specs.Names.{same_message, has_message}
use Rattle.ccr_ledger.specs.Taken.{without_first, without_some, shared}
use Rattle.ccr_ledger.proofs.Taking.{without-any}
use Rattle.ccr_model.specs.Selection.{names_of, are_first, are_split}
use Rattle.ccr_model.proofs.PostNames.{times}
use Rattle.ccr_model.proofs.TakenOnce.{times-filter}
use Rattle.ccr_base.proofs.SameNames.{same_message-self, same_message-is}
use Rattle.ccr_base.proofs.Booleans.{or_none}
use Rattle.ccr_base.proofs.FirstFitting.{without_first-none, step-some}
use Rattle.ccr_model.proofs.MessageNames.{any_fits, left_by, AreApart, none_left, skipped, first-named}
use Rattle.ccr_model.proofs.FirstNames.{first-names}

pub times-left : (name : MsgId) (names : List MsgId) (ms : List Msg) → times name (left_by names ms) ≤ times name ms
times-left name names ms = times-filter name (λ (m : Msg). not (has_message names m.id)) ms

-- names of messages that stand apart from others take none of those
pub apart_left : (xs ms : List Msg) → ((name : MsgId) → times name xs + times name ms ≤ 1) → left_by (names_of xs) ms ≡ ms
apart_left [] ms apart = none_left ms
apart_left (x ∷ xs) ms apart =
    let none : times x.id ms ≡ 0 = grind (arith, apart x.id, same_message-self x.id) in
    skipped x.id (names_of xs) ms none ∙ apart_left xs ms (λ name. grind (arith, apart name))

some_of_none : (n : ℕ) (pred : Pred) → without_some n pred [] ≡ []
some_of_none zero pred = refl
some_of_none (suc n) pred = some_of_none n pred

some_behind : (n : ℕ) (pred : Pred) (m : Msg) (ms : List Msg) → holds pred m.value ≡ false → without_some n pred (m ∷ ms) ≡ m ∷ without_some n pred ms
some_behind zero pred m ms out = refl
some_behind (suc n) pred m ms out = rw out (some_behind n pred m (without_first pred ms) out)

-- taking the oldest so often is taking so many
some_is : (n : ℕ) (pred : Pred) (ms : List Msg) → without_some n pred ms ≡ without_so_many n pred ms
some_is n pred [] = some_of_none n pred
some_is n pred (m ∷ ms) = of_test (holds pred m.value) refl n (λ k. some_is k pred ms)
  where
    of_test : (b : Bool) → holds pred m.value ≡ b → (n : ℕ) → ((k : ℕ) → without_some k pred ms ≡ without_so_many k pred ms) → without_some n pred (m ∷ ms) ≡ without_so_many n pred (m ∷ ms)
    of_test false out n rest =
        let last : m ∷ without_so_many n pred ms ≡ without_so_many n pred (m ∷ ms) = rw out refl in
        some_behind n pred m ms out ∙ (ap (λ (l : List Msg). m ∷ l) (rest n) ∙ last)
    of_test true fits zero rest = sym (without_first-none pred (m ∷ ms))
    of_test true fits (suc n) rest =
        let first : without_first pred (m ∷ ms) ≡ ms = rw fits refl in
        let same : without_so_many n pred ms ≡ (if holds pred m.value then without_so_many n pred ms else m ∷ without_so_many (suc n) pred ms) = rw fits refl in
        ap (without_some n pred) first ∙ (rest n ∙ (same ∙ sym (step-some n pred m ms)))

-- taking so many of the oldest that satisfy the predicate is taking those of their names
pub some-named : (n : ℕ) (pred : Pred) (ms : List Msg) → AreApart ms → without_some n pred ms ≡ left_by (names_of (take n (fitting pred ms))) ms
some-named n pred ms apart = some_is n pred ms ∙ first-named n pred ms apart

-- and of all the oldest
pub oldest-named : (n : ℕ) (ms : List Msg) → AreApart ms → drop n ms ≡ left_by (names_of (take n ms)) ms
oldest-named n ms apart = sym (without-any n ms) ∙ (some-named n Any ms apart ∙ ap (λ fs. left_by (names_of (take n fs)) ms) (any_fits ms))

all-names : (ms : List Msg) (names : List MsgId) → are_first ms names ≡ true → names ≡ names_of (take (length names - 0) ms)
all-names ms names is = let all : length names - 0 ≡ length names = omega arith in rw all (first-names ms names is)

-- of two lists that share no name, the names of the first part are those that the first list shares with them
pub split-names : (a b : List Msg) (names : List MsgId) → ((name : MsgId) → times name a + times name b ≤ 1) → are_split a b names ≡ true
    → names ≡ names_of (take (shared a names) a) ++ names_of (take (length names - shared a names) b)
split-names a b [] apart is = refl
split-names [] b (n ∷ names) apart is = all-names b (n ∷ names) is
split-names (m ∷ a) b (n ∷ names) apart is = of_test (same_message m.id n) refl is (split-names a b names (λ name. grind (arith, apart name)))
  where
    -- a name of the first list begins no part of the second
    no_first : (ms : List Msg) → m.id ≡ n → ((name : MsgId) → times name (m ∷ a) + times name ms ≤ 1) → are_first ms (n ∷ names) ≡ false
    no_first [] same alone = refl
    no_first (o ∷ ms) same alone = of_name (same_message o.id n) refl
      where
        of_name : (c : Bool) → same_message o.id n ≡ c → c && are_first ms names ≡ false
        of_name false other = refl
        of_name true one = absurd (let two : o.id ≡ n = same_message-is o.id n one in grind (arith, alone n, same, two, same_message-self n))

    of_test : (c : Bool) → same_message m.id n ≡ c → are_first b (n ∷ names) || (c && are_split a b names) ≡ true
        → (are_split a b names ≡ true → names ≡ names_of (take (shared a names) a) ++ names_of (take (length names - shared a names) b))
        → n ∷ names ≡ names_of (take (if c then suc (shared a names) else 0) (m ∷ a)) ++ names_of (take (length (n ∷ names) - (if c then suc (shared a names) else 0)) b)
    of_test true one at rest =
        let same : m.id ≡ n = same_message-is m.id n one in
        let later : are_split a b names ≡ true = rw (no_first b same apart) at at in
        let fewer : length names - shared a names ≡ length (n ∷ names) - suc (shared a names) = omega arith in
        rw same (ap (λ (ns : List MsgId). n ∷ ns) (rest later ∙ ap (λ k. names_of (take (shared a names) a) ++ names_of (take k b)) fewer))
    of_test false other at rest = all-names b (n ∷ names) (or_none (are_first b (n ∷ names)) at)
