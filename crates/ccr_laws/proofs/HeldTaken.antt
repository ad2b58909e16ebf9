-- Each message of a legal history is held or taken, and none twice.
use Rattle.std.proofs.Common.{◌≡◌, ◌+◌, ◌≤◌, Bool, true, false, ◌||◌, List, [], ◌∷◌, length, refl, subst, arith, ap}
use Rattle.std.specs.Prelude.{if◌then◌else◌}
use Rattle.std.proofs.lemmas.Grind.{common_steps}
use Rattle.ccr_base.specs.declared.names.MsgId.{MsgId}
use Rattle.ccr_base.specs.declared.messages.Msg.{Msg}
use Rattle.ccr_base.specs.Names.{same_message, has_message}
use Rattle.ccr_wiring.specs.declared.parts.Parts.{Parts}
use Rattle.ccr_wiring.specs.Valid.{IsValid}
use Rattle.ccr_wiring.proofs.Soundness.{sound}
use Rattle.ccr_model.specs.declared.history.Event.{Event}
use Rattle.ccr_model.specs.Posts.{posts, taken}
use Rattle.ccr_model.specs.Legal.{IsLegal}
use Rattle.ccr_model.proofs.PostNames.{times, posted_once}
use Rattle.ccr_base.proofs.SameNames.{same_message-is, same_message-self}
use Rattle.ccr_base.proofs.Booleans.{refuted}
use Rattle.ccr_model.proofs.TakenOnce.{taken_once, times_named, untaken}
use Rattle.ccr_model.proofs.MessageNames.{left_by, none_left, named_some}
use Rattle.ccr_model.proofs.PostedNames.{are_posted}

named_cons : (name n : MsgId) (names : List MsgId) → times_named name (n ∷ names) ≡ (if same_message name n then 1 else 0) + times_named name names
named_cons name n names = grind (arith, common_steps)

pub times_cons : (name : MsgId) (x : Msg) (ms : List Msg) → times name (x ∷ ms) ≡ (if same_message x.id name then 1 else 0) + times name ms
times_cons name x ms = grind (arith, common_steps)

-- a name that stands once stands in no rest
not_in_rest : (n : MsgId) (names : List MsgId) → times_named n (n ∷ names) ≤ 1 → has_message names n ≡ false
not_in_rest n names once = refuted (has_message names n) (λ is. absurd (grind (arith, named_cons n n names, same_message-self n, once, named_some n names is)))

-- one more name drops what bears it
one_drops : (n : MsgId) (names : List MsgId) (ms : List Msg) → has_message names n ≡ false → length (left_by (n ∷ names) ms) + times n ms ≡ length (left_by names ms)
one_drops n names [] new = omega arith
one_drops n names (x ∷ ms) new = by (same_message x.id n) (has_message names x.id) refl refl (one_drops n names ms new) (times_cons n x ms)
  where
    by : (a b : Bool) → same_message x.id n ≡ a → has_message names x.id ≡ b → length (left_by (n ∷ names) ms) + times n ms ≡ length (left_by names ms) → times n (x ∷ ms) ≡ (if same_message x.id n then 1 else 0) + times n ms → length (left_by (n ∷ names) (x ∷ ms)) + times n (x ∷ ms) ≡ length (left_by names (x ∷ ms))
    by true true ea eb rest sum =
        let same : x.id ≡ n = same_message-is x.id n ea in
        let there : has_message names n ≡ true = subst (λ (y : MsgId). has_message names y ≡ true) same eb in
        absurd (cc)
    by true false ea eb rest sum = rw (sum, ea, eb) (omega (arith, rest))
    by false true ea eb rest sum = rw (sum, ea, eb) (omega (arith, rest))
    by false false ea eb rest sum = rw (sum, ea, eb) (omega (arith, rest))

-- distinct names of messages drop one each
names_drop : (names : List MsgId) (ms : List Msg) → ((name : MsgId) → times_named name names ≤ 1) → ((name : MsgId) → has_message names name ≡ true → times name ms ≡ 1) → length (left_by names ms) + length names ≡ length ms
names_drop [] ms once some = omega (arith, ap length (none_left ms))
names_drop (n ∷ names) ms once some =
    let new = not_in_rest n names (once n) in
    let rest = names_drop names ms (λ name. (let a = once name in let b = named_cons name n names in omega (arith, a, b))) (λ name is. some name (later name is)) in
    let one = one_drops n names ms new in
    let there = some n (rw (same_message-self n) refl) in
    omega (arith, rest, one, there)
  where
    later : (name : MsgId) → has_message names name ≡ true → has_message (n ∷ names) name ≡ true
    later name is = by (same_message name n)
      where
        by : (b : Bool) → b || has_message names name ≡ true
        by true = refl
        by false = is

-- what was posted is held or taken
pub held_or_taken : (w : Parts) → IsValid w → (h : List Event) → IsLegal w h → length (untaken h) + length (taken h) ≡ length (posts h)
held_or_taken w valid h legal =
    let apart = (sound w valid).apart in
    let posted = are_posted w apart h legal in
    names_drop (taken h) (posts h) (taken_once w apart h legal) (λ name is. (let a = posted name is in let b = posted_once w h legal name in omega (arith, a, b)))
