-- No two posts of a legal history have one name.
use Rattle.std.proofs.Common.{◌≡◌, ℕ, ◌+◌, ◌<◌, ◌≤◌, Bool, true, false, ◌&&◌, List, [], ◌∷◌, ◌++◌, length, filter, Option, None, refl, arith, subst, append_assoc, append-nil}
use Rattle.std.specs.Prelude.{if◌then◌else◌, ◌==◌}
use Rattle.std.proofs.lemmas.Grind.{common_steps}
use Rattle.std.proofs.lemmas.Bool.Decides.{nat_tests}
use Rattle.ccr_base.specs.declared.names.MsgId.{MsgId}
use Rattle.ccr_base.specs.declared.names.MsgId.TheVariants.{Script, Task}
use Rattle.ccr_base.specs.declared.messages.Msg.{Msg}
use Rattle.ccr_base.specs.declared.messages.Sent.{Sent}
use Rattle.ccr_wiring.specs.declared.parts.Parts.{Parts}
use Rattle.ccr_model.specs.declared.history.Event.{Event}
use Rattle.ccr_model.specs.declared.history.Event.TheVariants.{Post, Fire, Admit, Put, Start, End}
use Rattle.ccr_base.specs.Names.{same_message, same_lists}
use Rattle.ccr_base.specs.Values.{same_value}
use Rattle.ccr_model.specs.Posts.{posts, is_script_of, is_message_of, made_by_poster}
use Rattle.ccr_model.specs.declared.rule.Rule.{Rule}
use Rattle.ccr_model.specs.Rules.{refusal_of_post, refused, is_post}
use Rattle.ccr_model.specs.Legal.{IsAllowed, IsLegal, IsLegalAfter}
use Rattle.ccr_model.proofs.OneMoreEvent.{posts-push}
use Rattle.ccr_base.proofs.Booleans.{both, same_number}
use Rattle.ccr_base.proofs.SameNames.{same_message-is, same_numbers-is, same_values}
use Rattle.ccr_base.specs.declared.names.TaskId.{TaskId}

-- what the empty history has and each allowed event keeps, each legal history has
along_after : (w : Parts) (P : List Event → Type 0) → ((h : List Event) (e : Event) → P h → IsAllowed w h e → P (h ++ e ∷ [])) → (past es : List Event) → P past → IsLegalAfter w past es → P (past ++ es)
along_after w P keeps past [] p legal = rw (append-nil past) p
along_after w P keeps past (e ∷ es) p legal = subst P (append_assoc past (e ∷ []) es) (along_after w P keeps (past ++ e ∷ []) es (keeps past e p legal.0) legal.1)

pub along : (w : Parts) (P : List Event → Type 0) → ((h : List Event) (e : Event) → P h → IsAllowed w h e → P (h ++ e ∷ [])) → P [] → (h : List Event) → IsLegal w h → P h
along w P keeps start h legal = along_after w P keeps [] h start legal

-- how often the name stands among the messages
abbrev pub times : MsgId → List Msg → ℕ
times name ms = length (filter (λ (m : Msg). same_message m.id name) ms)

-- how many messages the sender of the name sent
abbrev pub sent_by : MsgId → List Msg → ℕ
sent_by (Script a k) ms = length (filter (λ (m : Msg). is_script_of a m.id) ms)
sent_by (Task t k) ms = length (filter (λ (m : Msg). is_message_of t m.id) ms)

abbrev pub place_of : MsgId → ℕ
place_of (Script a k) = k
place_of (Task t k) = k

-- a name that stands there is below what its sender sent, and stands there once
pub record AreNamed (ms : List Msg) : Type 0 where
  pub below : (name : MsgId) → 0 < times name ms → place_of name < sent_by name ms
  pub once : (name : MsgId) → times name ms ≤ 1

pub refused_not : (b : Bool) (rule : Rule) (o : Option Rule) → refused b rule o ≡ None → (b ≡ true) × (o ≡ None)
refused_not true rule o is = (refl, is)
refused_not false rule o is = absurd (cc)

-- a message that is the post has its port, its value and its causes
pub record IsPost (m : Msg) (x : Sent) : Type 0 where
  pub port : m.port ≡ x.port
  pub value : m.value ≡ x.value
  pub causes : m.causes ≡ x.causes

pub IsPost-test : (m : Msg) (x : Sent) → is_post m x ≡ true → IsPost m x
IsPost-test m x is =
    let parts = both ((m.port == x.port) && same_value m.value x.value) (same_lists (λ c d. c == d) m.causes x.causes) is in
    let first = both (m.port == x.port) (same_value m.value x.value) parts.0 in
    record { port = same_number m.port x.port first.0; value = same_values m.value x.value first.1; causes = same_numbers-is m.causes x.causes parts.1 }

-- an allowed post has the index that comes next
place_next : (w : Parts) (h : List Event) (m : Msg) (name : MsgId) → refusal_of_post w h m name ≡ None → place_of name ≡ sent_by name (posts h)
place_next w h m (Script a k) is = grind (arith, nat_tests)
place_next w h m (Task t k) is = grind (arith, nat_tests)

-- one more message counts for the poster whose script it is of, and for no other
pub made_by_poster-push : (ms : List Msg) (m : Msg) (poster : ℕ) → made_by_poster (ms ++ m ∷ []) poster ≡ made_by_poster ms poster + (if is_script_of poster m.id then 1 else 0)
made_by_poster-push ms m poster = grind (arith, common_steps)

pub made_by_poster-other : (ms : List Msg) (m : Msg) (poster actor index : ℕ) → m.id ≡ Script actor index → (actor == poster) ≡ false → made_by_poster (ms ++ m ∷ []) poster ≡ made_by_poster ms poster
made_by_poster-other ms m poster actor index named apart = let out : is_script_of poster m.id ≡ false = rw named apart in grind (arith, made_by_poster-push ms m poster, out)

pub made_by_poster-task : (ms : List Msg) (m : Msg) (poster : ℕ) (t : TaskId) (index : ℕ) → m.id ≡ Task t index → made_by_poster (ms ++ m ∷ []) poster ≡ made_by_poster ms poster
made_by_poster-task ms m poster t index named = let out : is_script_of poster m.id ≡ false = rw named refl in grind (arith, made_by_poster-push ms m poster, out)

pub times_more : (name : MsgId) (ms : List Msg) (m : Msg) → times name (ms ++ m ∷ []) ≡ times name ms + (if same_message m.id name then 1 else 0)
times_more name ms m = grind (arith, common_steps)

sent_more : (name : MsgId) (ms : List Msg) (m : Msg) → sent_by name ms ≤ sent_by name (ms ++ m ∷ [])
sent_more (Script a k) ms m = grind (arith, common_steps)
sent_more (Task t k) ms m = grind (arith, common_steps)

pub sent_own : (ms : List Msg) (m : Msg) (name : MsgId) → m.id ≡ name → sent_by name (ms ++ m ∷ []) ≡ sent_by name ms + 1
sent_own ms m (Script a k) is = grind (arith, nat_tests, common_steps)
sent_own ms m (Task t k) is = grind (arith, nat_tests, common_steps)

AreNamed-push : (ms : List Msg) (m : Msg) → AreNamed ms → place_of m.id ≡ sent_by m.id ms → AreNamed (ms ++ m ∷ [])
AreNamed-push ms m named index = record {
  below = λ name. λ some. below_push name (same_message m.id name) refl some;
  once = λ name. once_push name (same_message m.id name) refl;
}
  where
    below_push : (name : MsgId) (b : Bool) → same_message m.id name ≡ b → 0 < times name (ms ++ m ∷ []) → place_of name < sent_by name (ms ++ m ∷ [])
    below_push name true is some = let e : m.id ≡ name = same_message-is m.id name is in subst (λ n. place_of n < sent_by n (ms ++ m ∷ [])) e (omega (arith, sent_own ms m m.id refl, index))
    below_push name false is some = grind (arith, times_more name ms m, sent_more name ms m, named.below name)

    once_push : (name : MsgId) (b : Bool) → same_message m.id name ≡ b → times name (ms ++ m ∷ []) ≤ 1
    once_push name true is = let e : m.id ≡ name = same_message-is m.id name is in subst (λ n. times n (ms ++ m ∷ []) ≤ 1) e (grind (arith, times_more m.id ms m, named.below m.id, named.once m.id, index))
    once_push name false is = grind (arith, times_more name ms m, named.once name)

pub named_kept : (w : Parts) (h : List Event) (e : Event) → AreNamed (posts h) → IsAllowed w h e → AreNamed (posts (h ++ e ∷ []))
named_kept w h (Post m) named allowed = rw posts-push (AreNamed-push (posts h) m named (place_next w h m m.id allowed))
named_kept w h (Fire t s ms cs) named allowed = rw (posts-push, append-nil) named
named_kept w h (Admit t) named allowed = rw (posts-push, append-nil) named
named_kept w h (Put t d) named allowed = rw (posts-push, append-nil) named
named_kept w h (Start t a) named allowed = rw (posts-push, append-nil) named
named_kept w h (End t how) named allowed = rw (posts-push, append-nil) named

-- one fate, first part: no two posts have one name
pub posted_once : (w : Parts) (h : List Event) → IsLegal w h → (name : MsgId) → times name (posts h) ≤ 1
posted_once w h legal = (along w (λ g. AreNamed (posts g)) (named_kept w) (record { below = λ name. λ some. omega arith; once = λ name. omega arith }) h legal).once
