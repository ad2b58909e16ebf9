-- What the tasks of an expansion post: each at most its one reply.
use Rattle.std.proofs.Common.{◌≡◌, ◌⊎◌, inl, inr, ℕ, zero, suc, ◌≤◌, Bool, true, false, ◌&&◌, List, [], ◌∷◌, ◌++◌, length, filter, Some, None, refl, sym, ap, ◌∙◌, arith, subst, append-nil}
use Rattle.std.specs.Prelude.{◌==◌, if◌then◌else◌}
use Rattle.std.specs.List.{slice_get}
use Rattle.std.specs.Option.{option_map_or}
use Rattle.ccr_base.specs.declared.names.TaskId.{TaskId}
use Rattle.ccr_base.specs.declared.names.MsgId.{MsgId}
use Rattle.ccr_base.specs.declared.names.MsgId.TheVariants.{Script, Task}
use Rattle.ccr_base.specs.declared.messages.Msg.{Msg}
use Rattle.ccr_base.specs.declared.messages.Sent.{Sent}
use Rattle.ccr_base.specs.Names.{same_message, has_task}
use Rattle.ccr_handler.specs.declared.segments.Play.{Play}
use Rattle.ccr_wiring.specs.declared.parts.Parts.{Parts}
use Rattle.ccr_model.proofs.Closed.{own_post}
use Rattle.ccr_model.specs.declared.history.Event.{Event}
use Rattle.ccr_model.specs.declared.history.Event.TheVariants.{Post, Fire, Admit, Put, Start, End}
use Rattle.ccr_model.specs.Posts.{posts, post_of, posts_of_task, is_message_of}
use Rattle.ccr_model.specs.Firings.{started}
use Rattle.ccr_model.specs.TaskData.{play_of}
use Rattle.ccr_model.specs.Tasks.{running}
use Rattle.ccr_model.specs.Rules.{refusal_of_post, is_play_post, is_post}
use Rattle.ccr_model.specs.Legal.{IsAllowed, IsLegal}
use Rattle.ccr_base.proofs.Booleans.{both, no_both}
use Rattle.ccr_base.proofs.Options.{some_of}
use Rattle.ccr_model.proofs.Members.{Among, Among-either, Among-filter}
use Rattle.ccr_model.proofs.PostNames.{IsPost, IsPost-test, refused_not, times, posted_once}
use Rattle.ccr_model.proofs.LegalParts.{along_legal}
use Rattle.ccr_model.proofs.OneMoreEvent.{posts-push, started-push}
use Rattle.ccr_base.proofs.SameNames.{same_message-self, same_task-is}
use Rattle.ccr_model.proofs.Stable.{firing_named-append, play_of-append}
use Rattle.ccr_model.proofs.Ending.{RunningFacts-running}
use Rattle.ccr_model.proofs.FiredTasks.{IsFired}
use Rattle.ccr_model.proofs.TaskLists.{among_left}
use Rattle.ccr_model.proofs.WhoWasPut.{started_fired}
use Rattle.ccr_service.specs.declared.parts.ServiceParts.{ServiceParts}
use Rattle.ccr_service.specs.Expansion.{expansion}
use Rattle.ccr_service.specs.Replies.{posted_by}
use Rattle.ccr_service.proofs.Plays.{TakesAsk-legal, play_is, one_post}

-- who runs has fired
pub running_fired : (w : Parts) (h : List Event) → IsLegal w h → (t : TaskId) → has_task (running h) t ≡ true → IsFired h t
running_fired w h legal t is = started_fired w h legal t (RunningFacts-running h t is).started_so

-- a task's play has one post
pub one_play : (s : ServiceParts) (h : List Event) → IsLegal (expansion s) h → (t : TaskId) → IsFired h t → (x : Sent) × ((play_of (expansion s) h t).posts ≡ x ∷ [])
one_play s h legal t fired =
    let asks = TakesAsk-legal s h legal t fired.0 fired.1 in
    let one = one_post s asks.takes.facts.op asks.takes.facts.part asks.client asks.asked.ask.value in
    (one.0, ap (λ (p : Play). p.posts) (play_is s h t fired.0 fired.1 asks) ∙ one.1)

-- the message is the one post of the task's play
pub record IsReply (s : ServiceParts) (h : List Event) (m : Msg) (t : TaskId) (k : ℕ) : Type 0 where
  pub fired : IsFired h t
  pub started_so : has_task (started h) t ≡ true
  pub first : k ≡ 0
  pub sent : Sent
  pub plays : (play_of (expansion s) h t).posts ≡ sent ∷ []
  pub post : IsPost m sent

abbrev AreReplies : ServiceParts → List Event → Type 0
AreReplies s h = (m : Msg) → Among m (posts h) → (t : TaskId) (k : ℕ) → m.id ≡ Task t k → IsReply s h m t k

reply_on : (s : ServiceParts) (h : List Event) (e : Event) (m : Msg) (t : TaskId) (k : ℕ) → IsReply s h m t k → IsReply s (h ++ e ∷ []) m t k
reply_on s h e m t k old =
    record {
      fired = (old.fired.0, firing_named-append h (e ∷ []) t old.fired.0 old.fired.1);
      started_so = subst (λ ts. has_task ts t ≡ true) (sym (started-push h e)) (among_left (started h) _ t old.started_so);
      first = old.first;
      sent = old.sent;
      plays = ap (λ (p : Play). p.posts) (play_of-append (expansion s) h (e ∷ []) t old.fired.0 old.fired.1) ∙ old.plays;
      post = old.post;
    }

reply_now : (s : ServiceParts) (h : List Event) → IsLegal (expansion s) h → (m : Msg) (t : TaskId) (k : ℕ) → refusal_of_post (expansion s) h m (Task t k) ≡ None → IsReply s h m t k
reply_now s h legal m t k allowed =
    let w = expansion s in
    let line = (refused_not (is_play_post w h t k m) _ _ allowed).0 in
    let parts = both (has_task (running h) t && (k == posts_of_task h t)) (option_map_or (is_post m) (slice_get (play_of w h t).posts k) false) (own_post w refl h t k m line) in
    let front = both (has_task (running h) t) (k == posts_of_task h t) parts.0 in
    let its = some_of (is_post m) (slice_get (play_of w h t).posts k) parts.1 in
    let fired = running_fired w h legal t front.0 in
    let one = one_play s h legal t fired in
    let at : slice_get (one.0 ∷ []) k ≡ Some its.0 = subst (λ (xs : List Sent). slice_get xs k ≡ Some its.0) one.1 its.1 in
    let only = alone k one.0 its.0 at in
    record { fired = fired; started_so = (RunningFacts-running h t front.0).started_so; first = only.0; sent = one.0; plays = one.1; post = subst (IsPost m) only.1 (IsPost-test m its.0 its.2) }
  where
    alone : (k : ℕ) (x y : Sent) → slice_get (x ∷ []) k ≡ Some y → (k ≡ 0) × (y ≡ x)
    alone zero x y at = (refl, cc)
    alone (suc k) x y at = absurd (cc)

no_more_posts : (s : ServiceParts) (h : List Event) (e : Event) → post_of e ≡ [] → AreReplies s h → AreReplies s (h ++ e ∷ [])
no_more_posts s h e none known m is t k named = reply_on s h e m t k (known m (subst (Among m) (posts-push h e ∙ ap (λ ms. posts h ++ ms) none ∙ append-nil (posts h)) is) t k named)

replies_kept : (s : ServiceParts) (h : List Event) (e : Event) → IsLegal (expansion s) h → IsAllowed (expansion s) h e → AreReplies s h → AreReplies s (h ++ e ∷ [])
replies_kept s h (Post x) legal allowed known m is t k named = old_or_new (Among-either m (posts h) (x ∷ []) (subst (Among m) (posts-push h (Post x)) is))
  where
    old_or_new : Among m (posts h) ⊎ Among m (x ∷ []) → IsReply s (h ++ Post x ∷ []) m t k
    old_or_new (inl old) = reply_on s h (Post x) m t k (known m old t k named)
    old_or_new (inr (inl e)) = let name : x.id ≡ Task t k = ap (λ (y : Msg). y.id) (sym e) ∙ named in reply_on s h (Post x) m t k (subst (λ (y : Msg). IsReply s h y t k) (sym e) (reply_now s h legal x t k (subst (λ n. refusal_of_post (expansion s) h x n ≡ None) name allowed)))
    old_or_new (inr (inr none)) = absurd none
replies_kept s h (Fire x sp ms cs) legal allowed known m is t k named = no_more_posts s h (Fire x sp ms cs) refl known m is t k named
replies_kept s h (Admit x) legal allowed known m is t k named = no_more_posts s h (Admit x) refl known m is t k named
replies_kept s h (Put x d) legal allowed known m is t k named = no_more_posts s h (Put x d) refl known m is t k named
replies_kept s h (Start x a) legal allowed known m is t k named = no_more_posts s h (Start x a) refl known m is t k named
replies_kept s h (End x how) legal allowed known m is t k named = no_more_posts s h (End x how) refl known m is t k named

pub all_replies : (s : ServiceParts) (h : List Event) → IsLegal (expansion s) h → (m : Msg) → Among m (posts h) → (t : TaskId) (k : ℕ) → m.id ≡ Task t k → IsReply s h m t k
all_replies s h legal = along_legal (expansion s) (AreReplies s) (replies_kept s) (λ m is t k named. absurd is) h legal

-- ---- what a task posted

-- the name of a post of the task
pub its_name : (t : TaskId) (name : MsgId) → is_message_of t name ≡ true → (k : ℕ) × (name ≡ Task t k)
its_name t (Script a k) is = absurd (cc)
its_name t (Task u k) is = (k, let same = same_task-is t u is in rw same refl)

fewer : (t : TaskId) (ms : List Msg) → ((m : Msg) → Among m ms → (k : ℕ) → m.id ≡ Task t k → k ≡ 0) → length (filter (λ (m : Msg). is_message_of t m.id) ms) ≤ times (Task t 0) ms
fewer t [] all = omega arith
fewer t (m ∷ ms) all = by_test (is_message_of t m.id) refl (fewer t ms (λ x is. all x (inr is)))
  where
    more : (a : Bool) → length (filter (λ (x : Msg). is_message_of t x.id) ms) ≤ times (Task t 0) ms → length (filter (λ (x : Msg). is_message_of t x.id) ms) ≤ length (if a then m ∷ filter (λ (x : Msg). same_message x.id (Task t 0)) ms else filter (λ (x : Msg). same_message x.id (Task t 0)) ms)
    more true few = omega (arith, few)
    more false few = few

    by_test : (b : Bool) → is_message_of t m.id ≡ b → length (filter (λ (x : Msg). is_message_of t x.id) ms) ≤ times (Task t 0) ms → length (if b then m ∷ filter (λ (x : Msg). is_message_of t x.id) ms else filter (λ (x : Msg). is_message_of t x.id) ms) ≤ times (Task t 0) (m ∷ ms)
    by_test false e few = more (same_message m.id (Task t 0)) few
    by_test true e few =
        let name = its_name t m.id e in
        let zero_place = all m (inl refl) name.0 name.1 in
        let same : same_message m.id (Task t 0) ≡ true = ap (λ n. same_message n (Task t 0)) (name.1 ∙ ap (Task t) zero_place) ∙ same_message-self (Task t 0) in
        rw same (omega (arith, few))

pub few_posts : (s : ServiceParts) (h : List Event) → IsLegal (expansion s) h → (t : TaskId) → posts_of_task h t ≤ 1
few_posts s h legal t =
    let few = fewer t (posts h) (λ m is k named. (all_replies s h legal m is t k named).first) in
    let once = posted_once (expansion s) h legal (Task t 0) in
    omega (arith, few, once)

of_its : (p : Msg → Bool) (ms : List Msg) (m : Msg) (more : List Msg) → filter p ms ≡ m ∷ more → Among m ms × (p m ≡ true)
of_its p ms m more is = Among-filter p ms m (subst (Among m) (sym is) (inl refl))

-- what a task posted is nothing or its reply
pub record HasReplied (s : ServiceParts) (h : List Event) (t : TaskId) : Type 0 where
  pub message : Msg
  pub all : posted_by h t ≡ message ∷ []
  pub among : Among message (posts h)
  pub name : message.id ≡ Task t 0
  pub reply : IsReply s h message t 0

pub nothing_or_reply : (s : ServiceParts) (h : List Event) → IsLegal (expansion s) h → (t : TaskId) → (posted_by h t ≡ []) ⊎ HasReplied s h t
nothing_or_reply s h legal t = by_list (posted_by h t) refl
  where
    by_list : (ms : List Msg) → posted_by h t ≡ ms → (posted_by h t ≡ []) ⊎ HasReplied s h t
    by_list [] e = inl e
    by_list (m ∷ []) e =
        let here = of_its (λ (x : Msg). is_message_of t x.id) (posts h) m [] e in
        let name = its_name t m.id here.1 in
        let reply = all_replies s h legal m here.0 t name.0 name.1 in
        inr (record { message = m; all = e; among = here.0; name = name.1 ∙ ap (Task t) reply.first; reply = subst (IsReply s h m t) reply.first reply })
    by_list (m ∷ x ∷ ms) e =
        let few = few_posts s h legal t in
        let long : posts_of_task h t ≡ suc (suc (length ms)) = ap length e in
        absurd (omega (arith, few, long))

-- who hasn't started has posted nothing
pub unstarted_nothing : (s : ServiceParts) (h : List Event) → IsLegal (expansion s) h → (t : TaskId) → has_task (started h) t ≡ false → posted_by h t ≡ []
unstarted_nothing s h legal t out = of_side (nothing_or_reply s h legal t)
  where
    of_side : (posted_by h t ≡ []) ⊎ HasReplied s h t → posted_by h t ≡ []
    of_side (inl none) = none
    of_side (inr replied) = absurd (no_both replied.reply.started_so out)
