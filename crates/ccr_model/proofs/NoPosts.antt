-- A task that hasn't started has posted nothing.
use Rattle.std.proofs.Common.{◌≡◌, ◌⊎◌, inl, inr, ◌<◌, Bool, true, false, ◌&&◌, List, [], ◌∷◌, ◌++◌, length, filter, refl, sym, arith, subst, append-nil, None}
use Rattle.std.specs.Prelude.{◌==◌, nat_lt}
use Rattle.std.proofs.lemmas.Grind.{common_steps}
use Rattle.std.proofs.lemmas.Bool.Decides.{nat_tests}
use Rattle.ccr_base.specs.declared.names.TaskId.{TaskId}
use Rattle.ccr_base.specs.declared.names.MsgId.{MsgId}
use Rattle.ccr_base.specs.declared.names.MsgId.TheVariants as names
use Rattle.ccr_base.specs.declared.messages.Msg.{Msg}
use Rattle.ccr_base.specs.Names.{has_task}
use Rattle.ccr_wiring.specs.declared.parts.Parts.{Parts}
use Rattle.ccr_model.specs.declared.history.Event.{Event}
use Rattle.ccr_model.specs.declared.history.Event.TheVariants as events
use Rattle.ccr_model.specs.Firings.{started}
use Rattle.ccr_model.specs.Legal.{IsAllowed, IsLegal}
use Rattle.ccr_model.specs.Posts.{posts, posts_of_task, is_message_of}
use Rattle.ccr_model.specs.Rules.{refusal_of_post, is_play_post}
use Rattle.ccr_model.specs.Tasks.{running}
use Rattle.ccr_base.proofs.Booleans.{both}
use Rattle.ccr_base.proofs.SameNames.{same_task-is}
use Rattle.ccr_model.proofs.OneMoreEvent.{posts-push, started-push}
use Rattle.ccr_model.proofs.PostNames.{along, refused_not}
use Rattle.ccr_model.proofs.TaskLists.{among_left}
use Rattle.ccr_model.proofs.TasksLeft.{of_without}

-- who has posted has started
abbrev PostsStarted : List Event → Type 0
PostsStarted h = (t : TaskId) → 0 < posts_of_task h t → has_task (started h) t ≡ true

posted-more : (ms : List Msg) (m : Msg) (t : TaskId) → 0 < length (filter (λ (x : Msg). is_message_of t x.id) (ms ++ m ∷ [])) → (0 < length (filter (λ (x : Msg). is_message_of t x.id) ms)) ⊎ (is_message_of t m.id ≡ true)
posted-more ms m t some = of_test (is_message_of t m.id) refl
  where
    of_test : (b : Bool) → is_message_of t m.id ≡ b → (0 < length (filter (λ (x : Msg). is_message_of t x.id) ms)) ⊎ (is_message_of t m.id ≡ true)
    of_test true e = inr e
    of_test false e = inl (grind (arith, common_steps, e, some))

posts_started-kept : (w : Parts) (h : List Event) (e : Event) → PostsStarted h → IsAllowed w h e → PostsStarted (h ++ e ∷ [])
posts_started-kept w h (events.Post m) known allowed t some = rw (started-push, append-nil (started h)) (by (posted-more (posts h) m t (rw posts-push at some)))
  where
    new : (name : MsgId) → refusal_of_post w h m name ≡ None → is_message_of t name ≡ true → has_task (started h) t ≡ true
    new (names.Script a k) now is = absurd (cc)
    new (names.Task u k) now is =
        let one = refused_not (is_play_post w h u k m) _ _ now in
        let parts = both (has_task (running h) u && (k == posts_of_task h u)) _ one.0 in
        let run = (both (has_task (running h) u) (k == posts_of_task h u) parts.0).0 in
        subst (λ x. has_task (started h) x ≡ true) (sym (same_task-is t u is)) (of_without (started h) _ u run).0

    by : (0 < posts_of_task h t) ⊎ (is_message_of t m.id ≡ true) → has_task (started h) t ≡ true
    by (inl old) = known t old
    by (inr is) = new m.id allowed is
posts_started-kept w h (events.Admit u) known allowed t some = rw (started-push, append-nil (started h)) (known t (rw (posts-push, append-nil (posts h)) at some))
posts_started-kept w h (events.Put u d) known allowed t some = rw (started-push, append-nil (started h)) (known t (rw (posts-push, append-nil (posts h)) at some))
posts_started-kept w h (events.Fire u s ms cs) known allowed t some = rw (started-push, append-nil (started h)) (known t (rw (posts-push, append-nil (posts h)) at some))
posts_started-kept w h (events.End u how) known allowed t some = rw (started-push, append-nil (started h)) (known t (rw (posts-push, append-nil (posts h)) at some))
posts_started-kept w h (events.Start u a) known allowed t some = rw started-push (among_left (started h) (u ∷ []) t (known t (rw (posts-push, append-nil (posts h)) at some)))

pub no_posts : (w : Parts) (h : List Event) (t : TaskId) → IsLegal w h → has_task (started h) t ≡ false → posts_of_task h t ≡ 0
no_posts w h t legal out = of_test (nat_lt 0 (posts_of_task h t)) refl
  where
    known : PostsStarted h
    known = along w PostsStarted (posts_started-kept w) (λ u some. absurd (omega arith)) h legal

    of_test : (b : Bool) → nat_lt 0 (posts_of_task h t) ≡ b → posts_of_task h t ≡ 0
    of_test true e = let some : 0 < posts_of_task h t = grind (arith, nat_tests, e) in let in' = known t some in absurd (cc)
    of_test false e = grind (arith, nat_tests, e)
