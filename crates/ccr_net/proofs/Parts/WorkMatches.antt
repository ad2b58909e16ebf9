-- Where a poster stands in its script, and a worker in its task: one lemma a kind of event.
use Rattle.std.proofs.Common.{◌≡◌, ◌≢◌, ◌≤◌, ℕ, ◌+◌, Bool, true, false, List, [], ◌∷◌, ◌++◌, length, drop, filter, Some, refl, sym, arith, ◌∙◌, append-nil, ap}
use Rattle.std.specs.Prelude.{◌==◌}
use Rattle.std.specs.List.{slice_get}
use Rattle.std.proofs.lemmas.Grind.{common_steps}
use Rattle.ccr_base.specs.declared.names.TaskId.{TaskId}
use Rattle.ccr_base.specs.declared.names.MsgId.TheVariants as names
use Rattle.ccr_base.specs.declared.messages.Msg.{Msg}
use Rattle.ccr_base.specs.declared.messages.Sent.{Sent}
use Rattle.ccr_base.specs.declared.tasks.Task.{Task}
use Rattle.ccr_base.specs.Names.{same_task, without}
use Rattle.ccr_wiring.specs.declared.parts.Parts.{Parts}
use Rattle.ccr_wiring.specs.declared.parts.PosterPart.{PosterPart}
use Rattle.ccr_wiring.specs.Wirings.{branch_of, segment_of}
use Rattle.ccr_model.specs.declared.history.Event.{Event}
use Rattle.ccr_model.specs.declared.history.Event.TheVariants as events
use Rattle.ccr_model.specs.declared.history.EndHow.{EndHow}
use Rattle.ccr_model.specs.Posts.{posts, posts_of_poster, posts_of_task, is_script_of, is_message_of}
use Rattle.ccr_model.specs.Firings.{ended, ended_by}
use Rattle.ccr_model.specs.TaskData.{play_of}
use Rattle.ccr_model.specs.Tasks.{running_by, started_as}
use Rattle.ccr_base.proofs.Booleans.{same_number}
use Rattle.ccr_model.proofs.FiredTasks.{IsFired, IsFired-append}
use Rattle.ccr_model.proofs.OneMoreEvent.{posts-push}
use Rattle.ccr_base.proofs.SameNames.{same_task-is}
use Rattle.ccr_model.proofs.Stable.{firing_named-append, root_at-append, load_at-append}
use Rattle.ccr_actor.specs.Actors.{Work, lines, round, taking, playing, posting, shedding, resting, play_in}
use Rattle.ccr_runs.specs.Views.{view}
use Rattle.ccr_net.proofs.Parts.TasksStartOnce.{AreStartedOnce, run_apart}
use Rattle.ccr_model.proofs.RunningTasks.{running_by-end, starts, running_by-push}
use Rattle.ccr_model.proofs.PostNames.{sent_own, sent_by}

-- the task that a worker runs, how many of its posts are made, and those that are left
pub record RunsTask (w : Parts) (h : List Event) (a : ℕ) (task : Task) (index : ℕ) (left : List Sent) : Type 0 where
  pub worker : length w.posters ≤ a
  pub alone : running_by h a ≡ task.id ∷ []
  pub fires : IsFired h task.id
  pub as_seen : task ≡ view w h task.id
  pub index_so : index ≡ posts_of_task h task.id
  pub left_so : left ≡ drop index (play_in w task).posts

-- a poster in its script
pub record Scripted (w : Parts) (h : List Event) (a : ℕ) (index : ℕ) (sents : List Sent) : Type 0 where
  pub poster : PosterPart
  pub is_poster : slice_get w.posters a ≡ Some poster
  pub index_so : index ≡ posts_of_poster h a
  pub left_so : sents ≡ drop index poster.posts

-- a worker without a task
pub record Idle (w : Parts) (h : List Event) (a : ℕ) : Type 0 where
  pub worker : length w.posters ≤ a
  pub none : running_by h a ≡ []

-- what the work of an actor says of the history
abbrev pub WorkMatches : Parts → List Event → ℕ → Work → Type 0
WorkMatches w h a (lines index sents) = Scripted w h a index sents
WorkMatches w h a round = Idle w h a
WorkMatches w h a (taking left queue queues) = Idle w h a
WorkMatches w h a (playing task index play) = RunsTask w h a task index play.posts × (play.end ≡ (play_in w task).end)
WorkMatches w h a (posting task index play sent) = RunsTask w h a task index (sent ∷ play.posts) × (play.end ≡ (play_in w task).end)
WorkMatches w h a (shedding task) = (index : ℕ) × (sent : Sent) × (posts : List Sent) × RunsTask w h a task index (sent ∷ posts)
WorkMatches w h a resting = Unit {0}

-- ---- what a history says of a fired task stays

pub view-stays : (w : Parts) (h es : List Event) (t : TaskId) → IsFired h t → view w (h ++ es) t ≡ view w h t
view-stays w h es t fires = rw (firing_named-append h es t fires.0 fires.1, fires.1, root_at-append h es (branch_of fires.0.spot) (segment_of fires.0.spot) t fires.0 fires.1, load_at-append w h es (branch_of fires.0.spot) (segment_of fires.0.spot) t fires.0 fires.1) refl

pub play-view : (w : Parts) (h : List Event) (t : TaskId) → IsFired h t → play_in w (view w h t) ≡ play_of w h t
play-view w h t fires = rw (fires.1) refl

-- ---- one more event that says the same of this actor

pub record SaysSame (h : List Event) (e : Event) (a : ℕ) : Type 0 where
  pub script : posts_of_poster (h ++ e ∷ []) a ≡ posts_of_poster h a
  pub none : running_by h a ≡ [] → running_by (h ++ e ∷ []) a ≡ []
  pub one : (t : TaskId) → running_by h a ≡ t ∷ [] → running_by (h ++ e ∷ []) a ≡ t ∷ []
  pub same_posts : (t : TaskId) → running_by h a ≡ t ∷ [] → posts_of_task (h ++ e ∷ []) t ≡ posts_of_task h t

pub WorkMatches-same : (w : Parts) (h : List Event) (e : Event) (a : ℕ) (work : Work) → SaysSame h e a → WorkMatches w h a work → WorkMatches w (h ++ e ∷ []) a work
WorkMatches-same w h e a work says match = by work match
  where
    runs_on : (task : Task) (index : ℕ) (left : List Sent) → RunsTask w h a task index left → RunsTask w (h ++ e ∷ []) a task index left
    runs_on task index left is = record {
      worker = is.worker;
      alone = says.one task.id is.alone;
      fires = IsFired-append h (e ∷ []) task.id is.fires;
      as_seen = is.as_seen ∙ sym (view-stays w h (e ∷ []) task.id is.fires);
      index_so = is.index_so ∙ sym (says.same_posts task.id is.alone);
      left_so = is.left_so;
    }

    by : (work : Work) → WorkMatches w h a work → WorkMatches w (h ++ e ∷ []) a work
    by (lines index sents) is = record { poster = is.poster; is_poster = is.is_poster; index_so = is.index_so ∙ sym says.script; left_so = is.left_so }
    by round is = record { worker = is.worker; none = says.none is.none }
    by (taking left queue queues) is = record { worker = is.worker; none = says.none is.none }
    by (playing task index play) is = (runs_on task index play.posts is.0, is.1)
    by (posting task index play sent) is = (runs_on task index (sent ∷ play.posts) is.0, is.1)
    by (shedding task) is = (is.0, is.1, is.2, runs_on task is.0 (is.1 ∷ is.2) is.3)
    by resting is = tt

-- events that neither post, start nor end
pub quiet_says : (h : List Event) (e : Event) (a : ℕ) → posts (h ++ e ∷ []) ≡ posts h → ((b : ℕ) → started_as b e ≡ []) → ended_by e ≡ [] → SaysSame h e a
quiet_says h e a p s n = record {
  script = rw p refl;
  none = λ is. same ∙ is;
  one = λ t is. same ∙ is;
  same_posts = λ t is. rw p refl;
}
  where
    same : running_by (h ++ e ∷ []) a ≡ running_by h a
    same = running_by-push h e a ∙ rw (s a, n, append-nil (starts h a), append-nil (ended h)) refl

-- a post of another poster
pub script_says : (h : List Event) (m : Msg) (a b k : ℕ) → m.id ≡ names.Script b k → (b ≢ a) → SaysSame h (events.Post m) a
script_says h m a b k id other = record {
  script = rw (posts-push h (events.Post m)) (more (posts h));
  none = λ is. same ∙ is;
  one = λ t is. same ∙ is;
  same_posts = λ t is. rw (posts-push h (events.Post m)) (no_more t (posts h));
}
  where
    same : running_by (h ++ events.Post m ∷ []) a ≡ running_by h a
    same = running_by-push h (events.Post m) a ∙ rw (append-nil (starts h a), append-nil (ended h)) refl

    out : is_script_of a m.id ≡ false
    out = rw id (of_test (b == a) refl)
      where
        of_test : (c : Bool) → (b == a) ≡ c → (b == a) ≡ false
        of_test false e = e
        of_test true e = absurd (other (same_number b a e))

    more : (ms : List Msg) → length (filter (λ (x : Msg). is_script_of a x.id) (ms ++ m ∷ [])) ≡ length (filter (λ (x : Msg). is_script_of a x.id) ms)
    more ms = grind (arith, common_steps, out)

    no_more : (t : TaskId) (ms : List Msg) → length (filter (λ (x : Msg). is_message_of t x.id) (ms ++ m ∷ [])) ≡ length (filter (λ (x : Msg). is_message_of t x.id) ms)
    no_more t ms = let gone : is_message_of t m.id ≡ false = rw id refl in grind (arith, common_steps, gone)

-- a post of a task that another actor runs
pub task_says : (h : List Event) (m : Msg) (a b k : ℕ) (u : TaskId) → AreStartedOnce h → m.id ≡ names.Task u k → running_by h b ≡ u ∷ [] → (b ≢ a) → SaysSame h (events.Post m) a
task_says h m a b k u known id runs other = record {
  script = rw (posts-push h (events.Post m)) (more (posts h));
  none = λ is. same ∙ is;
  one = λ t is. same ∙ is;
  same_posts = λ t is. rw (posts-push h (events.Post m)) (no_more t is (posts h));
}
  where
    same : running_by (h ++ events.Post m ∷ []) a ≡ running_by h a
    same = running_by-push h (events.Post m) a ∙ rw (append-nil (starts h a), append-nil (ended h)) refl

    more : (ms : List Msg) → length (filter (λ (x : Msg). is_script_of a x.id) (ms ++ m ∷ [])) ≡ length (filter (λ (x : Msg). is_script_of a x.id) ms)
    more ms = let gone : is_script_of a m.id ≡ false = rw id refl in grind (arith, common_steps, gone)

    apart : (t : TaskId) → running_by h a ≡ t ∷ [] → same_task t u ≡ false
    apart t is = of_test (same_task t u) refl
      where
        of_test : (c : Bool) → same_task t u ≡ c → same_task t u ≡ false
        of_test false e = e
        of_test true e = absurd (other (run_apart h b a u t known runs is (sym (same_task-is t u e))))

    no_more : (t : TaskId) → running_by h a ≡ t ∷ [] → (ms : List Msg) → length (filter (λ (x : Msg). is_message_of t x.id) (ms ++ m ∷ [])) ≡ length (filter (λ (x : Msg). is_message_of t x.id) ms)
    no_more t is ms = let gone : is_message_of t m.id ≡ false = rw id (apart t is) in grind (arith, common_steps, gone)

-- a start by another actor
pub start_says : (h : List Event) (u : TaskId) (a b : ℕ) → (b ≢ a) → SaysSame h (events.Start u b) a
start_says h u a b other = record {
  script = rw (posts-push h (events.Start u b), append-nil (posts h)) refl;
  none = λ is. same ∙ is;
  one = λ t is. same ∙ is;
  same_posts = λ t is. rw (posts-push h (events.Start u b), append-nil (posts h)) refl;
}
  where
    out : (b == a) ≡ false
    out = of_test (b == a) refl
      where
        of_test : (c : Bool) → (b == a) ≡ c → (b == a) ≡ false
        of_test false e = e
        of_test true e = absurd (other (same_number b a e))

    same : running_by (h ++ events.Start u b ∷ []) a ≡ running_by h a
    same = running_by-push h (events.Start u b) a ∙ rw (out, append-nil (starts h a), append-nil (ended h)) refl

-- the end of a task that another actor runs
pub end_says : (h : List Event) (u : TaskId) (how : EndHow) (a b : ℕ) → AreStartedOnce h → running_by h b ≡ u ∷ [] → (b ≢ a) → SaysSame h (events.End u how) a
end_says h u how a b known runs other = record {
  script = rw (posts-push h (events.End u how), append-nil (posts h)) refl;
  none = λ is. running_by-end h u how a ∙ rw is refl;
  one = λ t is. running_by-end h u how a ∙ rw is (kept t is);
  same_posts = λ t is. rw (posts-push h (events.End u how), append-nil (posts h)) refl;
}
  where
    kept : (t : TaskId) → running_by h a ≡ t ∷ [] → without (t ∷ []) (u ∷ []) ≡ t ∷ []
    kept t is = of_test (same_task t u) refl
      where
        of_test : (c : Bool) → same_task t u ≡ c → without (t ∷ []) (u ∷ []) ≡ t ∷ []
        of_test false e = rw e refl
        of_test true e = absurd (other (run_apart h b a u t known runs is (sym (same_task-is t u e))))

-- ---- the actor's own events

-- the next post of a script
pub script_own : (h : List Event) (m : Msg) (a k : ℕ) → m.id ≡ names.Script a k → posts_of_poster (h ++ events.Post m ∷ []) a ≡ posts_of_poster h a + 1
script_own h m a k id = ap (sent_by (names.Script a k)) (posts-push h (events.Post m)) ∙ sent_own (posts h) m (names.Script a k) id

pub task_own : (h : List Event) (m : Msg) (t : TaskId) (k : ℕ) → m.id ≡ names.Task t k → posts_of_task (h ++ events.Post m ∷ []) t ≡ posts_of_task h t + 1
task_own h m t k id = ap (sent_by (names.Task t k)) (posts-push h (events.Post m)) ∙ sent_own (posts h) m (names.Task t k) id
