-- Who is on no way to a queue any more: the tasks that started, were dropped or were cut.
use Rattle.std.proofs.Common.{◌≡◌, ℕ, Bool, true, false, ◌||◌, List, [], ◌∷◌, ◌++◌, Some, refl, sym, append_assoc, append-nil}
use Rattle.ccr_base.specs.declared.names.TaskId.{TaskId}
use Rattle.ccr_base.specs.declared.names.MsgId.{MsgId}
use Rattle.ccr_base.specs.declared.names.Spot.{Spot}
use Rattle.ccr_base.specs.Names.{has_task}
use Rattle.ccr_wiring.specs.declared.parts.Parts.{Parts}
use Rattle.ccr_model.specs.declared.history.Event.{Event}
use Rattle.ccr_model.specs.declared.history.Event.TheVariants.{Fire, Put, Start}
use Rattle.ccr_model.specs.Firings.{put, started, started_by, dropped, dropped_by, cut}
use Rattle.ccr_model.specs.Legal.{IsLegal}
use Rattle.ccr_model.proofs.OneMoreEvent.{started-push, dropped-push, cut-push}
use Rattle.ccr_base.proofs.Booleans.{refuted, no_both}
use Rattle.ccr_base.proofs.SameNames.{has_task-append}
use Rattle.ccr_model.proofs.TaskLists.{of_more, not_more, not_within}
use Rattle.ccr_model.proofs.FiredTasks.{IsFired, AreFired}
use Rattle.ccr_model.proofs.WhoWasPut.{ArePlaced-legal, QueuedFacts}
use Rattle.ccr_model.proofs.Cutting.{CutFacts-legal, cut_fired}

-- those that are on no way to a queue any more
abbrev pub gone : List Event → List TaskId
gone h = started h ++ dropped h ++ cut h

-- who is gone fired
pub gone_fired : (w : Parts) (h : List Event) → IsLegal w h → AreFired h (gone h)
gone_fired w h legal t among =
    let placed = ArePlaced-legal w h legal in
    of_more (started h ++ dropped h) (cut h) t (IsFired h t) among
    (λ first. of_more (started h) (dropped h) t (IsFired h t) first (λ is. placed.all_fired t (placed.lists.put_started t is)) (λ is. placed.all_fired t (placed.lists.put_dropped t is)))
    (cut_fired w h legal t)

-- who was never put and never cut is on his way
pub not_gone : (w : Parts) (h : List Event) (t : TaskId) → IsLegal w h → has_task (put h) t ≡ false → has_task (cut h) t ≡ false → has_task (gone h) t ≡ false
not_gone w h t legal no_put no_cut =
    let lists = (ArePlaced-legal w h legal).lists in
    not_more (started h ++ dropped h) (cut h) t (not_more (started h) (dropped h) t (not_within (started h) (put h) t (lists.put_started t) no_put) (not_within (dropped h) (put h) t (lists.put_dropped t) no_put)) no_cut

-- and so is who is queued
pub queued_here : (w : Parts) (h : List Event) (q : ℕ) (t : TaskId) → IsLegal w h → QueuedFacts w h q t → has_task (gone h) t ≡ false
queued_here w h q t legal facts =
    not_more (started h ++ dropped h) (cut h) t (not_more (started h) (dropped h) t facts.not_started facts.not_dropped) (refuted (has_task (cut h) t) (λ is. no_both facts.put_so ((CutFacts-legal w h legal).not_put t is)))

-- who is gone after each event
pub gone-other : (h : List Event) (e : Event) → started_by e ≡ [] → dropped_by e ≡ [] → cut (e ∷ []) ≡ [] → gone (h ++ e ∷ []) ≡ gone h
gone-other h e no_start no_drop no_cut = rw (started-push, dropped-push, cut-push, no_start, no_drop, no_cut, append-nil (started h), append-nil (dropped h), append-nil (cut h)) refl

pub gone-fire : (h : List Event) (t : TaskId) (s : Spot) (ms : List MsgId) (cs : List TaskId) → gone (h ++ Fire t s ms cs ∷ []) ≡ gone h ++ cs
gone-fire h t s ms cs = rw (started-push, dropped-push, cut-push, append-nil (started h), append-nil (dropped h), append-nil cs) (sym (append_assoc (started h ++ dropped h) (cut h) cs))

pub gone-start : (h : List Event) (t : TaskId) (a : ℕ) (u : TaskId) → has_task (gone h ++ t ∷ []) u ≡ has_task (gone (h ++ Start t a ∷ [])) u
gone-start h t a u =
    rw (started-push, dropped-push, cut-push, append-nil (dropped h), append-nil (cut h)) (of_lists (started h) (dropped h) (cut h))
  where
    turn : (a d k x : Bool) → ((a || d) || k) || x ≡ ((a || x) || d) || k
    turn true d k x = refl
    turn false true k true = refl
    turn false true k false = refl
    turn false false true true = refl
    turn false false true false = refl
    turn false false false true = refl
    turn false false false false = refl

    of_lists : (ss ds ks : List TaskId) → has_task (((ss ++ ds) ++ ks) ++ t ∷ []) u ≡ has_task (((ss ++ t ∷ []) ++ ds) ++ ks) u
    of_lists ss ds ks = rw (has_task-append ((ss ++ ds) ++ ks) (t ∷ []) u, has_task-append (ss ++ ds) ks u, has_task-append ss ds u, has_task-append ((ss ++ t ∷ []) ++ ds) ks u, has_task-append (ss ++ t ∷ []) ds u, has_task-append ss (t ∷ []) u) (turn (has_task ss u) (has_task ds u) (has_task ks u) (has_task (t ∷ []) u))

pub gone-drop : (h : List Event) (t x u : TaskId) → has_task (gone h ++ x ∷ []) u ≡ has_task (gone (h ++ Put t (Some x) ∷ [])) u
gone-drop h t x u =
    rw (started-push, dropped-push, cut-push, append-nil (started h), append-nil (cut h)) (of_lists (started h) (dropped h) (cut h))
  where
    turn : (a d k x : Bool) → ((a || d) || k) || x ≡ (a || (d || x)) || k
    turn true d k x = refl
    turn false true k x = refl
    turn false false true true = refl
    turn false false true false = refl
    turn false false false true = refl
    turn false false false false = refl

    of_lists : (ss ds ks : List TaskId) → has_task (((ss ++ ds) ++ ks) ++ x ∷ []) u ≡ has_task ((ss ++ (ds ++ x ∷ [])) ++ ks) u
    of_lists ss ds ks = rw (has_task-append ((ss ++ ds) ++ ks) (x ∷ []) u, has_task-append (ss ++ ds) ks u, has_task-append ss ds u, has_task-append (ss ++ (ds ++ x ∷ [])) ks u, has_task-append ss (ds ++ x ∷ []) u, has_task-append ds (x ∷ []) u) (turn (has_task ss u) (has_task ds u) (has_task ks u) (has_task (x ∷ []) u))
