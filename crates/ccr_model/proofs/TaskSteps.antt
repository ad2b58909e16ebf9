-- Who is queued and who runs after one more event.
use Rattle.std.proofs.Common.{◌≡◌, ℕ, Bool, false, List, [], ◌∷◌, ◌++◌, filter, Option, option_to_list, refl, arith, ◌∙◌, append-nil}
use Rattle.std.specs.Prelude.{if◌then◌else◌, find}
use Rattle.std.proofs.lemmas.Grind.{common_steps}
use Rattle.std.proofs.lemmas.List.Elements.{filter_agree}
use Rattle.ccr_base.specs.declared.names.TaskId.{TaskId}
use Rattle.ccr_base.specs.declared.names.MsgId.{MsgId}
use Rattle.ccr_base.specs.declared.messages.Msg.{Msg}
use Rattle.ccr_base.specs.declared.names.Spot.{Spot}
use Rattle.ccr_wiring.specs.declared.parts.Parts.{Parts}
use Rattle.ccr_model.specs.declared.history.Event.{Event}
use Rattle.ccr_model.specs.declared.history.Event.TheVariants.{Post, Fire, Admit, Put, Start, End}
use Rattle.ccr_model.specs.declared.history.EndHow.{EndHow}
use Rattle.ccr_base.specs.Names.{same_task, has_task, without}
use Rattle.ccr_model.specs.Firings.{Firing, firings, firing_named, put, started, ended, dropped}
use Rattle.ccr_model.specs.Tasks.{is_for_queue, queued, running}
use Rattle.ccr_model.proofs.OneMoreEvent.{firings-push, put-push, started-push, dropped-push}
use Rattle.ccr_model.proofs.TasksLeft.{has_task-without, without_both, lists_start}
use Rattle.ccr_base.proofs.Booleans.{neither}

-- running, one lemma an event
pub running-start : (h : List Event) (t : TaskId) (a : ℕ) → has_task (ended h) t ≡ false → running (h ++ Start t a ∷ []) ≡ running h ++ t ∷ []
running-start h t a fresh = grind (arith, common_steps)

pub running-end : (h : List Event) (t : TaskId) (how : EndHow) → running (h ++ End t how ∷ []) ≡ without (running h) (t ∷ [])
running-end h t how = grind (arith, common_steps, without_both (started h) (ended h) (t ∷ []))

pub running-post : (h : List Event) (m : Msg) → running (h ++ Post m ∷ []) ≡ running h
running-post h m = grind (arith, common_steps)

pub running-fire : (h : List Event) (t : TaskId) (s : Spot) (ms : List MsgId) (cs : List TaskId) → running (h ++ Fire t s ms cs ∷ []) ≡ running h
running-fire h t s ms cs = grind (arith, common_steps)

pub running-put : (h : List Event) (t : TaskId) (d : Option TaskId) → running (h ++ Put t d ∷ []) ≡ running h
running-put h t d = grind (arith, common_steps)

pub running-admit : (h : List Event) (t : TaskId) → running (h ++ Admit t ∷ []) ≡ running h
running-admit h t = grind (arith, common_steps)

-- the firings after one more event
find-push : {X : Type 0} (p : X → Bool) (xs : List X) (y : X) → p y ≡ false → find p (xs ++ y ∷ []) ≡ find p xs
find-push p [] y out = grind arith
find-push p (x ∷ xs) y out = grind (arith, find-push p xs y out)

-- a new firing says nothing of the others
pub firing_named-fire : (h : List Event) (t u : TaskId) (s : Spot) (ms : List MsgId) (cs : List TaskId) → same_task t u ≡ false → firing_named (h ++ Fire t s ms cs ∷ []) u ≡ firing_named h u
firing_named-fire h t u s ms cs other = rw firings-push (find-push (λ (f : Firing). same_task f.task u) (firings h) _ other)

-- an event that is no firing leaves all that is said of firings
pub is_for_queue-start : (w : Parts) (h : List Event) (q : ℕ) (t u : TaskId) (a : ℕ) → is_for_queue w (h ++ Start t a ∷ []) q u ≡ is_for_queue w h q u
is_for_queue-start w h q t u a = rw (firings-push, append-nil) refl

is_for_queue-fire : (w : Parts) (h : List Event) (q : ℕ) (t u : TaskId) (s : Spot) (ms : List MsgId) (cs : List TaskId) → same_task t u ≡ false → is_for_queue w (h ++ Fire t s ms cs ∷ []) q u ≡ is_for_queue w h q u
is_for_queue-fire w h q t u s ms cs other = rw (firing_named-fire h t u s ms cs other) refl

-- over plain lists: one more put
lists_put : (f : TaskId → Bool) (ps ss ds more : List TaskId) (t : TaskId) → has_task (ss ++ (ds ++ more)) t ≡ false → filter f (without (ps ++ t ∷ []) (ss ++ (ds ++ more))) ≡ without (filter f (without ps (ss ++ ds))) more ++ (if f t then t ∷ [] else [])
lists_put f [] ss ds more t fresh = grind arith
lists_put f (p ∷ ps) ss ds more t fresh = grind (arith, common_steps, lists_put f ps ss ds more t fresh)

-- queued, one lemma an event
pub queued-start : (w : Parts) (h : List Event) (q : ℕ) (t : TaskId) (a : ℕ) → queued w (h ++ Start t a ∷ []) q ≡ without (queued w h q) (t ∷ [])
queued-start w h q t a =
    filter_agree _ (is_for_queue w h q) (λ u. is_for_queue-start w h q t u a) _
    ∙ rw (put-push, started-push, dropped-push, append-nil, append-nil) (lists_start (is_for_queue w h q) (put h) (started h) (dropped h) t)

is_for_queue-put : (w : Parts) (h : List Event) (q : ℕ) (t u : TaskId) (d : Option TaskId) → is_for_queue w (h ++ Put t d ∷ []) q u ≡ is_for_queue w h q u
is_for_queue-put w h q t u d = rw (firings-push, append-nil) refl

pub queued-put : (w : Parts) (h : List Event) (q : ℕ) (t : TaskId) (d : Option TaskId) → has_task (started h ++ (dropped h ++ option_to_list d)) t ≡ false → queued w (h ++ Put t d ∷ []) q ≡ without (queued w h q) (option_to_list d) ++ (if is_for_queue w h q t then t ∷ [] else [])
queued-put w h q t d fresh =
    filter_agree _ (is_for_queue w h q) (λ u. is_for_queue-put w h q t u d) _
    ∙ rw (put-push, started-push, dropped-push, append-nil) (lists_put (is_for_queue w h q) (put h) (started h) (dropped h) (option_to_list d) t fresh)

-- a firing of a task that wasn't put changes no queue
filter_fire : (w : Parts) (h : List Event) (q : ℕ) (t : TaskId) (s : Spot) (ms : List MsgId) (cs ts : List TaskId) → has_task ts t ≡ false → filter (is_for_queue w (h ++ Fire t s ms cs ∷ []) q) ts ≡ filter (is_for_queue w h q) ts
filter_fire w h q t s ms cs [] fresh = refl
filter_fire w h q t s ms cs (u ∷ ts) fresh =
    let parts = neither (same_task t u) (has_task ts t) fresh in
    grind (arith, is_for_queue-fire w h q t u s ms cs parts.0, filter_fire w h q t s ms cs ts parts.1)

pub queued-fire : (w : Parts) (h : List Event) (q : ℕ) (t : TaskId) (s : Spot) (ms : List MsgId) (cs : List TaskId) → has_task (put h) t ≡ false → queued w (h ++ Fire t s ms cs ∷ []) q ≡ queued w h q
queued-fire w h q t s ms cs fresh =
    rw (put-push, started-push, dropped-push, append-nil, append-nil, append-nil) (filter_fire w h q t s ms cs (without (put h) (started h ++ dropped h)) (rw (has_task-without (put h) (started h ++ dropped h) t, fresh) refl))
