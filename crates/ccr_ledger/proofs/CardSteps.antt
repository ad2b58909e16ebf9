-- Each event that is no firing keeps what the cards say.
use Rattle.std.proofs.Common.{◌≡◌, ℕ, ◌+◌, Bool, true, false, List, [], ◌∷◌, ◌++◌, map, Option, Some, None, refl, sym, ap, ◌∙◌}
use Rattle.std.specs.Prelude.{if◌then◌else◌, option_map}
use Rattle.std.proofs.Math.Bool.{or-false}
use Rattle.ccr_base.specs.declared.names.TaskId.{TaskId}
use Rattle.ccr_base.specs.declared.names.MsgId.{MsgId}
use Rattle.ccr_base.specs.declared.names.MsgId.TheVariants.{Script, Task}
use Rattle.ccr_base.specs.declared.messages.Msg.{Msg}
use Rattle.ccr_base.specs.Names.{same_task}
use Rattle.ccr_base.proofs.Options.{map_map}
use Rattle.ccr_wiring.specs.declared.parts.Parts.{Parts}
use Rattle.ccr_wiring.specs.Wirings.{branch_of, segment_of, queue_of_spot}
use Rattle.ccr_model.specs.declared.history.Event.{Event}
use Rattle.ccr_model.specs.declared.history.Event.TheVariants.{Post, Admit, Put, Start, End}
use Rattle.ccr_model.specs.declared.history.EndHow.{EndHow}
use Rattle.ccr_model.specs.declared.history.EndHow.TheVariants as ends
use Rattle.ccr_model.specs.Posts.{posts_of_task}
use Rattle.ccr_model.specs.Firings.{Firing, firing_of, firing_named, last_by}
use Rattle.ccr_model.specs.Sites.{root_of}
use Rattle.ccr_model.specs.TaskData.{load_of}
use Rattle.ccr_model.specs.Legal.{IsAllowed, IsLegal}
use Rattle.ccr_model.proofs.Cutting.{AdmitFacts-allowed}
use Rattle.ccr_model.proofs.Ending.{RunningFacts-allowed}
use Rattle.ccr_model.proofs.FiredTasks.{IsFired, root_stays, placement_fired}
use Rattle.ccr_model.proofs.AllowedFirings.{firings-other, firing-same}
use Rattle.ccr_base.proofs.SameNames.{same_task-sym, same_task-self}
use Rattle.ccr_model.proofs.Stable.{firing_named-append, before-append, load_at-append, play_of-append}
use Rattle.ccr_model.proofs.WhoWasPut.{ArePlaced-legal, PutFacts-allowed, StartFacts-allowed, new_drop}
use Rattle.ccr_ledger.specs.declared.cards.Card.{Card}
use Rattle.ccr_ledger.specs.declared.cards.TaskStage.{TaskStage}
use Rattle.ccr_ledger.specs.declared.cards.TaskStage.TheVariants as stages
use Rattle.ccr_ledger.specs.Books.{Books, card_at, changed, in_stage, moved}
use Rattle.ccr_ledger.specs.Posting.{with_post, counted}
use Rattle.ccr_ledger.specs.Events.{admit_root, not_admitted, after_last, after_discard, after_stop, after_yield, after_end, after_event}
use Rattle.ccr_ledger.specs.Kept.{KeepsTasks, card_of, stage_of, is_admitted}
use Rattle.ccr_ledger.proofs.Admissions.{admitted-other, admitted-last, admitted-admit, made-other, made-post}
use Rattle.ccr_ledger.proofs.CardTables.{names, names-changed, on, card-on, card-twice, tasks-last}
use Rattle.ccr_ledger.proofs.Stages.{stage-post, stage-start, stage-end, stage-admit, stage-put}

-- what a task starts with stays what it is
load_of-append : (w : Parts) (h es : List Event) (t : TaskId) (f : Firing) → firing_named h t ≡ Some f → load_of w (h ++ es) t ≡ load_of w h t
load_of-append w h es t f is = rw (firing_named-append h es t f is, is, load_at-append w h es (branch_of f.spot) (segment_of f.spot) t f is) refl

-- the card, with what events change of it
abbrev pub altered : TaskStage → Bool → ℕ → Card → Card
altered stage admitted made card = record card { stage = stage; admitted = admitted; made = made }

-- an event changes of the card of a task that fired its stage, whether it is admitted, and how many posts it made
pub card-stays : (w : Parts) (h : List Event) (e : Event) (u : TaskId) (f : Firing) (stage : TaskStage) (admitted : Bool) (made : ℕ) → firing_named h u ≡ Some f
    → stage_of w (h ++ e ∷ []) u f.spot ≡ stage → is_admitted (h ++ e ∷ []) u ≡ admitted → posts_of_task (h ++ e ∷ []) u ≡ made
    → card_of w (h ++ e ∷ []) u f ≡ altered stage admitted made (card_of w h u f)
card-stays w h e u f stage admitted made is stage_so admitted_so made_so =
    rw (stage_so, admitted_so, made_so, root_stays h (e ∷ []) u (f, is), before-append h (e ∷ []) u f is, load_of-append w h (e ∷ []) u f is, play_of-append w h (e ∷ []) u f is) refl

-- the card of a task for which no firing is new
pub card-step : (w : Parts) (h : List Event) (e : Event) (u : TaskId) (old new : Option Card) (change : Card → Card) → firing_named (h ++ e ∷ []) u ≡ firing_named h u
    → old ≡ option_map (card_of w h u) (firing_named h u) → new ≡ option_map change old → ((f : Firing) → firing_named h u ≡ Some f → card_of w (h ++ e ∷ []) u f ≡ change (card_of w h u f))
    → new ≡ option_map (card_of w (h ++ e ∷ []) u) (firing_named (h ++ e ∷ []) u)
card-step w h e u old new change same known moves step = of_firing (firing_named h u) refl
  where
    of_firing : (o : Option Firing) → firing_named h u ≡ o → new ≡ option_map (card_of w (h ++ e ∷ []) u) (firing_named (h ++ e ∷ []) u)
    of_firing None is = moves ∙ (ap (option_map change) (known ∙ ap (option_map (card_of w h u)) is) ∙ sym (ap (option_map (card_of w (h ++ e ∷ []) u)) (same ∙ is)))
    of_firing (Some f) is = moves ∙ (ap (option_map change) (known ∙ ap (option_map (card_of w h u)) is) ∙ (ap Some (sym (step f is)) ∙ sym (ap (option_map (card_of w (h ++ e ∷ []) u)) (same ∙ is))))

-- the tables after an event that is no firing, by what it changes of each card
keeps-other : (w : Parts) (h : List Event) (e : Event) (b c : Books) (change : TaskId → Card → Card) → firing_of e ≡ [] → KeepsTasks w h b → names c.tasks ≡ names b.tasks
    → ((u : TaskId) → card_at c.tasks u ≡ option_map (change u) (card_at b.tasks u))
    → ((u : TaskId) (f : Firing) → firing_named h u ≡ Some f → card_of w (h ++ e ∷ []) u f ≡ change u (card_of w h u f))
    → KeepsTasks w (h ++ e ∷ []) c
keeps-other w h e b c change other keeps same moves step = record {
  names = same ∙ (keeps.names ∙ sym (ap (λ fs. map (λ (f : Firing). f.task) fs) (firings-other h e other)));
  cards = λ u. card-step w h e u (card_at b.tasks u) (card_at c.tasks u) (change u) (firing-same h e u other) (keeps.cards u) (moves u) (step u);
}

-- by one change of the card of one task
keeps-one : (w : Parts) (h : List Event) (e : Event) (b c : Books) (change : Card → Card) (t : TaskId) → firing_of e ≡ [] → KeepsTasks w h b → c.tasks ≡ changed change t b.tasks
    → ((u : TaskId) (f : Firing) → firing_named h u ≡ Some f → card_of w (h ++ e ∷ []) u f ≡ on t change u (card_of w h u f))
    → KeepsTasks w (h ++ e ∷ []) c
keeps-one w h e b c change t other keeps are step =
    keeps-other w h e b c (on t change) other keeps (ap names are ∙ names-changed change t b.tasks) (λ u. ap (λ cards. card_at cards u) are ∙ card-on change b.tasks t u) step

-- the card of a task that fired
pub card_told : (w : Parts) (h : List Event) (t : TaskId) (f : Firing) (b : Books) → KeepsTasks w h b → firing_named h t ≡ Some f → card_at b.tasks t ≡ Some (card_of w h t f)
card_told w h t f b keeps is = keeps.cards t ∙ ap (option_map (card_of w h t)) is

-- Post
pub tasks-post : (w : Parts) (h : List Event) (m : Msg) (id : MsgId) (b : Books) → m.id ≡ id → IsLegal w h → KeepsTasks w h b → KeepsTasks w (h ++ Post m ∷ []) (counted id b)
tasks-post w h m (Script actor index) b is legal keeps =
    keeps-other w h (Post m) b (counted (Script actor index) b) (λ u card. card) refl keeps refl (λ u. same (card_at b.tasks u))
    (λ u f named. card-stays w h (Post m) u f (stage_of w h u f.spot) (is_admitted h u) (posts_of_task h u) named (stage-post w h m u f.spot) (admitted-other w h legal (Post m) u refl refl) (made-post h m (Script actor index) u is))
  where
    same : (o : Option Card) → o ≡ option_map (λ (card : Card). card) o
    same None = refl
    same (Some c) = refl
tasks-post w h m (Task t index) b is legal keeps =
    keeps-one w h (Post m) b (counted (Task t index) b) with_post t refl keeps refl
    (λ u f named. (
    card-stays w h (Post m) u f (stage_of w h u f.spot) (is_admitted h u) (if same_task t u then posts_of_task h u + 1 else posts_of_task h u) named (stage-post w h m u f.spot) (admitted-other w h legal (Post m) u refl refl)
    (made-post h m (Task t index) u is ∙ ap (λ b. if b then posts_of_task h u + 1 else posts_of_task h u) (same_task-sym u t))
    ∙ of_test u f (same_task t u)
    ))
  where
    of_test : (u : TaskId) (f : Firing) (b : Bool) → altered (stage_of w h u f.spot) (is_admitted h u) (if b then posts_of_task h u + 1 else posts_of_task h u) (card_of w h u f) ≡ (if b then with_post (card_of w h u f) else card_of w h u f)
    of_test u f true = refl
    of_test u f false = refl

-- Admit
pub tasks-admit : (w : Parts) (h : List Event) (t : TaskId) (b : Books) → IsLegal w h → IsAllowed w h (Admit t) → KeepsTasks w h b → KeepsTasks w (h ++ Admit t ∷ []) (after_event w (Admit t) b)
tasks-admit w h t b legal allowed keeps =
    let facts = AdmitFacts-allowed w h t allowed in
    let its = placement_fired w h t facts.placement facts.is_placement in
    rw (card_told w h t its.0 b keeps its.1) (keeps-one w h (Admit t) b (record b { tasks = _; waiting = _; admitted = _; alone = _ }) admit_root t refl keeps refl
    (λ u f named. (
    card-stays w h (Admit t) u f _ _ _ named (stage-admit w h t u f.spot legal allowed) (admitted-admit w h legal t u allowed) (made-other h (Admit t) u refl)
    ∙ of_test u f (same_task t u)
    )))
  where
    of_test : (u : TaskId) (f : Firing) (b : Bool) → altered (if b then stages.Ready else stage_of w h u f.spot) (if b then true else is_admitted h u) (posts_of_task h u) (card_of w h u f) ≡ (if b then admit_root (card_of w h u f) else card_of w h u f)
    of_test u f true = refl
    of_test u f false = refl

-- Start
pub tasks-start : (w : Parts) (h : List Event) (t : TaskId) (a : ℕ) (b : Books) → IsLegal w h → IsAllowed w h (Start t a) → KeepsTasks w h b → KeepsTasks w (h ++ Start t a ∷ []) (after_event w (Start t a) b)
tasks-start w h t a b legal allowed keeps =
    let facts = StartFacts-allowed w h t a allowed in
    let its = placement_fired w h t facts.placement facts.is_placement in
    rw (card_told w h t its.0 b keeps its.1) (keeps-one w h (Start t a) b (record b { tasks = _; queued = _; running = _; coming = _ }) (in_stage stages.Running) t refl keeps refl
    (λ u f named. (
    card-stays w h (Start t a) u f _ _ _ named (stage-start w h t a u f.spot legal allowed) (admitted-other w h legal (Start t a) u refl refl) (made-other h (Start t a) u refl)
    ∙ of_test u f (same_task t u)
    )))
  where
    of_test : (u : TaskId) (f : Firing) (b : Bool) → altered (if b then stages.Running else stage_of w h u f.spot) (is_admitted h u) (posts_of_task h u) (card_of w h u f) ≡ (if b then in_stage stages.Running (card_of w h u f) else card_of w h u f)
    of_test u f true = refl
    of_test u f false = refl

-- End: as yield, or in another way
ends_yield : (w : Parts) (h : List Event) (t : TaskId) (b c : Books) → IsLegal w h → KeepsTasks w h b → c.tasks ≡ moved stages.Ended t b.tasks → KeepsTasks w (h ++ End t ends.Yield ∷ []) c
ends_yield w h t b c legal keeps are =
    keeps-one w h (End t ends.Yield) b c (in_stage stages.Ended) t refl keeps are
    (λ u f named. (
    card-stays w h (End t ends.Yield) u f _ _ _ named (stage-end w h t ends.Yield u f.spot) (admitted-other w h legal (End t ends.Yield) u refl refl) (made-other h (End t ends.Yield) u refl)
    ∙ of_test u f (same_task t u)
    ))
  where
    of_test : (u : TaskId) (f : Firing) (b : Bool) → altered (if b then stages.Ended else stage_of w h u f.spot) (is_admitted h u) (posts_of_task h u) (card_of w h u f) ≡ (if b then in_stage stages.Ended (card_of w h u f) else card_of w h u f)
    of_test u f true = refl
    of_test u f false = refl

ends_last : (w : Parts) (h : List Event) (t : TaskId) (how : EndHow) (b c : Books) → last_by (End t how) ≡ t ∷ [] → IsFired h t → IsLegal w h → KeepsTasks w h b → c.tasks ≡ changed not_admitted (root_of h t) (moved stages.Ended t b.tasks) → KeepsTasks w (h ++ End t how ∷ []) c
ends_last w h t how b c last fired_so legal keeps are =
    keeps-other w h (End t how) b c (λ u card. on (root_of h t) not_admitted u (on t (in_stage stages.Ended) u card)) refl keeps
    (ap names are ∙ (names-changed not_admitted (root_of h t) (moved stages.Ended t b.tasks) ∙ names-changed (in_stage stages.Ended) t b.tasks))
    (λ u. ap (λ cards. card_at cards u) are ∙ card-twice not_admitted (in_stage stages.Ended) b.tasks (root_of h t) t u)
    (λ u f named. (
    card-stays w h (End t how) u f _ _ _ named (stage-end w h t how u f.spot) (admitted-last w h legal (End t how) t u last refl fired_so) (made-other h (End t how) u refl)
    ∙ of_tests u f (same_task t u) (same_task (root_of h t) u)
    ))
  where
    of_tests : (u : TaskId) (f : Firing) (a b : Bool) → altered (if a then stages.Ended else stage_of w h u f.spot) (if b then false else is_admitted h u) (posts_of_task h u) (card_of w h u f)
        ≡ (if b then not_admitted (if a then in_stage stages.Ended (card_of w h u f) else card_of w h u f) else if a then in_stage stages.Ended (card_of w h u f) else card_of w h u f)
    of_tests u f true true = refl
    of_tests u f true false = refl
    of_tests u f false true = refl
    of_tests u f false false = refl

pub tasks-end : (w : Parts) (h : List Event) (t : TaskId) (how : EndHow) (b : Books) → IsLegal w h → IsAllowed w h (End t how) → KeepsTasks w h b → KeepsTasks w (h ++ End t how ∷ []) (after_event w (End t how) b)
tasks-end w h t how b legal allowed keeps =
    let placed = ArePlaced-legal w h legal in
    let its = placed.all_fired t (placed.lists.put_started t (RunningFacts-allowed w h t how allowed).started_so) in
    rw (card_told w h t its.0 b keeps its.1) (of_how how its)
  where
    of_last : (how : EndHow) → last_by (End t how) ≡ t ∷ [] → IsFired h t → KeepsTasks w (h ++ End t how ∷ []) (after_last (root_of h t) (after_stop t b))
    of_last how last fired_so = ends_last w h t how b (after_last (root_of h t) (after_stop t b)) last fired_so legal keeps (tasks-last (root_of h t) (after_stop t b))

    of_how : (how : EndHow) → (fired_so : IsFired h t) → KeepsTasks w (h ++ End t how ∷ []) (after_end t how (card_of w h t fired_so.0) b)
    of_how ends.Yield fired_so = ends_yield w h t b (after_yield t (card_of w h t fired_so.0) b) legal keeps refl
    of_how ends.Done fired_so = of_last ends.Done refl fired_so
    of_how (ends.Failed v) fired_so = of_last (ends.Failed v) refl fired_so
    of_how ends.Shed fired_so = of_last ends.Shed refl fired_so

-- Put: of a task alone, or with one that is dropped
puts_alone : (w : Parts) (h : List Event) (t : TaskId) (b c : Books) → IsLegal w h → IsAllowed w h (Put t None) → KeepsTasks w h b → c.tasks ≡ moved stages.Queued t b.tasks → KeepsTasks w (h ++ Put t None ∷ []) c
puts_alone w h t b c legal allowed keeps are =
    keeps-one w h (Put t None) b c (in_stage stages.Queued) t refl keeps are
    (λ u f named. (
    card-stays w h (Put t None) u f _ _ _ named (stage-put w h t None u f.spot legal allowed) (admitted-other w h legal (Put t None) u refl refl) (made-other h (Put t None) u refl)
    ∙ of_test u f (same_task t u)
    ))
  where
    of_test : (u : TaskId) (f : Firing) (b : Bool) → altered (if b then stages.Queued else stage_of w h u f.spot) (is_admitted h u) (posts_of_task h u) (card_of w h u f) ≡ (if b then in_stage stages.Queued (card_of w h u f) else card_of w h u f)
    of_test u f true = refl
    of_test u f false = refl

puts_dropping : (w : Parts) (h : List Event) (t x : TaskId) (b c : Books) → IsFired h x → IsLegal w h → IsAllowed w h (Put t (Some x)) → KeepsTasks w h b
    → c.tasks ≡ moved stages.Queued t (changed not_admitted (root_of h x) (moved stages.Dropped x b.tasks)) → KeepsTasks w (h ++ Put t (Some x) ∷ []) c
puts_dropping w h t x b c fired_so legal allowed keeps are =
    keeps-other w h (Put t (Some x)) b c (λ u card. on t (in_stage stages.Queued) u (on (root_of h x) not_admitted u (on x (in_stage stages.Dropped) u card))) refl keeps
    (ap names are ∙ (names-changed (in_stage stages.Queued) t (changed not_admitted (root_of h x) (moved stages.Dropped x b.tasks)) ∙ (names-changed not_admitted (root_of h x) (moved stages.Dropped x b.tasks) ∙ names-changed (in_stage stages.Dropped) x b.tasks)))
    (λ u. ap (λ cards. card_at cards u) are
    ∙ (card-on (in_stage stages.Queued) (changed not_admitted (root_of h x) (moved stages.Dropped x b.tasks)) t u
    ∙ (ap (option_map (on t (in_stage stages.Queued) u)) (card-twice not_admitted (in_stage stages.Dropped) b.tasks (root_of h x) x u) ∙ map_map (on t (in_stage stages.Queued) u) _ (card_at b.tasks u))))
    (λ u f named. (
    card-stays w h (Put t (Some x)) u f _ _ _ named (stage-put w h t (Some x) u f.spot legal allowed) (admitted-last w h legal (Put t (Some x)) x u refl refl fired_so) (made-other h (Put t (Some x)) u refl)
    ∙ (ap (λ d. altered (if same_task t u then stages.Queued else if d then stages.Dropped else stage_of w h u f.spot) (if same_task (root_of h x) u then false else is_admitted h u) (posts_of_task h u) (card_of w h u f)) (or-false (same_task u x) ∙ same_task-sym u x)
    ∙ of_tests u f (same_task t u) (same_task x u) (same_task (root_of h x) u))
    ))
  where
    of_tests : (u : TaskId) (f : Firing) (a d r : Bool) → altered (if a then stages.Queued else if d then stages.Dropped else stage_of w h u f.spot) (if r then false else is_admitted h u) (posts_of_task h u) (card_of w h u f)
        ≡ (if a then in_stage stages.Queued (if r then not_admitted (if d then in_stage stages.Dropped (card_of w h u f) else card_of w h u f) else if d then in_stage stages.Dropped (card_of w h u f) else card_of w h u f) else (if r then not_admitted (if d then in_stage stages.Dropped (card_of w h u f) else card_of w h u f) else if d then in_stage stages.Dropped (card_of w h u f) else card_of w h u f))
    of_tests u f true true true = refl
    of_tests u f true true false = refl
    of_tests u f true false true = refl
    of_tests u f true false false = refl
    of_tests u f false true true = refl
    of_tests u f false true false = refl
    of_tests u f false false true = refl
    of_tests u f false false false = refl

pub tasks-put : (w : Parts) (h : List Event) (t : TaskId) (d : Option TaskId) (b : Books) → IsLegal w h → IsAllowed w h (Put t d) → KeepsTasks w h b → KeepsTasks w (h ++ Put t d ∷ []) (after_event w (Put t d) b)
tasks-put w h t None b legal allowed keeps =
    let facts = PutFacts-allowed w h t None allowed in
    rw (card_told w h t facts.firing b keeps facts.is_firing) (puts_alone w h t b (record b { tasks = _; queued = _ }) legal allowed keeps refl)
tasks-put w h t (Some x) b legal allowed keeps =
    let facts = PutFacts-allowed w h t (Some x) allowed in
    let placed = ArePlaced-legal w h legal in
    let was = new_drop w h (Put t (Some x)) x allowed (rw (same_task-self x) refl) in
    let its = placed.all_fired x was.1.put_so in
    rw (card_told w h t facts.firing b keeps facts.is_firing, card_told w h x its.0 b keeps its.1) (puts_dropping w h t x b (record (after_last (root_of h x) (after_discard x its.0.spot (queue_of_spot w its.0.spot) b)) { tasks = _; queued = _ }) its legal allowed keeps (ap (moved stages.Queued t) (tasks-last (root_of h x) (after_discard x its.0.spot (queue_of_spot w its.0.spot) b))))
