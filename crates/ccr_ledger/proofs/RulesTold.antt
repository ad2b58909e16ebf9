-- What the rules ask of a task by the tables is what the model says, where they keep what it says.
use Rattle.std.proofs.Common.{◌≡◌, ◌∙◌, ℕ, suc, Bool, true, false, not, ◌&&◌, ◌||◌, List, [], ◌∷◌, length, map, filter, Option, None, Some, refl, ap, sym, arith}
use Rattle.std.specs.Prelude.{◌==◌, nat_lt, if◌then◌else◌, option_map}
use Rattle.std.specs.List.{list_any}
use Rattle.std.specs.Option.{option_map_or}
use Rattle.std.proofs.lemmas.Bool.Decides.{nat_tests}
use Rattle.ccr_base.specs.declared.names.TaskId.{TaskId}
use Rattle.ccr_base.specs.Names.{same_task, has_task}
use Rattle.ccr_wiring.specs.declared.parts.Parts.{Parts}
use Rattle.ccr_wiring.specs.Wirings.{branch_of}
use Rattle.ccr_wiring.specs.Valid.{IsValid}
use Rattle.ccr_wiring.proofs.Soundness.{sound}
use Rattle.ccr_model.specs.declared.history.Event.{Event}
use Rattle.ccr_model.specs.Firings.{Firing, firing_named, fired, cut, ever_admitted, put, dropped, started, ended}
use Rattle.ccr_model.specs.Tasks.{running, running_by, has_post_left, count_unfinished}
use Rattle.ccr_model.specs.Live.{is_none_of}
use Rattle.ccr_model.specs.Rules.{is_first, is_oldest_waiting, needs_no_admission, may_put, is_oldest_queued}
use Rattle.ccr_model.specs.Legal.{IsLegal}
use Rattle.ccr_base.proofs.Booleans.{and_false}
use Rattle.ccr_base.proofs.SameNames.{same_task-sym}
use Rattle.ccr_model.proofs.TasksLeft.{filter_on}
use Rattle.ccr_model.proofs.WhoWasPut.{ArePlaced-legal}
use Rattle.ccr_model.proofs.Ending.{AreEnded-legal}
use Rattle.ccr_model.proofs.PlacementDomains.{placement-within}
use Rattle.ccr_ledger.specs.Rows.{row}
use Rattle.ccr_ledger.specs.declared.cards.Card.{Card}
use Rattle.ccr_ledger.specs.declared.cards.Runner.{Runner}
use Rattle.ccr_ledger.specs.declared.cards.TaskStage.TheVariants as stages
use Rattle.ccr_ledger.specs.Books.{Books, card_at, runners, runners_of}
use Rattle.ccr_ledger.specs.Asked.{has_fired, waits_first, is_ready_stage, is_ready, queued_first, is_busy, runs, has_more, unfinished}
use Rattle.ccr_ledger.specs.Kept.{Keeps, card_of}
use Rattle.ccr_ledger.proofs.Telling.{with_placement}

-- over plain cards: who has one stands among their names
has_card-named : (cards : List (TaskId × Card)) (t : TaskId) → option_map_or (λ (card : Card). true) (card_at cards t) false ≡ has_task (map (λ (e : TaskId × Card). e.0) cards) t
has_card-named [] t = refl
has_card-named (e ∷ cards) t = of_test (same_task t e.0) (has_card-named cards t)
  where
    of_test : (b : Bool) → option_map_or (λ (card : Card). true) (card_at cards t) false ≡ has_task (map (λ (e : TaskId × Card). e.0) cards) t
        → option_map_or (λ (card : Card). true) (if b then Some e.1 else card_at cards t) false ≡ b || has_task (map (λ (e : TaskId × Card). e.0) cards) t
    of_test true rest = refl
    of_test false rest = rest

-- over plain tests: who ended, started or was dropped was put; who may be put is none of them, and not cut
stage-ready : (e s d p c n : Bool) → (e ≡ true → p ≡ true) → (s ≡ true → p ≡ true) → (d ≡ true → p ≡ true)
    → is_ready_stage (if e then stages.Ended else if s then stages.Running else if d then stages.Dropped else if p then stages.Queued else if c then stages.Cut else if n then stages.Ready else stages.Waiting) ≡ not p && not c && n
stage-ready true s d true c n es ss ds = refl
stage-ready false true d true c n es ss ds = refl
stage-ready false false true true c n es ss ds = refl
stage-ready false false false true c n es ss ds = refl
stage-ready true s d false c n es ss ds = let never = es refl in absurd (cc)
stage-ready false true d false c n es ss ds = let never = ss refl in absurd (cc)
stage-ready false false true false c n es ss ds = let never = ds refl in absurd (cc)
stage-ready false false false false true n es ss ds = refl
stage-ready false false false false false true es ss ds = refl
stage-ready false false false false false false es ss ds = refl

-- over plain runners: by their tasks, and by their actors
runs-named : (rs : List Runner) (t : TaskId) → list_any (λ (r : Runner). same_task r.task t) rs ≡ has_task (runners rs) t
runs-named [] t = refl
runs-named (r ∷ rs) t = rw (same_task-sym r.task t, runs-named rs t) refl

busy-some : (a : ℕ) (rs : List Runner) → list_any (λ (r : Runner). r.actor == a) rs ≡ not (is_none_of (runners_of a rs))
busy-some a [] = refl
busy-some a (r ∷ rs) = of_test (r.actor == a) (busy-some a rs)
  where
    some : (n : ℕ) → true ≡ not (suc n == 0)
    some n = grind (arith, nat_tests)

    of_test : (b : Bool) → list_any (λ (r : Runner). r.actor == a) rs ≡ not (is_none_of (runners_of a rs))
        → b || list_any (λ (r : Runner). r.actor == a) rs ≡ not (is_none_of (runners (if b then r ∷ filter (λ (r : Runner). r.actor == a) rs else filter (λ (r : Runner). r.actor == a) rs)))
    of_test true rest = some (length (runners_of a rs))
    of_test false rest = rest

count-named : (p : TaskId → Bool) (rs : List Runner) → length (filter (λ (r : Runner). p r.task) rs) ≡ length (filter p (runners rs))
count-named p [] = refl
count-named p (r ∷ rs) = of_test (p r.task) (count-named p rs)
  where
    of_test : (b : Bool) → length (filter (λ (r : Runner). p r.task) rs) ≡ length (filter p (runners rs))
        → length (if b then r ∷ filter (λ (r : Runner). p r.task) rs else filter (λ (r : Runner). p r.task) rs) ≡ length (if b then r.task ∷ filter p (runners rs) else filter p (runners rs))
    of_test true rest = ap suc rest
    of_test false rest = rest

none-below : (n : ℕ) → false ≡ nat_lt n 0
none-below n = grind (arith, nat_tests)

module _ (w : Parts) (valid : IsValid w) (h : List Event) (legal : IsLegal w h) (b : Books) (keeps : Keeps w h b) where
  pub has_fired_told : (t : TaskId) → has_fired b t ≡ has_task (fired h) t
  has_fired_told t = has_card-named b.tasks t ∙ ap (λ ts. has_task ts t) keeps.tasks.names

  pub waits_first_told : (t : TaskId) → waits_first b t ≡ is_oldest_waiting w h t
  waits_first_told t = rw (keeps.tasks.cards t) (of_firing (firing_named h t) refl)
    where
      of_firing : (o : Option Firing) → firing_named h t ≡ o → option_map_or (λ (card : Card). is_first (row b.waiting card.domain) t) (option_map (card_of w h t) o) false ≡ is_oldest_waiting w h t
      of_firing None at = rw at refl
      of_firing (Some f) at =
          let found = with_placement w valid h legal b keeps t f at in
          rw (found.1, found.2, keeps.rows.waiting found.0.domain (placement-within w (branch_of f.spot) found.0 found.1)) refl

  pub queued_first_told : (t : TaskId) → queued_first b t ≡ is_oldest_queued w h t
  queued_first_told t = rw (keeps.tasks.cards t) (of_firing (firing_named h t) refl)
    where
      of_firing : (o : Option Firing) → firing_named h t ≡ o → option_map_or (λ (card : Card). is_first (row b.queued card.queue) t) (option_map (card_of w h t) o) false ≡ is_oldest_queued w h t
      of_firing None at = rw at refl
      of_firing (Some f) at =
          let found = with_placement w valid h legal b keeps t f at in
          rw (found.1, found.2, keeps.rows.queued found.0.branch.queue ((sound w valid).queues (branch_of f.spot) found.0 found.1)) refl

  pub is_ready_told : (t : TaskId) → is_ready b t ≡ may_put w h t
  is_ready_told t = rw (keeps.tasks.cards t) (of_firing (firing_named h t) refl)
    where
      of_firing : (o : Option Firing) → firing_named h t ≡ o → option_map_or (λ (card : Card). is_ready_stage card.stage) (option_map (card_of w h t) o) false ≡ may_put w h t
      of_firing None at = rw at (sym (and_false (not (has_task (put h) t) && not (has_task (cut h) t))))
      of_firing (Some f) at =
          let placed = (ArePlaced-legal w h legal).lists in
          rw at (stage-ready (has_task (ended h) t) (has_task (started h) t) (has_task (dropped h) t) (has_task (put h) t) (has_task (cut h) t) (needs_no_admission w f.spot || has_task (ever_admitted h) t)
          (λ is. placed.put_started t ((AreEnded-legal w h legal).started_ended t is)) (placed.put_started t) (placed.put_dropped t))

  pub is_busy_told : (a : ℕ) → is_busy b a ≡ not (is_none_of (running_by h a))
  is_busy_told a = busy-some a b.running ∙ ap (λ ts. not (is_none_of ts)) (keeps.rows.running_by a)

  pub runs_told : (t : TaskId) → runs b t ≡ has_task (running h) t
  runs_told t = runs-named b.running t ∙ ap (λ ts. has_task ts t) keeps.rows.running

  pub has_more_told : (t : TaskId) → has_more b t ≡ has_post_left w h t
  has_more_told t = rw (keeps.tasks.cards t) (of_firing (firing_named h t) refl)
    where
      of_firing : (o : Option Firing) → firing_named h t ≡ o → option_map_or (λ (card : Card). nat_lt card.made (length card.play.posts)) (option_map (card_of w h t) o) false ≡ has_post_left w h t
      of_firing None at = rw at (none-below _)
      of_firing (Some f) at = refl

  pub unfinished_told : unfinished b ≡ count_unfinished w h
  unfinished_told =
      count-named (has_more b) b.running
      ∙ (ap (λ ts. length (filter (has_more b) ts)) keeps.rows.running ∙ ap length (filter_on (has_more b) (has_post_left w h) (running h) (λ t is. has_more_told t)))
