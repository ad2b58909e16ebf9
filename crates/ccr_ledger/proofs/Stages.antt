-- The stage of each task after each event.
use Rattle.std.proofs.Common.{◌≡◌, ℕ, Bool, true, false, ◌||◌, List, [], ◌∷◌, ◌++◌, Option, refl, ◌∙◌, append-nil, subst, option_to_list}
use Rattle.std.specs.Prelude.{if◌then◌else◌}
use Rattle.std.proofs.Math.Bool.{or-false}
use Rattle.ccr_base.specs.declared.names.TaskId.{TaskId}
use Rattle.ccr_base.specs.declared.names.MsgId.{MsgId}
use Rattle.ccr_base.specs.declared.names.Spot.{Spot}
use Rattle.ccr_base.specs.declared.messages.Msg.{Msg}
use Rattle.ccr_base.specs.Names.{same_task, has_task}
use Rattle.ccr_wiring.specs.declared.parts.Parts.{Parts}
use Rattle.ccr_model.specs.declared.history.Event.{Event}
use Rattle.ccr_model.specs.declared.history.Event.TheVariants.{Post, Fire, Admit, Put, Start, End}
use Rattle.ccr_model.specs.declared.history.EndHow.{EndHow}
use Rattle.ccr_model.specs.Firings.{cut, ever_admitted, admitted_by, put, put_by, dropped, dropped_by, started, started_by, ended, ended_by}
use Rattle.ccr_model.specs.Rules.{needs_no_admission}
use Rattle.ccr_model.specs.Legal.{IsAllowed, IsLegal}
use Rattle.ccr_model.proofs.Allowing.{OneName-legal}
use Rattle.ccr_base.proofs.Booleans.{no_both, refuted}
use Rattle.ccr_model.proofs.Cutting.{AdmitFacts-allowed, CutFacts-legal, waits_unput}
use Rattle.ccr_model.proofs.Ending.{AreEnded-legal}
use Rattle.ccr_model.proofs.AllowedFirings.{WaitingFacts-waiting}
use Rattle.ccr_model.proofs.LegalParts.{legal_push}
use Rattle.ccr_model.proofs.OneMoreEvent.{put-push, started-push, dropped-push, ended-push, ever_admitted-push, cut-push}
use Rattle.ccr_base.proofs.SameNames.{same_task-sym, has_task-append, has_task-push}
use Rattle.ccr_model.proofs.TaskLists.{among_right, not_within}
use Rattle.ccr_model.proofs.WhoWasPut.{ArePlaced-legal, PutFacts-allowed, new_drop}
use Rattle.ccr_model.proofs.LegalIsCovered.{no_member}
use Rattle.ccr_ledger.specs.declared.cards.TaskStage.{TaskStage}
use Rattle.ccr_ledger.specs.declared.cards.TaskStage.TheVariants as stages
use Rattle.ccr_ledger.specs.Kept.{stage_of}
use Rattle.ccr_ledger.proofs.Running.{unended}

-- over plain lists of those that ended, started, were dropped, put, cut and let in
abbrev stage_in : List TaskId → List TaskId → List TaskId → List TaskId → List TaskId → List TaskId → Bool → TaskId → TaskStage
stage_in es ss ds ps cs ls free u =
    if has_task es u then stages.Ended else
    if has_task ss u then stages.Running else
    if has_task ds u then stages.Dropped else
    if has_task ps u then stages.Queued else
    if has_task cs u then stages.Cut else
    if free || has_task ls u then stages.Ready else stages.Waiting

has-last : (ts : List TaskId) (t u : TaskId) → has_task (ts ++ t ∷ []) u ≡ (if same_task t u then true else has_task ts u)
has-last ts t u = rw (has_task-push ts t u, same_task-sym u t) (of_tests (has_task ts u) (same_task t u))
  where
    of_tests : (a b : Bool) → (a || b) ≡ (if b then true else a)
    of_tests true true = refl
    of_tests true false = refl
    of_tests false true = refl
    of_tests false false = refl

-- where u is t the lists that don't have t don't have u
not_this : (ts : List TaskId) (t u : TaskId) → same_task t u ≡ true → has_task ts t ≡ false → has_task ts u ≡ false
not_this ts t u is out = refuted (has_task ts u) (λ among. no_both is (no_member ts t u out among))

in-end : (es ss ds ps cs ls : List TaskId) (free : Bool) (t u : TaskId) → stage_in (es ++ t ∷ []) ss ds ps cs ls free u ≡ (if same_task t u then stages.Ended else stage_in es ss ds ps cs ls free u)
in-end es ss ds ps cs ls free t u = rw (has-last es t u) (of_test (same_task t u))
  where
    others : TaskStage
    others = if has_task ss u then stages.Running else if has_task ds u then stages.Dropped else if has_task ps u then stages.Queued else if has_task cs u then stages.Cut else if free || has_task ls u then stages.Ready else stages.Waiting

    of_test : (b : Bool) → (if (if b then true else has_task es u) then stages.Ended else others) ≡ (if b then stages.Ended else if has_task es u then stages.Ended else others)
    of_test true = refl
    of_test false = refl

in-start : (es ss ds ps cs ls : List TaskId) (free : Bool) (t u : TaskId) → has_task es t ≡ false → stage_in es (ss ++ t ∷ []) ds ps cs ls free u ≡ (if same_task t u then stages.Running else stage_in es ss ds ps cs ls free u)
in-start es ss ds ps cs ls free t u no_end = rw (has-last ss t u) (of_test (same_task t u) refl)
  where
    others : TaskStage
    others = if has_task ds u then stages.Dropped else if has_task ps u then stages.Queued else if has_task cs u then stages.Cut else if free || has_task ls u then stages.Ready else stages.Waiting

    of_test : (b : Bool) → same_task t u ≡ b → (if has_task es u then stages.Ended else if (if b then true else has_task ss u) then stages.Running else others) ≡ (if b then stages.Running else if has_task es u then stages.Ended else if has_task ss u then stages.Running else others)
    of_test true is = rw (not_this es t u is no_end) refl
    of_test false is = refl

-- in none of the lists
pub record IsOut (es ss ds ps : List TaskId) (t : TaskId) : Type 0 where
  pub not_ended : has_task es t ≡ false
  pub not_started : has_task ss t ≡ false
  pub not_dropped : has_task ds t ≡ false
  pub not_put : has_task ps t ≡ false

in-admit : (es ss ds ps cs ls : List TaskId) (free : Bool) (t u : TaskId) → IsOut es ss ds ps t → has_task cs t ≡ false → stage_in es ss ds ps cs (ls ++ t ∷ []) free u ≡ (if same_task t u then stages.Ready else stage_in es ss ds ps cs ls free u)
in-admit es ss ds ps cs ls free t u out no_cut = rw (has-last ls t u) (of_test (same_task t u) refl)
  where
    of_free : (b : Bool) → (if b || true then stages.Ready else stages.Waiting) ≡ stages.Ready
    of_free true = refl
    of_free false = refl

    of_test : (b : Bool) → same_task t u ≡ b
        → (if has_task es u then stages.Ended else if has_task ss u then stages.Running else if has_task ds u then stages.Dropped else if has_task ps u then stages.Queued else if has_task cs u then stages.Cut else if free || (if b then true else has_task ls u) then stages.Ready else stages.Waiting)
        ≡ (if b then stages.Ready else stage_in es ss ds ps cs ls free u)
    of_test true is = rw (not_this es t u is out.not_ended, not_this ss t u is out.not_started, not_this ds t u is out.not_dropped, not_this ps t u is out.not_put, not_this cs t u is no_cut) (of_free free)
    of_test false is = refl

-- some more that are cut
in-cut : (es ss ds ps cs ls more : List TaskId) (free : Bool) (u : TaskId) → (has_task more u ≡ true → IsOut es ss ds ps u) → stage_in es ss ds ps (cs ++ more) ls free u ≡ (if has_task more u then stages.Cut else stage_in es ss ds ps cs ls free u)
in-cut es ss ds ps cs ls more free u outs = rw (has_task-append cs more u) (of_test (has_task more u) refl)
  where
    last : TaskStage
    last = if free || has_task ls u then stages.Ready else stages.Waiting

    of_cut : (b : Bool) → (if b || true then stages.Cut else last) ≡ stages.Cut
    of_cut true = refl
    of_cut false = refl

    of_test : (b : Bool) → has_task more u ≡ b
        → (if has_task es u then stages.Ended else if has_task ss u then stages.Running else if has_task ds u then stages.Dropped else if has_task ps u then stages.Queued else if has_task cs u || b then stages.Cut else last)
        ≡ (if b then stages.Cut else stage_in es ss ds ps cs ls free u)
    of_test true is = let out = outs is in rw (out.not_ended, out.not_started, out.not_dropped, out.not_put) (of_cut (has_task cs u))
    of_test false is = rw (or-false (has_task cs u)) refl

-- one more put, and some dropped
in-put : (es ss ds ps cs ls more : List TaskId) (free : Bool) (t u : TaskId) → IsOut es ss ds ps t → has_task more t ≡ false → (has_task more u ≡ true → (has_task es u ≡ false) × (has_task ss u ≡ false))
    → stage_in es ss (ds ++ more) (ps ++ t ∷ []) cs ls free u ≡ (if same_task t u then stages.Queued else if has_task more u then stages.Dropped else stage_in es ss ds ps cs ls free u)
in-put es ss ds ps cs ls more free t u out kept outs = rw (has-last ps t u, has_task-append ds more u) (of_tests (same_task t u) (has_task more u) refl refl)
  where
    last : TaskStage
    last = if has_task cs u then stages.Cut else if free || has_task ls u then stages.Ready else stages.Waiting

    of_dropped : (b : Bool) (s : TaskStage) → (if b || true then stages.Dropped else s) ≡ stages.Dropped
    of_dropped true s = refl
    of_dropped false s = refl

    of_tests : (a b : Bool) → same_task t u ≡ a → has_task more u ≡ b
        → (if has_task es u then stages.Ended else if has_task ss u then stages.Running else if has_task ds u || b then stages.Dropped else if (if a then true else has_task ps u) then stages.Queued else last)
        ≡ (if a then stages.Queued else if b then stages.Dropped else if has_task es u then stages.Ended else if has_task ss u then stages.Running else if has_task ds u then stages.Dropped else if has_task ps u then stages.Queued else last)
    of_tests true true this is = absurd (no_both is (not_this more t u this kept))
    of_tests true false this is = rw (not_this es t u this out.not_ended, not_this ss t u this out.not_started, not_this ds t u this out.not_dropped) refl
    of_tests false true this is = let its = outs is in rw (its.0, its.1) (of_dropped (has_task ds u) _)
    of_tests false false this is = rw (or-false (has_task ds u)) refl

module _ (w : Parts) (h : List Event) where
  stage-push : (e : Event) (u : TaskId) (s : Spot) → stage_of w (h ++ e ∷ []) u s ≡ stage_in (ended h ++ ended_by e) (started h ++ started_by e) (dropped h ++ dropped_by e) (put h ++ put_by e) (cut h ++ cut (e ∷ [])) (ever_admitted h ++ admitted_by e) (needs_no_admission w s) u
  stage-push e u s = rw (ended-push h e, started-push h e, dropped-push h e, put-push h e, cut-push h e, ever_admitted-push h e) refl

  pub stage-post : (m : Msg) (u : TaskId) (s : Spot) → stage_of w (h ++ Post m ∷ []) u s ≡ stage_of w h u s
  stage-post m u s = stage-push (Post m) u s ∙ rw (append-nil (ended h), append-nil (started h), append-nil (dropped h), append-nil (put h), append-nil (cut h), append-nil (ever_admitted h)) refl

  pub stage-start : (t : TaskId) (a : ℕ) (u : TaskId) (s : Spot) → IsLegal w h → IsAllowed w h (Start t a) → stage_of w (h ++ Start t a ∷ []) u s ≡ (if same_task t u then stages.Running else stage_of w h u s)
  stage-start t a u s legal allowed =
      stage-push (Start t a) u s ∙ rw (append-nil (ended h), append-nil (dropped h), append-nil (put h), append-nil (cut h), append-nil (ever_admitted h)) (in-start (ended h) (started h) (dropped h) (put h) (cut h) (ever_admitted h) (needs_no_admission w s) t u (unended w h t a legal allowed))

  pub stage-end : (t : TaskId) (how : EndHow) (u : TaskId) (s : Spot) → stage_of w (h ++ End t how ∷ []) u s ≡ (if same_task t u then stages.Ended else stage_of w h u s)
  stage-end t how u s =
      stage-push (End t how) u s ∙ rw (append-nil (started h), append-nil (dropped h), append-nil (put h), append-nil (cut h), append-nil (ever_admitted h)) (in-end (ended h) (started h) (dropped h) (put h) (cut h) (ever_admitted h) (needs_no_admission w s) t u)

  -- who wasn't put neither started, was dropped nor ended
  pub unput : (t : TaskId) → IsLegal w h → has_task (put h) t ≡ false → IsOut (ended h) (started h) (dropped h) (put h) t
  unput t legal no_put =
      let placed = ArePlaced-legal w h legal in
      let no_start = not_within (started h) (put h) t (placed.lists.put_started t) no_put in
      record {
        not_ended = not_within (ended h) (started h) t ((AreEnded-legal w h legal).started_ended t) no_start;
        not_started = no_start;
        not_dropped = not_within (dropped h) (put h) t (placed.lists.put_dropped t) no_put;
        not_put = no_put;
      }

  pub stage-admit : (t u : TaskId) (s : Spot) → IsLegal w h → IsAllowed w h (Admit t) → stage_of w (h ++ Admit t ∷ []) u s ≡ (if same_task t u then stages.Ready else stage_of w h u s)
  stage-admit t u s legal allowed =
      let facts = AdmitFacts-allowed w h t allowed in
      let waits = WaitingFacts-waiting w h facts.placement.domain t (OneName-legal w h legal) facts.waits in
      let no_put = waits_unput w h facts.placement.domain t (CutFacts-legal w h legal) waits in
      stage-push (Admit t) u s ∙ rw (append-nil (ended h), append-nil (started h), append-nil (dropped h), append-nil (put h), append-nil (cut h)) (in-admit (ended h) (started h) (dropped h) (put h) (cut h) (ever_admitted h) (needs_no_admission w s) t u (unput t legal no_put) waits.not_cut)

  pub stage-put : (t : TaskId) (d : Option TaskId) (u : TaskId) (s : Spot) → IsLegal w h → IsAllowed w h (Put t d)
      → stage_of w (h ++ Put t d ∷ []) u s ≡ (if same_task t u then stages.Queued else if has_task (option_to_list d) u then stages.Dropped else stage_of w h u s)
  stage-put t d u s legal allowed =
      let facts = PutFacts-allowed w h t d allowed in
      let kept = not_within (option_to_list d) (put h) t (λ is. (new_drop w h (Put t d) t allowed is).1.put_so) facts.new_put in
      stage-push (Put t d) u s ∙ rw (append-nil (ended h), append-nil (started h), append-nil (cut h), append-nil (ever_admitted h)) (in-put (ended h) (started h) (dropped h) (put h) (cut h) (ever_admitted h) (option_to_list d) (needs_no_admission w s) t u (unput t legal facts.new_put) kept
      (λ is. let no_start = (new_drop w h (Put t d) u allowed is).1.not_started in (not_within (ended h) (started h) u ((AreEnded-legal w h legal).started_ended u) no_start, no_start)))

  -- who is cut wasn't put
  pub stage-fire : (t : TaskId) (at : Spot) (ms : List MsgId) (cs : List TaskId) (u : TaskId) (s : Spot) → IsLegal w h → IsAllowed w h (Fire t at ms cs)
      → stage_of w (h ++ Fire t at ms cs ∷ []) u s ≡ (if has_task cs u then stages.Cut else stage_of w h u s)
  stage-fire t at ms cs u s legal allowed =
      stage-push (Fire t at ms cs) u s ∙ rw (append-nil (ended h), append-nil (started h), append-nil (dropped h), append-nil (put h), append-nil (ever_admitted h), append-nil cs) (in-cut (ended h) (started h) (dropped h) (put h) (cut h) (ever_admitted h) cs (needs_no_admission w s) u (λ is. unput u legal (no_put is)))
    where
      no_put : has_task cs u ≡ true → has_task (put h) u ≡ false
      no_put is =
          let e : Event = Fire t at ms cs in
          let cut_so : has_task (cut (h ++ e ∷ [])) u ≡ true = rw (cut-push h e, append-nil cs) (among_right (cut h) cs u is) in
          let put_same : put (h ++ e ∷ []) ≡ put h = rw (put-push h e) (append-nil (put h)) in
          subst (λ ts. has_task ts u ≡ false) put_same ((CutFacts-legal w (h ++ e ∷ []) (legal_push w [] h e legal allowed)).not_put u cut_so)
