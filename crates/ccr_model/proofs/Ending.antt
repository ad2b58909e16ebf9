-- Who ended, and how, along a legal history.
use Rattle.std.proofs.Common.{◌≡◌, true, false, List, [], ◌∷◌, ◌++◌, ◌⊎◌, inl, inr, refl, append-nil, option_to_list}
use Rattle.ccr_base.specs.declared.names.TaskId.{TaskId}
use Rattle.ccr_base.specs.Names.{has_task}
use Rattle.ccr_wiring.specs.declared.parts.Parts.{Parts}
use Rattle.ccr_model.specs.declared.history.EndHow.{EndHow}
use Rattle.ccr_model.specs.declared.history.EndHow.TheVariants as ends
use Rattle.ccr_model.specs.declared.history.Event.{Event}
use Rattle.ccr_model.specs.declared.history.Event.TheVariants.{Post, Fire, Admit, Put, Start, End}
use Rattle.ccr_model.specs.Firings.{started, started_by, dropped, dropped_by, ended, ended_by, yielded, yielded_by, last_segments, last_by}
use Rattle.ccr_model.specs.Tasks.{running}
use Rattle.ccr_model.specs.Legal.{IsAllowed, IsLegal}
use Rattle.ccr_model.specs.Consequences.{are_distinct_tasks}
use Rattle.ccr_model.proofs.PostNames.{refused_not}
use Rattle.ccr_model.proofs.OneMoreEvent.{started-push, dropped-push, ended-push, yielded-push, last-push}
use Rattle.ccr_model.proofs.LegalParts.{along_legal}
use Rattle.ccr_model.proofs.TasksLeft.{of_without, distinct-push}
use Rattle.ccr_base.proofs.Booleans.{refuted, no_both}
use Rattle.ccr_model.proofs.TaskLists.{of_more, among_left, among_right, not_more, of_one, not_one, not_within}
use Rattle.ccr_model.proofs.WhoWasPut.{ArePlaced-legal, new_drop}

-- a running task started and didn't end
pub record RunningFacts (h : List Event) (t : TaskId) : Type 0 where
  pub started_so : has_task (started h) t ≡ true
  pub not_ended : has_task (ended h) t ≡ false

pub RunningFacts-running : (h : List Event) (t : TaskId) → has_task (running h) t ≡ true → RunningFacts h t
RunningFacts-running h t is =
    let parts = of_without (started h) (ended h) t is in
    record { started_so = parts.0; not_ended = parts.1 }

pub RunningFacts-allowed : (w : Parts) (h : List Event) (t : TaskId) (how : EndHow) → IsAllowed w h (End t how) → RunningFacts h t
RunningFacts-allowed w h t how allowed = RunningFacts-running h t (refused_not (has_task (running h) t) _ _ allowed).0

-- of those started, dropped, ended, suspended and last: who ended had started; who was suspended ended, once, and isn't a last one; a last one ended or was dropped
pub record EndLists (ss ds es ys ls : List TaskId) : Type 0 where
  pub started_ended : (t : TaskId) → has_task es t ≡ true → has_task ss t ≡ true
  pub ended_yielded : (t : TaskId) → has_task ys t ≡ true → has_task es t ≡ true
  pub once : are_distinct_tasks ys ≡ true
  pub last_ends : (t : TaskId) → has_task ls t ≡ true → (has_task es t ≡ true) ⊎ (has_task ds t ≡ true)
  pub not_both : (t : TaskId) → has_task ys t ≡ true → has_task ls t ≡ false

EndLists-start : (ss ds es ys ls : List TaskId) (t : TaskId) → EndLists ss ds es ys ls → EndLists (ss ++ t ∷ []) ds es ys ls
EndLists-start ss ds es ys ls t known = record {
  started_ended = λ u among. among_left ss (t ∷ []) u (known.started_ended u among);
  ended_yielded = known.ended_yielded;
  once = known.once;
  last_ends = known.last_ends;
  not_both = known.not_both;
}

EndLists-put : (ss ds es ys ls more : List TaskId) → ((u : TaskId) → has_task more u ≡ true → has_task ss u ≡ false) → EndLists ss ds es ys ls → EndLists ss (ds ++ more) es ys (ls ++ more)
EndLists-put ss ds es ys ls more fresh known = record {
  started_ended = known.started_ended;
  ended_yielded = known.ended_yielded;
  once = known.once;
  last_ends = λ u among. of_more ls more u ((has_task es u ≡ true) ⊎ (has_task (ds ++ more) u ≡ true)) among (λ old. wider u (known.last_ends u old)) (λ new. inr (among_right ds more u new));
  not_both = λ u among. not_more ls more u (known.not_both u among) (refuted (has_task more u) (λ is. no_both (known.started_ended u (known.ended_yielded u among)) (fresh u is)));
}
  where
    wider : (u : TaskId) → (has_task es u ≡ true) ⊎ (has_task ds u ≡ true) → (has_task es u ≡ true) ⊎ (has_task (ds ++ more) u ≡ true)
    wider u (inl e) = inl e
    wider u (inr d) = inr (among_left ds more u d)

ended_more : (es ds : List TaskId) (t u : TaskId) → (has_task es u ≡ true) ⊎ (has_task ds u ≡ true) → (has_task (es ++ t ∷ []) u ≡ true) ⊎ (has_task ds u ≡ true)
ended_more es ds t u (inl e) = inl (among_left es (t ∷ []) u e)
ended_more es ds t u (inr d) = inr d

EndLists-last : (ss ds es ys ls : List TaskId) (t : TaskId) → has_task ss t ≡ true → has_task es t ≡ false → EndLists ss ds es ys ls → EndLists ss ds (es ++ t ∷ []) ys (ls ++ t ∷ [])
EndLists-last ss ds es ys ls t there new known = record {
  started_ended = λ u among. of_more es (t ∷ []) u (has_task ss u ≡ true) among (known.started_ended u) (λ one. rw (of_one t u one) there);
  ended_yielded = λ u among. among_left es (t ∷ []) u (known.ended_yielded u among);
  once = known.once;
  last_ends = λ u among. of_more ls (t ∷ []) u ((has_task (es ++ t ∷ []) u ≡ true) ⊎ (has_task ds u ≡ true)) among (λ old. ended_more es ds t u (known.last_ends u old)) (λ one. inl (among_right es (t ∷ []) u one));
  not_both = λ u among. not_more ls (t ∷ []) u (known.not_both u among) (not_one t u ys (not_within ys es t (known.ended_yielded t) new) among);
}

EndLists-yield : (ss ds es ys ls : List TaskId) (t : TaskId) → has_task ss t ≡ true → has_task ds t ≡ false → has_task es t ≡ false → EndLists ss ds es ys ls → EndLists ss ds (es ++ t ∷ []) (ys ++ t ∷ []) ls
EndLists-yield ss ds es ys ls t there out new known = record {
  started_ended = λ u among. of_more es (t ∷ []) u (has_task ss u ≡ true) among (known.started_ended u) (λ one. rw (of_one t u one) there);
  ended_yielded = λ u among. of_more ys (t ∷ []) u (has_task (es ++ t ∷ []) u ≡ true) among (λ old. among_left es (t ∷ []) u (known.ended_yielded u old)) (λ one. among_right es (t ∷ []) u one);
  once = distinct-push ys t known.once (not_within ys es t (known.ended_yielded t) new);
  last_ends = λ u among. ended_more es ds t u (known.last_ends u among);
  not_both = λ u among. of_more ys (t ∷ []) u (has_task ls u ≡ false) among (known.not_both u) (λ one. rw (of_one t u one) not_last);
}
  where
    neither_way : (has_task es t ≡ true) ⊎ (has_task ds t ≡ true) → has_task es t ≡ true
    neither_way (inl e) = e
    neither_way (inr d) = absurd (cc)

    not_last : has_task ls t ≡ false
    not_last = not_within ls es t (λ is. neither_way (known.last_ends t is)) new

-- what is known along a legal history
abbrev pub AreEnded : List Event → Type 0
AreEnded h = EndLists (started h) (dropped h) (ended h) (yielded h) (last_segments h)

AreEnded-other : (h : List Event) (e : Event) → started_by e ≡ [] → dropped_by e ≡ [] → ended_by e ≡ [] → yielded_by e ≡ [] → last_by e ≡ [] → AreEnded h → AreEnded (h ++ e ∷ [])
AreEnded-other h e no_start no_drop no_end no_yield no_last known =
    rw (started-push, dropped-push, ended-push, yielded-push, last-push, no_start, no_drop, no_end, no_yield, no_last, append-nil (started h), append-nil (dropped h), append-nil (ended h), append-nil (yielded h), append-nil (last_segments h)) known

AreEnded-last : (h : List Event) (t : TaskId) (how : EndHow) → last_by (End t how) ≡ t ∷ [] → yielded_by (End t how) ≡ [] → RunningFacts h t → AreEnded h → AreEnded (h ++ End t how ∷ [])
AreEnded-last h t how last no_yield runs known =
    rw (started-push, dropped-push, ended-push, yielded-push, last-push, no_yield, last, append-nil (started h), append-nil (dropped h), append-nil (yielded h)) (EndLists-last (started h) (dropped h) (ended h) (yielded h) (last_segments h) t runs.started_so runs.not_ended known)

AreEnded_kept : (w : Parts) (h : List Event) (e : Event) → IsLegal w h → IsAllowed w h e → AreEnded h → AreEnded (h ++ e ∷ [])
AreEnded_kept w h (Start t a) legal allowed known =
    rw (started-push, dropped-push, ended-push, yielded-push, last-push, append-nil (dropped h), append-nil (ended h), append-nil (yielded h), append-nil (last_segments h)) (EndLists-start (started h) (dropped h) (ended h) (yielded h) (last_segments h) t known)
AreEnded_kept w h (Put t d) legal allowed known =
    rw (started-push, dropped-push, ended-push, yielded-push, last-push, append-nil (started h), append-nil (ended h), append-nil (yielded h)) (EndLists-put (started h) (dropped h) (ended h) (yielded h) (last_segments h) (option_to_list d) (λ u one. (new_drop w h (Put t d) u allowed one).1.not_started) known)
AreEnded_kept w h (End t ends.Yield) legal allowed known =
    let runs = RunningFacts-allowed w h t ends.Yield allowed in
    rw (started-push, dropped-push, ended-push, yielded-push, last-push, append-nil (started h), append-nil (dropped h), append-nil (last_segments h)) (EndLists-yield (started h) (dropped h) (ended h) (yielded h) (last_segments h) t runs.started_so ((ArePlaced-legal w h legal).lists.not_both t runs.started_so) runs.not_ended known)
AreEnded_kept w h (End t ends.Done) legal allowed known = AreEnded-last h t ends.Done refl refl (RunningFacts-allowed w h t ends.Done allowed) known
AreEnded_kept w h (End t (ends.Failed v)) legal allowed known = AreEnded-last h t (ends.Failed v) refl refl (RunningFacts-allowed w h t (ends.Failed v) allowed) known
AreEnded_kept w h (End t ends.Shed) legal allowed known = AreEnded-last h t ends.Shed refl refl (RunningFacts-allowed w h t ends.Shed allowed) known
AreEnded_kept w h (Post m) legal allowed known = AreEnded-other h (Post m) refl refl refl refl refl known
AreEnded_kept w h (Fire t s ms cs) legal allowed known = AreEnded-other h (Fire t s ms cs) refl refl refl refl refl known
AreEnded_kept w h (Admit t) legal allowed known = AreEnded-other h (Admit t) refl refl refl refl refl known

pub AreEnded-legal : (w : Parts) (h : List Event) → IsLegal w h → AreEnded h
AreEnded-legal w h legal = along_legal w AreEnded (AreEnded_kept w) (record { started_ended = λ t is. absurd (cc); ended_yielded = λ t is. absurd (cc); once = refl; last_ends = λ t is. absurd (cc); not_both = λ t is. refl }) h legal
