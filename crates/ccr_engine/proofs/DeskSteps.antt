-- The desk after each event.
use Rattle.std.proofs.Common.{◌≡◌, ◌∙◌, ℕ, ◌+◌, max, Bool, true, false, ◌&&◌, ◌||◌, List, [], ◌∷◌, ◌++◌, length, take, Some, refl, ap, sym, subst, arith}
use Rattle.std.specs.Prelude.{◌==◌, if◌then◌else◌}
use Rattle.std.specs.List.{slice_get}
use Rattle.std.proofs.lemmas.Bool.Decides.{nat_tests}
use Rattle.std.proofs.lemmas.List.{length-map}
use Rattle.ccr_base.specs.declared.names.TaskId.{TaskId}
use Rattle.ccr_base.specs.Names.{same_task}
use Rattle.ccr_base.specs.Lists.{has_number}
use Rattle.ccr_wiring.specs.declared.parts.Parts.{Parts}
use Rattle.ccr_model.specs.declared.history.Event.{Event}
use Rattle.ccr_model.specs.declared.history.Event.TheVariants.{Post, Fire, Admit, Put, Start, End}
use Rattle.ccr_model.specs.Firings.{Firing, firings, firing_named, fired}
use Rattle.ccr_model.specs.Sites.{before}
use Rattle.ccr_model.specs.Legal.{IsAllowed, IsLegal}
use Rattle.ccr_model.specs.Order.{next_attempt}
use Rattle.ccr_model.specs.Rules.{needs_no_admission}
use Rattle.ccr_model.proofs.OneMoreEvent.{fired-fire}
use Rattle.ccr_base.proofs.SameNames.{same_task-is}
use Rattle.ccr_model.proofs.FiredTasks.{placement_fired}
use Rattle.ccr_model.proofs.WhoWasPut.{PutFacts-allowed}
use Rattle.ccr_model.proofs.AllowedFirings.{firings-other}
use Rattle.ccr_model.proofs.Cutting.{AdmitFacts-allowed}
use Rattle.ccr_ledger.specs.declared.cards.Card.{Card}
use Rattle.ccr_ledger.specs.Books.{Books}
use Rattle.ccr_ledger.specs.Events.{after_event}
use Rattle.ccr_ledger.specs.Kept.{Keeps}
use Rattle.ccr_engine.specs.Ready.{AreReady}
use Rattle.ccr_engine.specs.Desk.{Desk, Stands, TablesTell, Follows, after_attempt, after_ready, is_number_of}
use Rattle.ccr_engine.proofs.Posters.{done-event}
use Rattle.ccr_engine.proofs.ReadyNumbers.{ready-fire, ready-admit, ready-put, ready-other}
use Rattle.ccr_engine.proofs.PartsAreTold.{touched_kept, domains_kept, queues_kept}

-- a task stands at the index of its firing among those that fired
pub fired_at_number : (h : List Event) (t : TaskId) (f : Firing) → firing_named h t ≡ Some f → slice_get (fired h) (length (firings (before t h))) ≡ Some t
fired_at_number [] t f is = absurd (cc)
fired_at_number (Fire u s ms cs ∷ h) t f is = of_test (same_task u t) refl is (fired_at_number h t f)
  where
    of_test : (b : Bool) → same_task u t ≡ b → (if b then Some (record { task = u; spot = s; messages = ms; cuts = cs }) else firing_named h t) ≡ Some f → (firing_named h t ≡ Some f → slice_get (fired h) (length (firings (before t h))) ≡ Some t) → slice_get (fired (Fire u s ms cs ∷ h)) (length (firings (if b then [] else Fire u s ms cs ∷ before t h))) ≡ Some t
    of_test true e at rest = ap Some (same_task-is u t e)
    of_test false e at rest = rest at
fired_at_number (Post m ∷ h) t f is = fired_at_number h t f is
fired_at_number (Admit u ∷ h) t f is = fired_at_number h t f is
fired_at_number (Put u d ∷ h) t f is = fired_at_number h t f is
fired_at_number (Start u a ∷ h) t f is = fired_at_number h t f is
fired_at_number (End u how ∷ h) t f is = fired_at_number h t f is

next-push : (c : ℕ) (ts : List TaskId) (t : TaskId) → next_attempt c (ts ++ t ∷ []) ≡ (if t.actor == c then max (t.attempt + 1) (next_attempt c ts) else next_attempt c ts)
next-push c [] t = refl
next-push c (x ∷ ts) t = grind (arith, nat_tests, next-push c ts t)

pub attempt_kept : (c : ℕ) (h : List Event) (e : Event) (n : ℕ) → n ≡ next_attempt c (fired h) → after_attempt c e n ≡ next_attempt c (fired (h ++ e ∷ []))
attempt_kept c h (Fire t s ms cs) n known = rw (fired-fire, next-push, known) refl
attempt_kept c h (Post m) n known = rw (firings-other h (Post m) refl) known
attempt_kept c h (Admit t) n known = rw (firings-other h (Admit t) refl) known
attempt_kept c h (Put t d) n known = rw (firings-other h (Put t d) refl) known
attempt_kept c h (Start t a) n known = rw (firings-other h (Start t a) refl) known
attempt_kept c h (End t how) n known = rw (firings-other h (End t how) refl) known

where_needed : (needs there was : Bool) → (if needs then there || was else was) ≡ (there && needs) || was
where_needed true true was = refl
where_needed true false was = refl
where_needed false true was = refl
where_needed false false was = refl

module _ (w : Parts) (h : List Event) (b : Books) (keeps : Keeps w h b) where
  number_known : (t : TaskId) (f : Firing) (index : ℕ) → firing_named h t ≡ Some f → is_number_of b t index ≡ (index == length (firings (before t h)))
  number_known t f index is = rw (keeps.tasks.cards t, is) refl

  tasks_counted : length b.tasks ≡ length (fired h)
  tasks_counted = sym (length-map b.tasks (λ (entry : TaskId × Card). entry.0)) ∙ ap length keeps.tasks.names

  ready_kept : (e : Event) (old new : List ℕ) → IsLegal w h → IsAllowed w h e → AreReady w h old → ((index : ℕ) → has_number new index ≡ after_ready w b e old index) → AreReady w (h ++ e ∷ []) new
  ready_kept (Fire t s ms cs) old new legal allowed known changed = ready-fire w h t s ms cs old new legal allowed known (λ index. subst (λ n. has_number new index ≡ ((index == n) && needs_no_admission w s) || has_number old index) tasks_counted (changed index ∙ where_needed (needs_no_admission w s) (index == length b.tasks) (has_number old index)))
  ready_kept (Admit t) old new legal allowed known changed =
      let facts = AdmitFacts-allowed w h t allowed in
      let fired_so = placement_fired w h t facts.placement facts.is_placement in
      ready-admit w h t (length (firings (before t h))) old new legal allowed (fired_at_number h t fired_so.0 fired_so.1) known (λ index. rw (← number_known t fired_so.0 index fired_so.1) (changed index))
  ready_kept (Put t d) old new legal allowed known changed =
      let facts = PutFacts-allowed w h t d allowed in
      ready-put w h t d (length (firings (before t h))) old new legal (fired_at_number h t facts.firing facts.is_firing) known (λ index. rw (← number_known t facts.firing index facts.is_firing) (changed index))
  ready_kept (Post m) old new legal allowed known changed = λ index. changed index ∙ ready-other w h (Post m) old refl refl refl known index
  ready_kept (Start t a) old new legal allowed known changed = λ index. changed index ∙ ready-other w h (Start t a) old refl refl refl known index
  ready_kept (End t how) old new legal allowed known changed = λ index. changed index ∙ ready-other w h (End t how) old refl refl refl known index

-- after each allowed event the desk still says what the model says
pub stands-event : (w : Parts) (c : ℕ) (h : List Event) (e : Event) (old new : Desk) → IsLegal w h → IsAllowed w h e → TablesTell w h old.books → Keeps w (h ++ e ∷ []) (after_event w e old.books) → Stands w c h old → Follows w c e old new → Stands w c (h ++ e ∷ []) new
stands-event w c h e old new legal allowed told keeps stands follows = record {
  books = rw follows.books keeps;
  attempt = follows.attempt ∙ attempt_kept c h e old.attempt stands.attempt;
  poster = rw follows.poster (done-event h e 0 (take old.poster w.posters) stands.poster);
  touched = rw follows.blocked (touched_kept w c h old.books told e old.touched new.touched old.blocked legal stands.touched follows.touched);
  lowest = follows.touched.least stands.lowest;
  blocked = rw follows.blocked stands.blocked;
  domains = domains_kept w c h old.books told e old.domains new.domains legal allowed stands.domains follows.domains;
  lowest_domain = follows.domains.least stands.lowest_domain;
  ready = ready_kept w h old.books stands.books e old.ready new.ready legal allowed stands.ready follows.ready;
  least = follows.least stands.least;
  queues = queues_kept w c h old.books told e old.queues new.queues legal allowed stands.queues follows.queues;
  lowest_queue = follows.queues.least stands.lowest_queue;
}
