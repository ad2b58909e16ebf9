-- An entry leaves the objects of all other places as they were.
use Rattle.std.proofs.Common.{◌≡◌, ◌⊎◌, inl, inr, ℕ, Bool, true, false, List, [], ◌∷◌, ◌++◌, Some, None, refl, sym, ap, ◌∙◌, subst, append-nil}
use Rattle.std.specs.Prelude.{◌||◌, if◌then◌else◌}
use Rattle.std.proofs.lemmas.List.{map-id}
use Rattle.ccr_base.specs.declared.names.Place.{Place}
use Rattle.ccr_base.specs.declared.names.Place.TheVariants as places
use Rattle.ccr_base.specs.declared.names.Spot.TheVariants.{Site as SiteOf}
use Rattle.ccr_base.specs.declared.names.TaskId.{TaskId}
use Rattle.ccr_base.specs.declared.policies.Group.{Group}
use Rattle.ccr_base.specs.Names.{has_task}
use Rattle.ccr_wiring.specs.declared.parts.Kind.{Kind}
use Rattle.ccr_wiring.specs.declared.parts.Kind.TheVariants as kinds
use Rattle.ccr_wiring.specs.declared.parts.Parts.{Parts}
use Rattle.ccr_model.specs.declared.history.Event.{Event}
use Rattle.ccr_model.proofs.Allowing.{OneName-legal}
use Rattle.ccr_model.proofs.FiredTasks.{IsFired}
use Rattle.ccr_model.proofs.AllowedFirings.{fired_by_named}
use Rattle.ccr_model.proofs.Members.{Among, Among-either}
use Rattle.ccr_base.proofs.SameNames.{same_task-self}
use Rattle.ccr_model.proofs.TaskLists.{among_left, among_right, named_has}
use Rattle.ccr_places.specs.declared.notes.Note.{Note}
use Rattle.ccr_places.specs.declared.notes.Note.TheVariants as notes
use Rattle.ccr_places.specs.Interleaves as interleaves
use Rattle.ccr_places.specs.Interleaves.{InterleaveState, Waiting, group_at}
use Rattle.ccr_places.specs.NotedTasks.{noted_fired}
use Rattle.ccr_object.specs.declared.object.Object.TheVariants.{Queue, Interleave, Site}
use Rattle.ccr_wiring.specs.Wirings.{kind_of}
use Rattle.ccr_object.specs.Starts.{start_at, fresh_arbiter, members, branches_of, groups_of}
use Rattle.ccr_runs.specs.declared.entries.Entry.{Entry}
use Rattle.ccr_runs.specs.EntryRuns.{Lacks, notes_at, same_place, queue_at, site_at}
use Rattle.ccr_runs.specs.Visible.{visible, event_of}
use Rattle.ccr_net.proofs.Parts.ArbitersMatch.{fired_there, is_of}
use Rattle.ccr_net.proofs.Kept.WholeInvariant.{Holds}
use Rattle.ccr_net.proofs.Played.ObjectsFollowNotes.{object_of, told_object}
use Rattle.ccr_net.proofs.Played.QueuesAnswer.{queued_fired}
use Rattle.ccr_net.proofs.Parts.OneMoreEntry.{notes_at-push, visible-push}
use Rattle.ccr_net.proofs.Played.ToldTasksStay.{suspended_fired, suspended_views-stay, views-stay}

-- ---- who waits by the notes of a domain has fired

-- an admission takes out the oldest
admission_waiting : (st : InterleaveState) (x : Waiting) → Among x (interleaves.after_admission st).waiting → Among x st.waiting
admission_waiting st x is = of_list st.waiting refl
  where
    of_list : (xs : List Waiting) → st.waiting ≡ xs → Among x st.waiting
    of_list [] none = subst (λ (s : InterleaveState). Among x s.waiting) same is
      where
        same : interleaves.after_admission st ≡ st
        same = rw none refl
    of_list (y ∷ ys) some = subst (Among x) (sym some) (inr (subst (Among x) rest is))
      where
        rest : (interleaves.after_admission st).waiting ≡ ys
        rest = rw some refl

note_waiting : (st : InterleaveState) (note : Note) (x : Waiting) → Among x (interleaves.after st note).waiting → Among x st.waiting ⊎ (has_task (noted_fired note) x.task ≡ true)
note_waiting st (notes.Fired t s ms cs) x is = by (interleaves.is_teardown (group_at st s)) (Among-either x (interleaves.spared st s) _ is)
  where
    by : (c : Bool) → Among x (if c then [] else st.waiting) ⊎ Among x ((record { task = t; spot = s }) ∷ []) → Among x st.waiting ⊎ (has_task (t ∷ []) x.task ≡ true)
    by true (inl none) = absurd none
    by false (inl there) = inl there
    by c (inr (inl e)) = inr (ap (λ (y : Waiting). has_task (t ∷ []) y.task) e ∙ ap (λ b. b || false) (same_task-self t))
    by c (inr (inr none)) = absurd none
note_waiting st (notes.Admit None) x is = inl is
note_waiting st (notes.Admit (Some t)) x is = inl (admission_waiting st x is)
note_waiting st (notes.Post m) x is = inl is
note_waiting st (notes.Claim t s r) x is = inl is
note_waiting st (notes.Consume t) x is = inl is
note_waiting st (notes.Free t) x is = inl is
note_waiting st (notes.Dead t s by) x is = inl is
note_waiting st (notes.Over t r how) x is = inl is
note_waiting st (notes.Suspend t) x is = inl is
note_waiting st (notes.Book t r f) x is = inl is
note_waiting st (notes.Unbook t) x is = inl is
note_waiting st (notes.Put t d) x is = inl is
note_waiting st (notes.Take t) x is = inl is
note_waiting st (notes.Draw n) x is = inl is
note_waiting st notes.Leave x is = inl is
note_waiting st (notes.Left n) x is = inl is

kept_waiting : (st : InterleaveState) (earlier : List Note) (x : Waiting) → Among x (interleaves.kept st earlier).waiting → Among x st.waiting ⊎ (has_task (fired_there earlier) x.task ≡ true)
kept_waiting st [] x is = inl is
kept_waiting st (note ∷ earlier) x is = by (kept_waiting (interleaves.after st note) earlier x is)
  where
    of_note : Among x st.waiting ⊎ (has_task (noted_fired note) x.task ≡ true) → Among x st.waiting ⊎ (has_task (noted_fired note ++ fired_there earlier) x.task ≡ true)
    of_note (inl old) = inl old
    of_note (inr new) = inr (among_left (noted_fired note) (fired_there earlier) x.task new)

    by : Among x (interleaves.after st note).waiting ⊎ (has_task (fired_there earlier) x.task ≡ true) → Among x st.waiting ⊎ (has_task (noted_fired note ++ fired_there earlier) x.task ≡ true)
    by (inl there) = of_note (note_waiting st note x there)
    by (inr later) = inr (among_right (noted_fired note) (fired_there earlier) x.task later)

-- whatever the domain began with
pub waiting_fired : (w : Parts) (n : ℕ) (lacks : Lacks) (es : List Entry) → Holds w n lacks es → (i : ℕ) (branches : List ℕ) (groups : List Group) (x : Waiting) → Among x (interleaves.kept (interleaves.start branches groups) (notes_at es (places.Arbiter i))).waiting → IsFired (visible es) x.task
waiting_fired w n lacks es holds i branches groups x is = by (kept_waiting (interleaves.start branches groups) (notes_at es (places.Arbiter i)) x is)
  where
    by : Among x [] ⊎ (has_task (fired_there (notes_at es (places.Arbiter i))) x.task ≡ true) → IsFired (visible es) x.task
    by (inl none) = absurd none
    by (inr there) =
        let found = fired_by_named w (is_of i) (visible es) x.task (OneName-legal w (visible es) holds.legal) (subst (λ ts. has_task ts x.task ≡ true) (holds.arbiters i) there) in
        (found.0, found.1)

-- who is suspended by the notes of a site has fired
pub site_fired : (w : Parts) (n : ℕ) (lacks : Lacks) (es : List Entry) → Holds w n lacks es → (b k : ℕ) (t : TaskId) → Among t (site_at es b k).suspended → IsFired (visible es) t
site_fired w n lacks es holds b k t is = suspended_fired (visible es) (SiteOf b k) t (subst (λ ts. has_task ts t ≡ true) (holds.sites b k) (subst (λ ts. has_task ts t ≡ true) (map-id (site_at es b k).suspended) (named_has (λ (u : TaskId). u) (site_at es b k).suspended t is)))

-- ---- the objects

module _ (w : Parts) (n : ℕ) (lacks : Lacks) (es : List Entry) (e : Entry) (holds : Holds w n lacks es) where
  abbrev h : List Event
  h = visible es

  -- more events tell the same
  tells_on : (more : List Event) (place : Place) → told_object w (h ++ more) (notes_at es place) (start_at w place) ≡ told_object w h (notes_at es place) (start_at w place)
  tells_on more (places.Port p) = refl
  tells_on more (places.Arbiter i) = by (kind_of w i)
    where
      state : InterleaveState
      state = interleaves.kept (interleaves.start (branches_of (members w i)) (groups_of (members w i))) (notes_at es (places.Arbiter i))

      by : (kind : Kind) → told_object w (h ++ more) (notes_at es (places.Arbiter i)) (fresh_arbiter kind (members w i)) ≡ told_object w h (notes_at es (places.Arbiter i)) (fresh_arbiter kind (members w i))
      by kinds.Receive = refl
      by kinds.Choice = refl
      by kinds.Interleave = λ j. Interleave (record { state = state; tasks = views-stay (λ (x : Waiting). x.task) w h more state.waiting (waiting_fired w n lacks es holds i (branches_of (members w i)) (groups_of (members w i))) j })
  tells_on more (places.Site b k) = λ j. Site (record { branch = (site_at es b k).branch; site = (site_at es b k).site; suspended = suspended_views-stay w h more (site_at es b k).suspended (site_fired w n lacks es holds b k) j; fired = (site_at es b k).fired })
  tells_on more (places.Queue q) = λ j. Queue (record { state = queue_at w es q; tasks = views-stay (λ x. x.task) w h more (queue_at w es q).queued (queued_fired w n lacks es holds q) j })
  tells_on more places.Meter = refl

  pub object_stays : (place : Place) → same_place e.place place ≡ false → object_of w (es ++ e ∷ []) place ≡ object_of w es place
  object_stays place other =
      (λ j. told_object w (visible-push es e j) (same j) (start_at w place)) ∙ tells_on (event_of e) place
    where
      same : notes_at (es ++ e ∷ []) place ≡ notes_at es place
      same = notes_at-push es e place ∙ ap (λ b. notes_at es place ++ (if b then e.note ∷ [] else [])) other ∙ append-nil (notes_at es place)
