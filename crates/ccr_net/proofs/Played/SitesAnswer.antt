-- A site, which keeps its suspended tasks whole, answers each ask of a run as the run has it.
use Rattle.std.proofs.Common.{◌≡◌, ℕ, true, false, List, [], ◌∷◌, ◌++◌, length, map, Option, Some, None, refl, sym, arith, ap, ◌∙◌}
use Rattle.std.specs.Prelude.{if◌then◌else◌, drop, nat_lt, not}
use Rattle.std.proofs.lemmas.Bool.Decides.{nat_tests}
use Rattle.std.proofs.lemmas.List.{drop-map, map-id}
use Rattle.ccr_base.specs.declared.names.MsgId.{MsgId}
use Rattle.ccr_base.specs.declared.names.Place.TheVariants as places
use Rattle.ccr_base.specs.declared.names.Spot.{Spot}
use Rattle.ccr_base.specs.declared.names.Spot.TheVariants.{Branch, Site as SiteOf}
use Rattle.ccr_base.specs.declared.names.TaskId.{TaskId}
use Rattle.ccr_base.specs.declared.tasks.By.{By}
use Rattle.ccr_base.specs.declared.tasks.By.TheVariants.{NoneWaiting}
use Rattle.ccr_base.specs.declared.tasks.Task.{Task}
use Rattle.ccr_base.specs.Names.{same_spot, has_task}
use Rattle.ccr_wiring.specs.declared.parts.Parts.{Parts}
use Rattle.ccr_model.specs.declared.history.Event.{Event}
use Rattle.ccr_base.proofs.Booleans.{both, eq-self}
use Rattle.ccr_base.proofs.Options.{some_is}
use Rattle.ccr_base.proofs.Lists.{map_twice}
use Rattle.ccr_model.proofs.FiredTasks.{IsFired}
use Rattle.ccr_places.specs.declared.notes.Note.{Note}
use Rattle.ccr_places.specs.declared.notes.Note.TheVariants as notes
use Rattle.ccr_places.specs.Sites as sites
use Rattle.ccr_places.specs.Sites.{SiteState}
use Rattle.ccr_await.specs.Resuming as keeps
use Rattle.ccr_await.specs.Resuming.{SiteTasks, site_state, resumed}
use Rattle.ccr_claim.specs.declared.asks.Ask.{Ask}
use Rattle.ccr_claim.specs.declared.asks.Ask.TheVariants as asks
use Rattle.ccr_claim.specs.declared.asks.Reply.{Reply}
use Rattle.ccr_claim.specs.declared.asks.Reply.TheVariants as replies
use Rattle.ccr_claim.specs.Attempts.{at_place}
use Rattle.ccr_object.specs.declared.object.Object.TheVariants.{Site}
use Rattle.ccr_object.specs.Commits.{committed}
use Rattle.ccr_object.specs.Sites as objects
use Rattle.ccr_runs.specs.declared.entries.Entry.{Entry}
use Rattle.ccr_runs.specs.Places.{site_note, commit_note}
use Rattle.ccr_runs.specs.EntryRuns.{Lacks, notes_at, reply_to, same_place, waits, site_at}
use Rattle.ccr_runs.specs.Views.{view, suspended_view}
use Rattle.ccr_runs.specs.Visible.{visible, event_of}
use Rattle.ccr_net.proofs.Kept.WholeInvariant.{Holds}
use Rattle.ccr_net.proofs.Played.BuiltTasksAreTold.{IsResuming}
use Rattle.ccr_net.proofs.Parts.NotesAnswerAsks.{Given, given_some}
use Rattle.ccr_net.proofs.Played.OtherObjectsStay.{site_fired}
use Rattle.ccr_net.proofs.Played.ObjectsFollowNotes.{AnswersAs, told_site}
use Rattle.ccr_net.proofs.Parts.OneMoreEntry.{visible-push}
use Rattle.ccr_net.proofs.Parts.SitesMatch.{site_at-push}
use Rattle.ccr_net.proofs.Played.ToldTasksStay.{map_behind, suspended_view-stays, suspended_views-stay}

-- the task that the ask commits or suspends
abbrev pub SiteTells : Parts → List Entry → Entry → ℕ → ℕ → Ask → Type 0
SiteTells w es e b k (asks.Commit task messages) = IsResuming w es e b k task messages
SiteTells w es e b k (asks.Suspend task) = IsFired (visible es) task.id × (task ≡ suspended_view w (visible es) task.id)
SiteTells w es e b k _ = Unit {0}

names_so : (w : Parts) (h : List Event) (ts : List TaskId) → map (λ (t : Task). t.id) (map (suspended_view w h) ts) ≡ ts
names_so w h ts = map_twice (λ (t : Task). t.id) (suspended_view w h) ts ∙ map-id ts

some_there : {X : Type 0} (x : X) (xs : List X) → nat_lt 0 (length (x ∷ xs)) ≡ true
some_there x xs = grind (arith, nat_tests)

-- a firing at a site waits nowhere
never_waits : (w : Parts) (b k : ℕ) (spot : Spot) → same_spot (SiteOf b k) spot ≡ true → waits w spot ≡ false
never_waits w b k (Branch c) same = absurd (cc)
never_waits w b k (SiteOf c l) same = refl

module _ (w : Parts) (n : ℕ) (lacks : Lacks) (es : List Entry) (e : Entry) (holds : Holds w n lacks es) (b k : ℕ) where
  abbrev h : List Event
  h = visible es

  abbrev later : List Event
  later = visible (es ++ e ∷ [])

  abbrev state : SiteState
  state = site_at es b k

  abbrev told : SiteTasks
  told = record { branch = state.branch; site = state.site; suspended = map (suspended_view w h) state.suspended; fired = state.fired }

  state_so : site_state told ≡ state
  state_so = λ j. record { branch = state.branch; site = state.site; suspended = names_so w h state.suspended j; fired = state.fired }

  suspended_stay : map (suspended_view w later) state.suspended ≡ map (suspended_view w h) state.suspended
  suspended_stay = ap (λ g. map (suspended_view w g) state.suspended) (visible-push es e) ∙ suspended_views-stay w h (event_of e) state.suspended (site_fired w n lacks es holds b k)

  -- the answer and the object after it, from their parts
  played : (ask : Ask) (reply : Reply) (note : Note) → e.place ≡ places.Site b k → e.note ≡ note → reply_to w later (notes_at es e.place) note ≡ reply → objects.answer told ask ≡ Some (reply, note) → Site (objects.after told ask) ≡ told_site w later (sites.after state note) → AnswersAs w es (at_place (places.Site b k) ask) e
  played ask reply note there is replied answered left = record {
    answers = answered ∙ (λ j. Some (sym (ap (reply_to w later (notes_at es e.place)) is ∙ replied) j, sym is j));
    goes = left ∙ ap (told_site w later) (sym pushed);
  }
    where
      own : same_place (places.Site b k) (places.Site b k) ≡ true
      own = rw (eq-self b, eq-self k) refl

      pushed : site_at (es ++ e ∷ []) b k ≡ sites.after state note
      pushed = site_at-push es e b k ∙ ap (λ c. if c then sites.after state e.note else state) (ap (λ p. same_place p (places.Site b k)) there ∙ own) ∙ ap (sites.after state) is

  stays : Site told ≡ told_site w later state
  stays = λ j. Site (record { branch = state.branch; site = state.site; suspended = sym suspended_stay j; fired = state.fired })

  -- ---- a commit

  commit_answers : (task : Task) (ms : List MsgId) → e.place ≡ places.Site b k → site_note state (asks.Commit task ms) ≡ Some e.note → IsResuming w es e b k task ms → AnswersAs w es (at_place (places.Site b k) (asks.Commit task ms)) e
  commit_answers task ms there gives resumes = of_list state.suspended refl
    where
      found : (sites.may_commit state task ≡ true) × (e.note ≡ commit_note task ms (sites.dead_by state) (notes.Fired task.id task.spot ms []))
      found = given_some (sites.may_commit state task) (commit_note task ms (sites.dead_by state) (notes.Fired task.id task.spot ms [])) e.note gives

      noted : (o : Option By) → sites.dead_by state ≡ o → e.note ≡ commit_note task ms o (notes.Fired task.id task.spot ms [])
      noted o is = found.1 ∙ ap (λ x. commit_note task ms x (notes.Fired task.id task.spot ms [])) is

      may : sites.may_commit (site_state told) task ≡ true
      may = ap (λ s. sites.may_commit s task) state_so ∙ found.0

      answered : (ts : List TaskId) → state.suspended ≡ ts → objects.answer told (asks.Commit task ms) ≡ Some (committed task ms (keeps.reply_of (map (suspended_view w h) ts) task))
      answered ts is = ap (λ c. if c then Some (committed task ms (keeps.commit_reply told task)) else None) may ∙ ap (λ us. Some (committed task ms (keeps.reply_of (map (suspended_view w h) us) task))) is

      after_so : objects.after told (asks.Commit task ms) ≡ keeps.after_commit told task
      after_so = ap (λ c. if c then keeps.after_commit told task else told) may

      waits_so : waits w task.spot ≡ false
      waits_so = never_waits w state.branch state.site task.spot (both (same_spot (SiteOf state.branch state.site) task.spot) (not (has_task state.fired task.id)) found.0).0

      of_list : (ts : List TaskId) → state.suspended ≡ ts → AnswersAs w es (at_place (places.Site b k) (asks.Commit task ms)) e
      of_list [] is = played (asks.Commit task ms) (replies.Dead NoneWaiting) (notes.Dead task.id task.spot NoneWaiting) there (noted (Some NoneWaiting) (rw is refl)) refl (answered [] is)
          (ap Site (after_so ∙ ap (λ c. if c then record told { suspended = drop 1 told.suspended; fired = told.fired ++ task.id ∷ [] } else told) (ap (λ (us : List TaskId). nat_lt 0 (length (map (suspended_view w h) us))) is)) ∙ stays)
      of_list (u ∷ us) is = played (asks.Commit task ms) (replies.Fired (Some (resumed (suspended_view w h u) task)) []) (notes.Fired task.id task.spot ms []) there note
          (λ j. replies.Fired (if waits_so j then None else Some (sym whole j)) [])
          (answered (u ∷ us) is)
          (ap Site (after_so ∙ ap (λ c. if c then record told { suspended = drop 1 told.suspended; fired = told.fired ++ task.id ∷ [] } else told) (ap (λ (vs : List TaskId). nat_lt 0 (length (map (suspended_view w h) vs))) is ∙ some_there (suspended_view w h u) (map (suspended_view w h) us))) ∙ (λ j. Site (record { branch = state.branch; site = state.site; suspended = (ap (drop 1) (sym suspended_stay) ∙ drop-map (suspended_view w later) 1 state.suspended) j; fired = state.fired ++ task.id ∷ [] })))
        where
          note : e.note ≡ notes.Fired task.id task.spot ms []
          note = noted None (rw is refl)

          whole : resumed (suspended_view w h u) task ≡ view w later task.id
          whole = resumes u us [] (sym (holds.sites b k) ∙ is) note

  -- ---- all asks

  by_ask : (ask : Ask) → e.place ≡ places.Site b k → site_note state ask ≡ Some e.note → SiteTells w es e b k ask → AnswersAs w es (at_place (places.Site b k) ask) e
  by_ask (asks.Commit task ms) there gives tells = commit_answers task ms there gives tells
  by_ask (asks.Suspend task) there gives tells = played (asks.Suspend task) replies.Done (notes.Suspend task.id) there (sym (some_is gives)) refl refl (λ j. Site (record { branch = state.branch; site = state.site; suspended = ((λ i. sym suspended_stay i ++ now i ∷ []) ∙ sym (map_behind (suspended_view w later) state.suspended (task.id ∷ []))) j; fired = state.fired }))
    where
      now : task ≡ suspended_view w later task.id
      now = tells.1 ∙ sym (ap (λ g. suspended_view w g task.id) (visible-push es e) ∙ suspended_view-stays w h (event_of e) task.id tells.0)
  by_ask (asks.Post m) there gives tells = absurd (cc)
  by_ask (asks.Claim t s) there gives tells = absurd (cc)
  by_ask (asks.Consume t) there gives tells = absurd (cc)
  by_ask (asks.Free t) there gives tells = absurd (cc)
  by_ask asks.Admit there gives tells = absurd (cc)
  by_ask (asks.Over t r how) there gives tells = absurd (cc)
  by_ask (asks.Book t r) there gives tells = absurd (cc)
  by_ask (asks.Unbook t) there gives tells = absurd (cc)
  by_ask (asks.Put t) there gives tells = absurd (cc)
  by_ask asks.Take there gives tells = absurd (cc)
  by_ask asks.Draw there gives tells = absurd (cc)
  by_ask asks.Leave there gives tells = absurd (cc)
  by_ask asks.Left there gives tells = absurd (cc)

  pub site_answers : (ask : Ask) → Given w es e (at_place (places.Site b k) ask) → SiteTells w es e b k ask → AnswersAs w es (at_place (places.Site b k) ask) e
  site_answers ask got tells = by_ask ask got.there got.gives tells
