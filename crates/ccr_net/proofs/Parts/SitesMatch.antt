-- Who is suspended at a site by its notes is suspended there in the history, and so a site that isn't dead is live.
use Rattle.std.proofs.Common.{◌≡◌, ℕ, Bool, true, false, not, ◌&&◌, List, [], ◌∷◌, ◌++◌, drop, filter, None, refl, sym, arith, ap, ◌∙◌, subst, append-nil}
use Rattle.std.specs.Prelude.{◌==◌, if◌then◌else◌}
use Rattle.std.proofs.lemmas.Grind.{common_steps}
use Rattle.std.proofs.lemmas.Bool.Decides.{nat_tests}
use Rattle.ccr_base.specs.declared.names.MsgId.{MsgId}
use Rattle.ccr_base.specs.declared.names.Place.TheVariants as places
use Rattle.ccr_base.specs.declared.names.Spot.TheVariants.{Branch, Site}
use Rattle.ccr_base.specs.declared.names.TaskId.{TaskId}
use Rattle.ccr_wiring.specs.declared.parts.Parts.{Parts}
use Rattle.ccr_wiring.specs.Wirings.{branch_of, segment_of}
use Rattle.ccr_model.specs.declared.history.Event.{Event}
use Rattle.ccr_model.specs.declared.history.Event.TheVariants as events
use Rattle.ccr_model.specs.declared.history.EndHow.TheVariants as ends
use Rattle.ccr_model.specs.Firings.{firings, firing_of, yielded, yielded_by}
use Rattle.ccr_model.specs.Legal.{IsAllowed, IsLegal}
use Rattle.ccr_model.specs.Live.{is_none_of}
use Rattle.ccr_model.specs.Sites.{suspended, yields_at}
use Rattle.ccr_base.proofs.Booleans.{same_number, both}
use Rattle.ccr_model.proofs.FiredTasks.{IsFired}
use Rattle.ccr_model.proofs.Suspending.{ResumeFacts, ResumeFacts-allowed, end_fired, suspended-other, suspended-branch, suspended-elsewhere, suspended-here, suspended-same}
use Rattle.ccr_places.specs.declared.notes.Note.{Note}
use Rattle.ccr_places.specs.declared.notes.Note.TheVariants as notes
use Rattle.ccr_places.specs.Sites.{SiteState}
use Rattle.ccr_places.specs.Sites as sites
use Rattle.ccr_runs.specs.declared.entries.Entry.{Entry}
use Rattle.ccr_runs.specs.EntryRuns.{same_place, site_at}
use Rattle.ccr_runs.specs.Visible.{visible, event_of, shown}

-- at each site
abbrev pub SitesMatch : List Event → List Entry → Type 0
SitesMatch h es = (b k : ℕ) → (site_at es b k).suspended ≡ suspended h (Site b k)

pub site_at-push : (es : List Entry) (e : Entry) (b k : ℕ) → site_at (es ++ e ∷ []) b k ≡ (if same_place e.place (places.Site b k) then sites.after (site_at es b k) e.note else site_at es b k)
site_at-push es e b k = grind (arith, common_steps)

-- ---- entries that show neither a firing nor a suspension

still : (a : ℕ) (note : Note) (st : SiteState) → yielded (shown a note) ≡ [] → firings (shown a note) ≡ [] → sites.after st note ≡ st
still a (notes.Fired t s ms cs) st none calm = absurd (cc)
still a (notes.Suspend t) st none calm = absurd (cc)
still a (notes.Post m) st none calm = refl
still a (notes.Claim t s r) st none calm = refl
still a (notes.Consume t) st none calm = refl
still a (notes.Free t) st none calm = refl
still a (notes.Dead t s by) st none calm = refl
still a (notes.Admit t) st none calm = refl
still a (notes.Over t r how) st none calm = refl
still a (notes.Book t r f) st none calm = refl
still a (notes.Unbook t) st none calm = refl
still a (notes.Put t d) st none calm = refl
still a (notes.Take t) st none calm = refl
still a (notes.Draw n) st none calm = refl
still a notes.Leave st none calm = refl
still a (notes.Left n) st none calm = refl

pub SitesMatch-still : (es : List Entry) (e : Entry) (h : List Event) → yielded (event_of e) ≡ [] → firings (event_of e) ≡ [] → ((b k : ℕ) → suspended h (Site b k) ≡ suspended (visible es) (Site b k)) → SitesMatch (visible es) es → SitesMatch h (es ++ e ∷ [])
SitesMatch-still es e h none calm same match b k = ap (λ (s : SiteState). s.suspended) (site_at-push es e b k) ∙ by (same_place e.place (places.Site b k)) ∙ match b k ∙ sym (same b k)
  where
    by : (c : Bool) → (if c then sites.after (site_at es b k) e.note else site_at es b k).suspended ≡ (site_at es b k).suspended
    by true = ap (λ (s : SiteState). s.suspended) (still e.actor e.note (site_at es b k) none calm)
    by false = refl

pub SitesMatch-silent : (es : List Entry) (e : Entry) → event_of e ≡ [] → SitesMatch (visible es) es → SitesMatch (visible es) (es ++ e ∷ [])
SitesMatch-silent es e none match = SitesMatch-still es e (visible es) (ap yielded none) (ap firings none) (λ b k. refl) match

pub SitesMatch-other : (w : Parts) (es : List Entry) (e : Entry) (ev : Event) → IsLegal w (visible es) → event_of e ≡ ev ∷ [] → firing_of ev ≡ [] → yielded_by ev ≡ [] → SitesMatch (visible es) es → SitesMatch (visible es ++ ev ∷ []) (es ++ e ∷ [])
SitesMatch-other w es e ev legal is calm none match = SitesMatch-still es e (visible es ++ ev ∷ []) (ap yielded is ∙ append-nil (yielded_by ev) ∙ none) (ap firings is ∙ append-nil (firing_of ev) ∙ calm) (suspended-same w (visible es) ev legal calm none) match

-- ---- firings

pub SitesMatch-branch : (w : Parts) (es : List Entry) (e : Entry) (i c : ℕ) (t : TaskId) (ms : List MsgId) (cs : List TaskId) → IsLegal w (visible es) → e.place ≡ places.Arbiter i → SitesMatch (visible es) es → SitesMatch (visible es ++ events.Fire t (Branch c) ms cs ∷ []) (es ++ e ∷ [])
SitesMatch-branch w es e i c t ms cs legal place match b k = (let one : site_at (es ++ e ∷ []) b k ≡ site_at es b k = site_at-push es e b k ∙ rw place refl in ap (λ (s : SiteState). s.suspended) one) ∙ match b k ∙ sym (suspended-branch w (visible es) t c ms cs b k legal)

pub SitesMatch-resume : (w : Parts) (es : List Entry) (e : Entry) (c l : ℕ) (t : TaskId) (ms : List MsgId) → IsLegal w (visible es) → IsAllowed w (visible es) (events.Fire t (Site c l) ms []) → e.place ≡ places.Site c l → e.note ≡ notes.Fired t (Site c l) ms [] → SitesMatch (visible es) es → SitesMatch (visible es ++ events.Fire t (Site c l) ms [] ∷ []) (es ++ e ∷ [])
SitesMatch-resume w es e c l t ms legal allowed place note match b k = (let one : site_at (es ++ e ∷ []) b k ≡ (if (c == b) && (l == k) then sites.after_firing (site_at es b k) t else site_at es b k) = site_at-push es e b k ∙ rw (place, note) refl in ap (λ (s : SiteState). s.suspended) one) ∙ by ((c == b) && (l == k)) refl
  where
    facts : ResumeFacts (visible es) c l
    facts = ResumeFacts-allowed w (visible es) t c l ms [] allowed

    here : drop 1 (site_at es c l).suspended ≡ suspended (visible es ++ events.Fire t (Site c l) ms [] ∷ []) (Site c l)
    here = ap (drop 1) (match c l ∙ facts.is_first) ∙ sym (suspended-here w (visible es) t c l ms [] legal facts)

    by : (d : Bool) → (c == b) && (l == k) ≡ d → (if d then sites.after_firing (site_at es b k) t else site_at es b k).suspended ≡ suspended (visible es ++ events.Fire t (Site c l) ms [] ∷ []) (Site b k)
    by true is =
        let parts = both (c == b) (l == k) is in
        subst (λ x. drop 1 (site_at es x k).suspended ≡ suspended (visible es ++ events.Fire t (Site c l) ms [] ∷ []) (Site x k)) (same_number c b parts.0) (subst (λ y. drop 1 (site_at es c y).suspended ≡ suspended (visible es ++ events.Fire t (Site c l) ms [] ∷ []) (Site c y)) (same_number l k parts.1) here)
    by false is = match b k ∙ sym (suspended-elsewhere w (visible es) t c l ms [] b k legal is)

-- ---- a suspension, at the site that is next to where the task fired

pub SitesMatch-suspend : (w : Parts) (es : List Entry) (e : Entry) (c l : ℕ) (t : TaskId) (fires : IsFired (visible es) t) → IsLegal w (visible es) → IsAllowed w (visible es) (events.End t ends.Yield) → branch_of (fires.0.spot) ≡ c → segment_of (fires.0.spot) ≡ l → e.place ≡ places.Site c l → e.note ≡ notes.Suspend t → SitesMatch (visible es) es → SitesMatch (visible es ++ events.End t ends.Yield ∷ []) (es ++ e ∷ [])
SitesMatch-suspend w es e c l t fires legal allowed at_branch at_segment place note match b k =
    (let one : site_at (es ++ e ∷ []) b k ≡ (if (c == b) && (l == k) then sites.after_suspend (site_at es b k) t else site_at es b k) = site_at-push es e b k ∙ rw (place, note) refl in ap (λ (s : SiteState). s.suspended) one)
    ∙ by ((c == b) && (l == k))
    ∙ ap (λ ts. suspended (visible es) (Site b k) ++ ts) (sym added)
    ∙ sym (suspended-other w (visible es) (events.End t ends.Yield) b k refl legal (end_fired w (visible es) t ends.Yield legal allowed))
  where
    added : filter (yields_at (visible es) (Site b k)) (t ∷ []) ≡ (if (c == b) && (l == k) then t ∷ [] else [])
    added = rw (fires.1, at_branch, at_segment) refl

    by : (d : Bool) → (if d then sites.after_suspend (site_at es b k) t else site_at es b k).suspended ≡ suspended (visible es) (Site b k) ++ (if d then t ∷ [] else [])
    by true = ap (λ ts. ts ++ t ∷ []) (match b k)
    by false = match b k ∙ sym (append-nil (suspended (visible es) (Site b k)))

-- ---- a site that isn't dead is live

pub someone_waits : (st : SiteState) (ts : List TaskId) → st.suspended ≡ ts → sites.dead_by st ≡ None → not (is_none_of ts) ≡ true
someone_waits st [] is alive = absurd (let dead = rw is at alive in cc)
someone_waits st (t ∷ ts) is alive = grind (arith, nat_tests)
