-- A commit of an attempt meets the condition of its place.
use Rattle.std.proofs.Common.{◌≡◌, ℕ, ◌+◌, Bool, true, false, ◌&&◌, List, [], ◌∷◌, ◌++◌, Option, Some, None, refl, sym, arith, ap, ◌∙◌, subst, append-nil, append_assoc}
use Rattle.std.specs.Prelude.{◌==◌, if◌then◌else◌, nat_lt, nat_le, is_some, IsSomeAnd}
use Rattle.std.specs.List.{slice_get}
use Rattle.std.specs.Option.{option_map_or}
use Rattle.std.proofs.lemmas.Grind.{common_steps}
use Rattle.ccr_base.specs.declared.messages.Msg.{Msg}
use Rattle.ccr_base.specs.declared.names.MsgId.{MsgId}
use Rattle.ccr_base.specs.declared.names.Place.{Place}
use Rattle.ccr_base.specs.declared.names.Place.TheVariants as places
use Rattle.ccr_base.specs.declared.names.Spot.{Spot}
use Rattle.ccr_base.specs.declared.names.Spot.TheVariants.{Branch, Site}
use Rattle.ccr_base.specs.declared.names.TaskId.{TaskId}
use Rattle.ccr_base.specs.declared.tasks.Task.{Task}
use Rattle.ccr_base.specs.Names.{same_spot, has_task}
use Rattle.ccr_wiring.specs.declared.parts.ArbiterPart.{ArbiterPart}
use Rattle.ccr_wiring.specs.declared.parts.Kind.{Kind}
use Rattle.ccr_wiring.specs.declared.parts.Kind.TheVariants as kinds
use Rattle.ccr_wiring.specs.declared.parts.Parts.{Parts}
use Rattle.ccr_wiring.specs.Valid.{IsValid, HasDomains}
use Rattle.ccr_wiring.specs.Wirings.{Placement, placement}
use Rattle.ccr_model.specs.Firings.{fired}
use Rattle.ccr_model.specs.Interleaves.{is_placement_in}
use Rattle.ccr_model.specs.Tasks.{is_interleave}
use Rattle.ccr_base.proofs.Booleans.{eq-self, no_both, refuted}
use Rattle.ccr_model.proofs.Stable.{fired-append}
use Rattle.ccr_model.proofs.TaskLists.{of_more, among_left, among_right}
use Rattle.ccr_places.specs.declared.notes.Note.{Note}
use Rattle.ccr_places.specs.declared.notes.Note.TheVariants as notes
use Rattle.ccr_places.specs.Arbiters.{ArbiterState}
use Rattle.ccr_places.specs.Arbiters as arbiters
use Rattle.ccr_places.specs.Interleaves.{InterleaveState}
use Rattle.ccr_places.specs.Interleaves as interleaves
use Rattle.ccr_places.specs.Sites.{SiteState}
use Rattle.ccr_places.specs.Sites as sites
use Rattle.ccr_places.specs.NotedTasks.{noted_fired}
use Rattle.ccr_claim.specs.declared.asks.Ask.TheVariants as asks
use Rattle.ccr_claim.specs.Plans.{names_of, firing_task}
use Rattle.ccr_claim.specs.Attempts.{commit_ask}
use Rattle.ccr_actor.specs.Plans.{plan_of, is_interleave_number}
use Rattle.ccr_runs.specs.declared.entries.Entry.{Entry}
use Rattle.ccr_runs.specs.Places.{note_of, note_at_arbiter, note_by_kind, given, first_branch, arbiter_after, interleave_after, site_after}
use Rattle.ccr_runs.specs.EntryRuns.{Lacks, notes_at, note_at, same_place, domain_at}
use Rattle.ccr_runs.specs.Visible.{visible, event_of, shown}
use Rattle.ccr_net.proofs.Parts.ArbitersMatch.{fired_there, kept_shape, none_at_first, KeepsShape}
use Rattle.ccr_net.proofs.Kept.WholeInvariant.{Holds}
use Rattle.ccr_net.proofs.Parts.DomainsMatch.{group_so}
use Rattle.ccr_net.proofs.Parts.PhasesFitPlans.{SpotFits}
use Rattle.ccr_net.proofs.Conditions.BranchesHavePositions.{branch_position}

pub is_given : (b : Bool) (note : Note) → b ≡ true → is_some (given b note) ≡ true
is_given true note is = refl
is_given false note is = absurd (cc)

-- ---- who fired by what is noted

-- who fired by a note fired by what it shows
pub shows_fired : (a : ℕ) (note : Note) (t : TaskId) → has_task (noted_fired note) t ≡ true → has_task (fired (shown a note)) t ≡ true
shows_fired a (notes.Fired u s ms cs) t is = is
shows_fired a (notes.Post m) t is = absurd (cc)
shows_fired a (notes.Claim u s r) t is = absurd (cc)
shows_fired a (notes.Consume u) t is = absurd (cc)
shows_fired a (notes.Free u) t is = absurd (cc)
shows_fired a (notes.Dead u s by) t is = absurd (cc)
shows_fired a (notes.Admit u) t is = absurd (cc)
shows_fired a (notes.Over u r how) t is = absurd (cc)
shows_fired a (notes.Suspend u) t is = absurd (cc)
shows_fired a (notes.Book u r f) t is = absurd (cc)
shows_fired a (notes.Unbook u) t is = absurd (cc)
shows_fired a (notes.Put u d) t is = absurd (cc)
shows_fired a (notes.Take u) t is = absurd (cc)
shows_fired a (notes.Draw n) t is = absurd (cc)
shows_fired a notes.Leave t is = absurd (cc)
shows_fired a (notes.Left n) t is = absurd (cc)

-- who fired by the notes of a place fired
pub noted_has_fired : (es : List Entry) (place : Place) (t : TaskId) → has_task (fired_there (notes_at es place)) t ≡ true → has_task (fired (visible es)) t ≡ true
noted_has_fired [] place t is = absurd (cc)
noted_has_fired (e ∷ es) place t is = subst (λ ts. has_task ts t ≡ true) (sym (fired-append (event_of e) (visible es))) (of_more (fired_there (note_at place e)) (fired_there (notes_at es place)) t _ (subst (λ ts. has_task ts t ≡ true) (split (note_at place e) (notes_at es place)) is) (λ now. among_left (fired (event_of e)) (fired (visible es)) t (here (same_place e.place place) now)) (λ now. among_right (fired (event_of e)) (fired (visible es)) t (noted_has_fired es place t now)))
  where
    split : (xs ys : List Note) → fired_there (xs ++ ys) ≡ fired_there xs ++ fired_there ys
    split xs ys = grind (arith, common_steps)

    here : (b : Bool) → has_task (fired_there (if b then e.note ∷ [] else [])) t ≡ true → has_task (fired (event_of e)) t ≡ true
    here true now = shows_fired e.actor e.note t (subst (λ ts. has_task ts t ≡ true) (append-nil (noted_fired e.note)) now)
    here false now = absurd (cc)

new_there : (es : List Entry) (place : Place) (t : TaskId) → has_task (fired (visible es)) t ≡ false → has_task (fired_there (notes_at es place)) t ≡ false
new_there es place t new = refuted (has_task (fired_there (notes_at es place)) t) (λ is. no_both (noted_has_fired es place t is) new)

-- ---- what a domain and a site keep of them

domain_fired : (st : InterleaveState) (note : Note) → (interleaves.after st note).fired ≡ st.fired ++ noted_fired note
domain_fired st (notes.Fired u s ms cs) = refl
domain_fired st (notes.Admit None) = sym (append-nil st.fired)
domain_fired st (notes.Admit (Some u)) = by (slice_get st.waiting 0) refl ∙ sym (append-nil st.fired)
  where
    by : (o : Option interleaves.Waiting) → slice_get st.waiting 0 ≡ o → (interleaves.after_admission st).fired ≡ st.fired
    by None e = rw e refl
    by (Some x) e = rw e refl
domain_fired st (notes.Post m) = sym (append-nil st.fired)
domain_fired st (notes.Claim u s r) = sym (append-nil st.fired)
domain_fired st (notes.Consume u) = sym (append-nil st.fired)
domain_fired st (notes.Free u) = sym (append-nil st.fired)
domain_fired st (notes.Dead u s by) = sym (append-nil st.fired)
domain_fired st (notes.Over u r how) = sym (append-nil st.fired)
domain_fired st (notes.Suspend u) = sym (append-nil st.fired)
domain_fired st (notes.Book u r f) = sym (append-nil st.fired)
domain_fired st (notes.Unbook u) = sym (append-nil st.fired)
domain_fired st (notes.Put u d) = sym (append-nil st.fired)
domain_fired st (notes.Take u) = sym (append-nil st.fired)
domain_fired st (notes.Draw n) = sym (append-nil st.fired)
domain_fired st notes.Leave = sym (append-nil st.fired)
domain_fired st (notes.Left n) = sym (append-nil st.fired)

domain_fired_all : (st : InterleaveState) (earlier : List Note) → (interleaves.kept st earlier).fired ≡ st.fired ++ fired_there earlier
domain_fired_all st [] = sym (append-nil st.fired)
domain_fired_all st (note ∷ earlier) = domain_fired_all (interleaves.after st note) earlier ∙ ap (λ ts. ts ++ fired_there earlier) (domain_fired st note) ∙ append_assoc st.fired (noted_fired note) (fired_there earlier)

site_fired : (st : SiteState) (note : Note) → (sites.after st note).fired ≡ st.fired ++ noted_fired note
site_fired st (notes.Fired u s ms cs) = refl
site_fired st (notes.Post m) = sym (append-nil st.fired)
site_fired st (notes.Claim u s r) = sym (append-nil st.fired)
site_fired st (notes.Consume u) = sym (append-nil st.fired)
site_fired st (notes.Free u) = sym (append-nil st.fired)
site_fired st (notes.Dead u s by) = sym (append-nil st.fired)
site_fired st (notes.Admit u) = sym (append-nil st.fired)
site_fired st (notes.Over u r how) = sym (append-nil st.fired)
site_fired st (notes.Suspend u) = sym (append-nil st.fired)
site_fired st (notes.Book u r f) = sym (append-nil st.fired)
site_fired st (notes.Unbook u) = sym (append-nil st.fired)
site_fired st (notes.Put u d) = sym (append-nil st.fired)
site_fired st (notes.Take u) = sym (append-nil st.fired)
site_fired st (notes.Draw n) = sym (append-nil st.fired)
site_fired st notes.Leave = sym (append-nil st.fired)
site_fired st (notes.Left n) = sym (append-nil st.fired)

site_fired_all : (st : SiteState) (earlier : List Note) → (sites.kept st earlier).fired ≡ st.fired ++ fired_there earlier
site_fired_all st [] = sym (append-nil st.fired)
site_fired_all st (note ∷ earlier) = site_fired_all (sites.after st note) earlier ∙ ap (λ ts. ts ++ fired_there earlier) (site_fired st note) ∙ append_assoc st.fired (noted_fired note) (fired_there earlier)

site_shape : (b k : ℕ) (earlier : List Note) → ((site_after b k earlier).branch ≡ b) × ((site_after b k earlier).site ≡ k)
site_shape b k earlier = shaped (sites.start b k) earlier
  where
    one : (st : SiteState) (note : Note) → ((sites.after st note).branch ≡ st.branch) × ((sites.after st note).site ≡ st.site)
    one st (notes.Fired u s ms cs) = (refl, refl)
    one st (notes.Post m) = (refl, refl)
    one st (notes.Claim u s r) = (refl, refl)
    one st (notes.Consume u) = (refl, refl)
    one st (notes.Free u) = (refl, refl)
    one st (notes.Dead u s by) = (refl, refl)
    one st (notes.Admit u) = (refl, refl)
    one st (notes.Over u r how) = (refl, refl)
    one st (notes.Suspend u) = (refl, refl)
    one st (notes.Book u r f) = (refl, refl)
    one st (notes.Unbook u) = (refl, refl)
    one st (notes.Put u d) = (refl, refl)
    one st (notes.Take u) = (refl, refl)
    one st (notes.Draw n) = (refl, refl)
    one st notes.Leave = (refl, refl)
    one st (notes.Left n) = (refl, refl)

    shaped : (st : SiteState) (earlier : List Note) → ((sites.kept st earlier).branch ≡ st.branch) × ((sites.kept st earlier).site ≡ st.site)
    shaped st [] = (refl, refl)
    shaped st (note ∷ earlier) = let now = one st note in let rest = shaped (sites.after st note) earlier in (rest.0 ∙ now.0, rest.1 ∙ now.1)

-- ---- the commit

module _ (w : Parts) (valid : IsValid w) (domains : HasDomains w) (n : ℕ) (lacks : Lacks) (es : List Entry) (holds : Holds w n lacks es) (name : TaskId) (new : has_task (fired (visible es)) name ≡ false) where
  at_branch : (b : ℕ) (task : Task) (ms : List MsgId) (s : Placement) → placement w b ≡ Some s → task.id ≡ name → task.spot ≡ Branch b → is_some (note_at_arbiter w s.domain (slice_get w.arbiters s.domain) (notes_at es (places.Arbiter s.domain)) (asks.Commit task ms)) ≡ true
  at_branch b task ms s sits id spot = of_part (slice_get w.arbiters s.domain) refl (domains b s sits)
    where
      earlier : List Note
      earlier = notes_at es (places.Arbiter s.domain)

      fresh : has_task (fired_there earlier) task.id ≡ false
      fresh = ap (has_task (fired_there earlier)) id ∙ new_there es (places.Arbiter s.domain) name new

      of_part : (o : Option ArbiterPart) → slice_get w.arbiters s.domain ≡ o → IsSomeAnd o (λ (part : ArbiterPart). part.kind ≡ s.kind) → is_some (note_at_arbiter w s.domain o earlier (asks.Commit task ms)) ≡ true
      of_part None at none = absurd none
      of_part (Some part) at kind_so = by part.kind refl
        where
          start : ArbiterState
          start = arbiter_after (first_branch w s.domain) part []

          now : ArbiterState
          now = arbiter_after (first_branch w s.domain) part earlier

          shape : KeepsShape start now (fired_there earlier)
          shape = kept_shape start earlier

          ordinary : is_interleave s.kind ≡ false → arbiters.may_commit now task ≡ true
          ordinary outside = rw (seat, none) refl
            where
              first_so : now.first ≡ start.first
              first_so = shape.first

              count_so : now.count ≡ start.count
              count_so = shape.count

              seat : arbiters.has_spot now task.spot ≡ true
              seat = ap (arbiters.has_spot now) spot ∙ (λ i. nat_le (first_so i) b && nat_lt b (first_so i + count_so i)) ∙ branch_position w valid b s part sits at kind_so outside

              none : has_task now.fired task.id ≡ false
              none = ap (λ ts. has_task ts task.id) (shape.fired ∙ ap (λ ts. ts ++ fired_there earlier) (none_at_first (first_branch w s.domain) part)) ∙ fresh

          shared : part.kind ≡ kinds.Interleave → interleaves.may_commit (interleave_after w s.domain earlier) task ≡ true
          shared is = rw (seat, none) refl
            where
              number : is_interleave_number w s.domain ≡ true
              number = ap (λ o. option_map_or (λ (p : ArbiterPart). is_interleave p.kind) o false) at ∙ ap is_interleave is

              within : is_placement_in s.domain s ≡ true
              within = ap (λ k. is_interleave k && (s.domain == s.domain)) (sym kind_so ∙ is) ∙ eq-self s.domain

              seat : is_some (interleaves.group_at (interleave_after w s.domain earlier) task.spot) ≡ true
              seat = ap (λ x. is_some (interleaves.group_at (interleave_after w s.domain earlier) x)) spot ∙ ap (λ o. is_some o) (group_so w (visible es) s.domain b (domain_at w es s.domain) s sits within (holds.domains s.domain number))

              none : has_task (interleave_after w s.domain earlier).fired task.id ≡ false
              none = ap (λ ts. has_task ts task.id) (domain_fired_all (interleave_after w s.domain []) earlier) ∙ fresh

          outside_of : (kind : Kind) → part.kind ≡ kind → is_interleave kind ≡ false → is_interleave s.kind ≡ false
          outside_of kind is out = ap is_interleave (sym kind_so ∙ is) ∙ out

          by : (kind : Kind) → part.kind ≡ kind → is_some (note_by_kind w s.domain kind part earlier (asks.Commit task ms)) ≡ true
          by kinds.Receive is = is_given _ _ (ordinary (outside_of kinds.Receive is refl))
          by kinds.Choice is = is_given _ _ (ordinary (outside_of kinds.Choice is refl))
          by kinds.Interleave is = is_given _ _ (shared is)

  at_site : (b k : ℕ) (task : Task) (ms : List MsgId) → task.id ≡ name → task.spot ≡ Site b k → is_some (note_of w (places.Site b k) (notes_at es (places.Site b k)) (asks.Commit task ms)) ≡ true
  at_site b k task ms id spot = is_given _ _ (rw (here, none) refl)
    where
      earlier : List Note
      earlier = notes_at es (places.Site b k)

      here : same_spot (Site (site_after b k earlier).branch (site_after b k earlier).site) task.spot ≡ true
      here = (λ i. same_spot (Site ((site_shape b k earlier).0 i) ((site_shape b k earlier).1 i)) (spot i)) ∙ self
        where
          self : (b == b) && (k == k) ≡ true
          self = rw (eq-self b, eq-self k) refl

      none : has_task (site_after b k earlier).fired task.id ≡ false
      none = ap (λ ts. has_task ts task.id) (site_fired_all (sites.start b k) earlier) ∙ ap (has_task (fired_there earlier)) id ∙ new_there es (places.Site b k) name new

  pub commit_met : (spot : Spot) (messages : List Msg) → SpotFits w spot → is_some (note_of w (commit_ask (plan_of w spot) name messages).place (notes_at es (commit_ask (plan_of w spot) name messages).place) (commit_ask (plan_of w spot) name messages).ask) ≡ true
  commit_met (Site b k) messages fits = at_site b k (firing_task (plan_of w (Site b k)) name messages) (names_of messages) refl refl
  commit_met (Branch b) messages fits = ap (λ i. is_some (note_of w (places.Arbiter i) (notes_at es (places.Arbiter i)) (asks.Commit task (names_of messages)))) number ∙ at_branch b task (names_of messages) fits.0 fits.1 refl refl
    where
      task : Task
      task = firing_task (plan_of w (Branch b)) name messages

      number : (plan_of w (Branch b)).arbiter ≡ (fits.0).domain
      number = ap (λ o. option_map_or (λ (s : Placement). s.domain) o 0) fits.1
