-- Each reply of a run names only what the wiring and the run have.
use Rattle.std.proofs.Common.{◌≡◌, ◌≤◌, ◌<◌, ℕ, ◌+◌, Bool, true, false, List, [], ◌∷◌, ◌++◌, length, map, Option, Some, None, refl, sym, arith, ap, ◌∙◌, subst, append_assoc, append-nil}
use Rattle.std.specs.Prelude.{All, ◌==◌, if◌then◌else◌, slice_get, option_map}
use Rattle.std.specs.Option.{option_map_or}
use Rattle.std.proofs.lemmas.List.Elements.{All-cons, All-nil}
use Rattle.ccr_base.specs.declared.messages.Msg.{Msg}
use Rattle.ccr_base.specs.declared.names.MsgId.{MsgId}
use Rattle.ccr_base.specs.declared.names.Place.{Place}
use Rattle.ccr_base.specs.declared.names.Place.TheVariants as places
use Rattle.ccr_base.specs.declared.names.Spot.{Spot}
use Rattle.ccr_base.specs.declared.names.TaskId.{TaskId}
use Rattle.ccr_base.specs.declared.patterns.Slot.{Slot}
use Rattle.ccr_base.specs.declared.tasks.By.{By}
use Rattle.ccr_base.specs.declared.tasks.By.TheVariants.{Fired as ByFired, NoneWaiting}
use Rattle.ccr_base.specs.declared.tasks.Task.{Task}
use Rattle.ccr_base.specs.Selection.{fitting, is_choosable}
use Rattle.ccr_base.specs.Names.{same_task, has_task}
use Rattle.ccr_wiring.specs.declared.parts.ArbiterPart.{ArbiterPart}
use Rattle.ccr_wiring.specs.declared.parts.Kind.{Kind}
use Rattle.ccr_wiring.specs.declared.parts.Kind.TheVariants as kinds
use Rattle.ccr_wiring.specs.declared.parts.Parts.{Parts}
use Rattle.ccr_wiring.specs.Valid.{IsValid}
use Rattle.ccr_wiring.proofs.Soundness.{sound}
use Rattle.ccr_model.specs.declared.history.Event.{Event}
use Rattle.ccr_model.specs.declared.history.Event.TheVariants as events
use Rattle.ccr_model.specs.Firings.{cut, dropped, started}
use Rattle.ccr_model.specs.Legal.{IsAllowed, IsLegal}
use Rattle.ccr_model.specs.Posts.{posted, posts}
use Rattle.ccr_model.proofs.Allowing.{OneName-legal}
use Rattle.ccr_base.proofs.Booleans.{or_left, or_right, same_number}
use Rattle.ccr_model.proofs.Cutting.{AdmitFacts, AdmitFacts-allowed, cut_fired}
use Rattle.ccr_model.proofs.FiredTasks.{IsFired, IsFired-append, fired_has}
use Rattle.ccr_model.proofs.AllowedFirings.{FiresSo-allowed, WaitingFacts, WaitingFacts-waiting, fired_by_named, firing_named-new}
use Rattle.ccr_model.proofs.Members.{Among, Contains-among, Among-kept, Among-filter}
use Rattle.ccr_model.proofs.OneMoreEvent.{cut-push, dropped-push, started-push}
use Rattle.ccr_base.proofs.SameNames.{same_task-self}
use Rattle.ccr_model.proofs.TaskLists.{among_left, among_right, has_at}
use Rattle.ccr_model.proofs.WhoWasPut.{ArePlaced, ArePlaced-legal}
use Rattle.ccr_places.specs.declared.claims.StandingClaim.{StandingClaim}
use Rattle.ccr_places.specs.declared.notes.ClaimNote.{ClaimNote}
use Rattle.ccr_places.specs.declared.notes.ClaimNote.TheVariants.{Got, Busy, Short}
use Rattle.ccr_places.specs.declared.notes.Note.{Note}
use Rattle.ccr_places.specs.declared.notes.Note.TheVariants as notes
use Rattle.ccr_places.specs.Arbiters as arbiters
use Rattle.ccr_places.specs.Interleaves.{InterleaveState, Waiting}
use Rattle.ccr_places.specs.Interleaves as interleaves
use Rattle.ccr_places.specs.Ports.{first_fitting}
use Rattle.ccr_places.specs.Ports as ports
use Rattle.ccr_places.specs.Sites.{SiteState}
use Rattle.ccr_places.specs.Sites as sites
use Rattle.ccr_places.specs.NotedTasks.{noted_fired}
use Rattle.ccr_claim.specs.declared.asks.Ask.TheVariants as asks
use Rattle.ccr_claim.specs.Attempts.{Phase, booking, claiming, attempt_ask}
use Rattle.ccr_claim.specs.Plans.{commit_place, firing_task, in_pattern, names_of}
use Rattle.ccr_actor.specs.Plans.{plan_of}
use Rattle.ccr_actor.specs.Actors.{ask_in, name_at}
use Rattle.ccr_runs.specs.declared.entries.Entry.{Entry}
use Rattle.ccr_runs.specs.Places.{arbiter_after, commit_note, first_branch, interleave_after, note_at_arbiter, note_by_kind, note_of, site_after}
use Rattle.ccr_runs.specs.EntryRuns.{IsRunAfter, Lacks, made_by, notes_at, port_at, reply_of, reply_to, state_of, waits}
use Rattle.ccr_runs.specs.Views.{cut_view, view}
use Rattle.ccr_runs.specs.Visible.{event_of, shown, visible}
use Rattle.ccr_net.proofs.Parts.ArbitersMatch.{fired_there, is_of, kept_shape, none_at_first}
use Rattle.ccr_net.proofs.Kept.WholeInvariant.{Holds}
use Rattle.ccr_net.proofs.Known.AsksAreKnown.{IsNamed}
use Rattle.ccr_net.proofs.Known.CausesAreKnown.{AreFine, all_of, fine_causes, posted_fine}
use Rattle.ccr_net.proofs.Known.RunsAreKnown.{next_named}
use Rattle.ccr_net.proofs.Known.TasksAreKnown.{view_known, view_queue}
use Rattle.ccr_net.proofs.Parts.NotesAnswerAsks.{Given, given_some}
use Rattle.ccr_net.proofs.Owed.OwedByOneOnce.{last_allowed}
use Rattle.ccr_net.proofs.Played.PlayedRunsAreRuns.{run_on}
use Rattle.ccr_net.proofs.Played.HoldersOfTasksAnswer.{run_holds}
use Rattle.ccr_net.proofs.Parts.OneMoreEntry.{Step, Step-made, visible-push}
use Rattle.ccr_rests.specs.Replies.{HasRetired, IsCutOf, IsHanded, IsItem, NamesKnown}
use Rattle.ccr_rests.proofs.ClaimsOnce.{claimed_low}
use Rattle.ccr_rests.proofs.NoteKinds.{kind_asked, kind_noted}
use Rattle.ccr_rests.proofs.PortItems.{all_posted, among_fitting, posted_on}
use Rattle.ccr_rests.proofs.Rising.{Tries, tries}

-- ---- what retired an arbiter's branches

-- the teardown that a domain keeps is one that it noted
torn_there : (place : InterleaveState) (seen : List TaskId) (earlier : List Note) → ((u : TaskId) → place.teardown ≡ Some u → has_task seen u ≡ true) → (u : TaskId) → (interleaves.kept place earlier).teardown ≡ Some u → has_task (seen ++ fired_there earlier) u ≡ true
torn_there place seen [] known u is = subst (λ ts. has_task ts u ≡ true) (sym (append-nil seen)) (known u is)
torn_there place seen (note ∷ earlier) known u is = subst (λ ts. has_task ts u ≡ true) (append_assoc seen (noted_fired note) (fired_there earlier)) (torn_there (interleaves.after place note) (seen ++ noted_fired note) earlier (by note) u is)
  where
    still : (more : List TaskId) (v : TaskId) → place.teardown ≡ Some v → has_task (seen ++ more) v ≡ true
    still more v at = among_left seen more v (known v at)

    torn : (b : Bool) (t v : TaskId) → (if b then Some t else place.teardown) ≡ Some v → has_task (seen ++ t ∷ []) v ≡ true
    torn true t v at = among_right seen (t ∷ []) v (or_left (same_task v t) false (let same : t ≡ v = cc in subst (λ x. same_task v x ≡ true) (sym same) (same_task-self v)))
    torn false t v at = still (t ∷ []) v at

    admitted : (o : Option TaskId) → (interleaves.after_admit place o).teardown ≡ place.teardown
    admitted None = refl
    admitted (Some t) = of_first (slice_get place.waiting 0) refl
      where
        of_first : (o : Option Waiting) → slice_get place.waiting 0 ≡ o → (interleaves.after_admission place).teardown ≡ place.teardown
        of_first None at = rw at refl
        of_first (Some x) at = rw at refl

    by : (m : Note) (v : TaskId) → (interleaves.after place m).teardown ≡ Some v → has_task (seen ++ noted_fired m) v ≡ true
    by (notes.Fired t s ms cs) v at = torn (interleaves.is_teardown (interleaves.group_at place s)) t v at
    by (notes.Admit o) v at = still [] v (sym (admitted o) ∙ at)
    by (notes.Over t r how) v at = still [] v at
    by (notes.Post m) v at = still [] v at
    by (notes.Claim t s r) v at = still [] v at
    by (notes.Consume t) v at = still [] v at
    by (notes.Free t) v at = still [] v at
    by (notes.Dead t s d) v at = still [] v at
    by (notes.Suspend t) v at = still [] v at
    by (notes.Book t r f) v at = still [] v at
    by (notes.Unbook t) v at = still [] v at
    by (notes.Put t d) v at = still [] v at
    by (notes.Take t) v at = still [] v at
    by (notes.Draw k) v at = still [] v at
    by notes.Leave v at = still [] v at
    by (notes.Left k) v at = still [] v at

-- a commit that is answered so was of a spot that this retired
abbrev RetiredBy : List TaskId → By → Type 0
RetiredBy seen (ByFired u) = has_task seen u ≡ true
RetiredBy seen NoneWaiting = Unit {0}

of_dead : (seen : List TaskId) (dead : Option By) → ((by : By) → dead ≡ Some by → RetiredBy seen by) → (task : Task) (ms : List MsgId) (cs : List TaskId) (note : Note) → note ≡ commit_note task ms dead (notes.Fired task.id task.spot ms cs) → (t : TaskId) (s : Spot) (by : By) → note ≡ notes.Dead t s by → RetiredBy seen by
of_dead seen None known task ms cs note is t s by noted = absurd (let bad = sym is ∙ noted in cc)
of_dead seen (Some dead) known task ms cs note is t s by noted = known by (ap (λ x. Some x) (let same = sym is ∙ noted in cc))

mapped : (seen : List TaskId) (o : Option TaskId) → ((u : TaskId) → o ≡ Some u → has_task seen u ≡ true) → (by : By) → option_map ByFired o ≡ Some by → RetiredBy seen by
mapped seen None known by is = absurd (cc)
mapped seen (Some u) known by is = subst (RetiredBy seen) (let same : ByFired u ≡ by = cc in same) (known u refl)

arbiter_dead : (first : ℕ) (part : ArbiterPart) (earlier : List Note) (by : By) → arbiters.dead_by (arbiter_after first part earlier) ≡ Some by → RetiredBy (fired_there earlier) by
arbiter_dead first part earlier by is = mapped (fired_there earlier) (arbiters.retired_by (arbiter_after first part earlier)) (λ u at. subst (λ ts. has_task ts u ≡ true) fired_so (of_once (arbiter_after first part earlier).once u at)) by is
  where
    fired_so : (arbiter_after first part earlier).fired ≡ fired_there earlier
    fired_so = (kept_shape (arbiter_after first part []) earlier).fired ∙ ap (λ ts. ts ++ fired_there earlier) (none_at_first first part)

    of_once : (b : Bool) (u : TaskId) → (if b then slice_get (arbiter_after first part earlier).fired 0 else None) ≡ Some u → has_task (arbiter_after first part earlier).fired u ≡ true
    of_once true u at = has_at (arbiter_after first part earlier).fired 0 u at
    of_once false u at = absurd (cc)

domain_dead : (w : Parts) (i : ℕ) (earlier : List Note) (by : By) → interleaves.dead_by (interleave_after w i earlier) ≡ Some by → RetiredBy (fired_there earlier) by
domain_dead w i earlier by is = mapped (fired_there earlier) (interleave_after w i earlier).teardown (torn_there (interleave_after w i []) [] earlier (λ u none. absurd (cc))) by is

site_dead : (st : SiteState) (by : By) → sites.dead_by st ≡ Some by → by ≡ NoneWaiting
site_dead st by is = of st.suspended refl
  where
    of : (ts : List TaskId) → st.suspended ≡ ts → by ≡ NoneWaiting
    of [] at = (let same : Some NoneWaiting ≡ Some by = (rw at at is) in cc)
    of (t ∷ ts) at = absurd (let same : None ≡ Some by = (rw at at is) in cc)

-- ---- one reply

module _ (w : Parts) (workers : ℕ) (lacks : Lacks) (valid : IsValid w) (few : workers ≤ 16) (past : List Entry) (e : Entry) (run : IsRunAfter w workers lacks [] past) (low : e.actor < length w.posters + workers) (made : made_by w lacks past e.actor ≡ Some e) where
  step : Step w lacks past e
  step = Step-made w lacks past e made

  on : IsRunAfter w workers lacks [] (past ++ e ∷ [])
  on = run_on w workers lacks [] past e run low made

  before : Holds w (length w.posters + workers) lacks past
  before = (run_holds w workers lacks past valid few run).holds

  legal : IsLegal w (visible (past ++ e ∷ []))
  legal = (run_holds w workers lacks (past ++ e ∷ []) valid few on).holds.legal

  shows : visible (past ++ e ∷ []) ≡ visible past ++ event_of e
  shows = visible-push past e

  -- what the entry shows is its event
  shown_by : (ev : Event) → event_of e ≡ ev ∷ [] → visible (past ++ e ∷ []) ≡ visible past ++ ev ∷ []
  shown_by ev is = shows ∙ ap (λ evs. visible past ++ evs) is

  handed : (t : TaskId) → IsFired (visible (past ++ e ∷ [])) t → IsHanded w (visible (past ++ e ∷ [])) (Some (view w (visible (past ++ e ∷ [])) t))
  handed t fires = (view_known w (sound w valid) (visible (past ++ e ∷ [])) legal t fires valid, fired_has (visible (past ++ e ∷ [])) t fires)

  -- who has fired before
  fired_on : (t : TaskId) → IsFired (visible past) t → IsFired (visible (past ++ e ∷ [])) t
  fired_on t fires = subst (λ g. IsFired g t) (sym shows) (IsFired-append (visible past) (event_of e) t fires)

  module _ (kind_so : 1 ≤ kind_noted e.note) (kind_few : kind_noted e.note ≤ 3) where
    tried : Tries w past e (state_of w lacks past e.actor)
    tried = tries w (length w.posters + workers) lacks past e before step kind_so kind_few

    given : (ph : Phase) → (state_of w lacks past e.actor).phase ≡ ph → Given w past e (attempt_ask (plan_of w tried.spot) (name_at e.actor (state_of w lacks past e.actor)) ph)
    given ph phase = subst (λ x. Given w past e (attempt_ask (plan_of w tried.spot) (name_at e.actor (state_of w lacks past e.actor)) x)) phase tried.given

    kind_of : (ph : Phase) → (state_of w lacks past e.actor).phase ≡ ph → kind_noted e.note ≡ kind_asked (attempt_ask (plan_of w tried.spot) (name_at e.actor (state_of w lacks past e.actor)) ph).ask
    kind_of ph phase = tried.kind ∙ ap (λ x. kind_asked (attempt_ask (plan_of w tried.spot) (name_at e.actor (state_of w lacks past e.actor)) x).ask) phase

    named : (ph : Phase) → (state_of w lacks past e.actor).phase ≡ ph → IsNamed w (attempt_ask (plan_of w tried.spot) (name_at e.actor (state_of w lacks past e.actor)) ph)
    named ph phase = next_named w workers lacks valid few past e.actor (attempt_ask (plan_of w tried.spot) (name_at e.actor (state_of w lacks past e.actor)) ph) e.note run (ap (ask_in w e.actor (state_of w lacks past e.actor)) tried.turns ∙ ap (λ x. Some (attempt_ask (plan_of w tried.spot) (name_at e.actor (state_of w lacks past e.actor)) x)) phase) (given ph phase).gives

  -- a claim
  record Claims (t : TaskId) (s : Slot) (n : ClaimNote) : Type 0 where
    there : e.place ≡ places.Port s.port
    known : s.port < length w.ports
    noted : n ≡ ports.claim_note (port_at past s.port) s

  claims : (t : TaskId) (s : Slot) (n : ClaimNote) → e.note ≡ notes.Claim t s n → Claims t s n
  claims t s n noted = by (state_of w lacks past e.actor).phase refl
    where
      two : kind_noted e.note ≡ 2
      two = ap kind_noted noted

      some : 1 ≤ kind_noted e.note
      some = omega (arith, two)

      most : kind_noted e.note ≤ 3
      most = omega (arith, two)

      by : (ph : Phase) → (state_of w lacks past e.actor).phase ≡ ph → Claims t s n
      by booking phase = absurd (let bad : kind_noted e.note ≡ 1 = kind_of some most booking phase in omega (arith, bad, two))
      by (claiming [] had) phase = absurd (let bad : kind_noted e.note ≡ 3 = kind_of some most (claiming [] had) phase in omega (arith, bad, two))
      by (claiming (slot ∷ slots) had) phase = subst (λ (p : Slot × ClaimNote). Claims t p.0 p.1) (λ i. (slot_so i, note_so i)) (record { there = (given some most (claiming (slot ∷ slots) had) phase).there; known = (named some most (claiming (slot ∷ slots) had) phase).ask; noted = refl })
        where
          same : notes.Claim t s n ≡ notes.Claim (name_at e.actor (state_of w lacks past e.actor)) slot (ports.claim_note (port_at past slot.port) slot)
          same = sym noted ∙ (given_some (ports.may_claim (port_at past slot.port) (name_at e.actor (state_of w lacks past e.actor)) slot) (notes.Claim (name_at e.actor (state_of w lacks past e.actor)) slot (ports.claim_note (port_at past slot.port) slot)) e.note (given some most (claiming (slot ∷ slots) had) phase).gives).1

          slot_so : slot ≡ s
          slot_so = (let is = same in cc)

          note_so : ports.claim_note (port_at past slot.port) slot ≡ n
          note_so = (let is = same in cc)

  item_known : (p : ℕ) (m : Msg) → Among m (port_at past p).items → IsItem w (visible (past ++ e ∷ [])) p m
  item_known p m is = ((fine.0, fine_causes w m.causes fine.1), at, Contains-among (posted (visible (past ++ e ∷ [])) p) m there)
    where
      old : Among m (posted (visible past) p)
      old = (all_posted w workers lacks past run p).items m is

      there : Among m (posted (visible (past ++ e ∷ [])) p)
      there = subst (λ g. Among m (posted g p)) (sym shows) (posted_on (visible past) (event_of e) p m old)

      fine : (m.port < length w.ports) × AreFine (length w.causes) m.causes
      fine = posted_fine w (sound w valid) (visible past) before.legal m (Among-kept (λ (x : Msg). x.port == p) (posts (visible past)) m old)

      at : m.port ≡ p
      at = same_number m.port p (Among-filter (λ (x : Msg). x.port == p) (posts (visible past)) m old).1

  claim_known : (t : TaskId) (s : Slot) (n : ClaimNote) → e.note ≡ notes.Claim t s n → NamesKnown w (length w.posters + workers) (visible (past ++ e ∷ [])) e.place (reply_to w (visible (past ++ e ∷ [])) (notes_at past e.place) (notes.Claim t s n))
  claim_known t s n noted = subst (λ pl. NamesKnown w (length w.posters + workers) (visible (past ++ e ∷ [])) pl (reply_to w (visible (past ++ e ∷ [])) (notes_at past pl) (notes.Claim t s n))) (sym found.there) (by n found.noted)
    where
      found : Claims t s n
      found = claims t s n noted

      by : (m : ClaimNote) → m ≡ ports.claim_note (port_at past s.port) s → NamesKnown w (length w.posters + workers) (visible (past ++ e ∷ [])) (places.Port s.port) (reply_to w (visible (past ++ e ∷ [])) (notes_at past (places.Port s.port)) (notes.Claim t s m))
      by (Got k) is = (found.known, all_of (IsItem w (visible (past ++ e ∷ [])) s.port) (first_fitting k s.pred (port_at past s.port).items) (λ m among. item_known s.port m (among_fitting k s.pred (port_at past s.port).items m among)))
      by (Short k) is = tt
      by (Busy u) is = claimed_low w workers lacks valid few past run s.port u (of_claim (port_at past s.port).claim refl)
        where
          not_busy : (b : Bool) (k m : ℕ) → Busy u ≡ (if b then Got k else Short m) → ⊥
          not_busy true k m now = absurd (cc)
          not_busy false k m now = absurd (cc)

          of_claim : (o : Option StandingClaim) → (port_at past s.port).claim ≡ o → ports.is_claimed_by (port_at past s.port) u ≡ true
          of_claim None at = absurd (not_busy (is_choosable s (port_at past s.port).items) (length (first_fitting s.most s.pred (port_at past s.port).items)) (length (fitting s.pred (port_at past s.port).items)) (is ∙ ap (λ o. option_map_or (λ (claim : StandingClaim). Busy claim.task) o (ports.free_claim_note s (port_at past s.port).items)) at))
          of_claim (Some c) at = rw at (subst (λ v. same_task u v ≡ true) same (same_task-self u))
            where
              busy : Busy u ≡ Busy c.task
              busy = is ∙ ap (λ o. option_map_or (λ (claim : StandingClaim). Busy claim.task) o (ports.free_claim_note s (port_at past s.port).items)) at

              same : u ≡ c.task
              same = (let now = busy in cc)

  -- a firing
  fires_known : (t : TaskId) (s : Spot) (ms : List MsgId) (cs : List TaskId) → e.note ≡ notes.Fired t s ms cs → IsHanded w (visible (past ++ e ∷ [])) (if waits w s then None else Some (view w (visible (past ++ e ∷ [])) t)) × All (IsCutOf w (visible (past ++ e ∷ []))) (map (cut_view w (visible (past ++ e ∷ []))) cs)
  fires_known t s ms cs noted = (of_waits (waits w s), cuts_known cs (λ u is. is))
    where
      shows_so : visible (past ++ e ∷ []) ≡ visible past ++ events.Fire t s ms cs ∷ []
      shows_so = shown_by (events.Fire t s ms cs) (ap (shown e.actor) noted)

      allowed : IsAllowed w (visible past) (events.Fire t s ms cs)
      allowed = last_allowed w (visible past) (events.Fire t s ms cs) (subst (IsLegal w) shows_so legal)

      fires : IsFired (visible (past ++ e ∷ [])) t
      fires = subst (λ g. IsFired g t) (sym shows_so) (record { task = t; spot = s; messages = ms; cuts = cs }, firing_named-new (visible past) t s ms cs (FiresSo-allowed w (visible past) t s ms cs allowed).new_name)

      of_waits : (b : Bool) → IsHanded w (visible (past ++ e ∷ [])) (if b then None else Some (view w (visible (past ++ e ∷ [])) t))
      of_waits true = tt
      of_waits false = handed t fires

      cut_so : (u : TaskId) → has_task cs u ≡ true → has_task (cut (visible (past ++ e ∷ []))) u ≡ true
      cut_so u is = subst (λ g. has_task (cut g) u ≡ true) (sym shows_so) (subst (λ ts. has_task ts u ≡ true) (sym (cut-push (visible past) (events.Fire t s ms cs) ∙ ap (λ us. cut (visible past) ++ us) (append-nil cs))) (among_right (cut (visible past)) cs u is))

      cuts_known : (us : List TaskId) → ((u : TaskId) → has_task us u ≡ true → has_task cs u ≡ true) → All (IsCutOf w (visible (past ++ e ∷ []))) (map (cut_view w (visible (past ++ e ∷ []))) us)
      cuts_known [] within = All-nil (IsCutOf w (visible (past ++ e ∷ [])))
      cuts_known (u ∷ us) within = All-cons (IsCutOf w (visible (past ++ e ∷ []))) (cut_view w (visible (past ++ e ∷ [])) u) (map (cut_view w (visible (past ++ e ∷ []))) us) (view_queue w (sound w valid) (visible (past ++ e ∷ [])) legal u of_cut, fired_has (visible (past ++ e ∷ [])) u of_cut) (cuts_known us (λ v is. within v (or_right (same_task v u) (has_task us v) is)))
        where
          of_cut : IsFired (visible (past ++ e ∷ [])) u
          of_cut = cut_fired w (visible (past ++ e ∷ [])) legal u (cut_so u (within u (or_left (same_task u u) (has_task us u) (same_task-self u))))

  -- an admission
  admits_known : (t : TaskId) → e.note ≡ notes.Admit (Some t) → IsHanded w (visible (past ++ e ∷ [])) (Some (view w (visible (past ++ e ∷ [])) t))
  admits_known t noted = handed t (fired_on t (waits_so.firing, waits_so.is_firing))
    where
      allowed : IsAllowed w (visible past) (events.Admit t)
      allowed = last_allowed w (visible past) (events.Admit t) (subst (IsLegal w) (shown_by (events.Admit t) (ap (shown e.actor) noted)) legal)

      facts : AdmitFacts w (visible past) t
      facts = AdmitFacts-allowed w (visible past) t allowed

      waits_so : WaitingFacts w (visible past) facts.placement.domain t
      waits_so = WaitingFacts-waiting w (visible past) facts.placement.domain t (OneName-legal w (visible past) before.legal) facts.waits

  -- a put that dropped a task, and a take
  drops_known : (t d : TaskId) → e.note ≡ notes.Put t (Some d) → IsHanded w (visible (past ++ e ∷ [])) (Some (view w (visible (past ++ e ∷ [])) d))
  drops_known t d noted = handed d (placed.all_fired d (placed.lists.put_dropped d gone))
    where
      placed : ArePlaced (visible (past ++ e ∷ []))
      placed = ArePlaced-legal w (visible (past ++ e ∷ [])) legal

      gone : has_task (dropped (visible (past ++ e ∷ []))) d ≡ true
      gone = ap (λ g. has_task (dropped g) d) (shown_by (events.Put t (Some d)) (ap (shown e.actor) noted)) ∙ ap (λ ts. has_task ts d) (dropped-push (visible past) (events.Put t (Some d))) ∙ among_right (dropped (visible past)) (d ∷ []) d (or_left (same_task d d) false (same_task-self d))

  takes_known : (t : TaskId) → e.note ≡ notes.Take (Some t) → IsHanded w (visible (past ++ e ∷ [])) (Some (view w (visible (past ++ e ∷ [])) t))
  takes_known t noted = handed t (placed.all_fired t (placed.lists.put_started t gone))
    where
      placed : ArePlaced (visible (past ++ e ∷ []))
      placed = ArePlaced-legal w (visible (past ++ e ∷ [])) legal

      gone : has_task (started (visible (past ++ e ∷ []))) t ≡ true
      gone = ap (λ g. has_task (started g) t) (shown_by (events.Start t e.actor) (ap (shown e.actor) noted)) ∙ ap (λ ts. has_task ts t) (started-push (visible past) (events.Start t e.actor)) ∙ among_right (started (visible past)) (t ∷ []) t (or_left (same_task t t) false (same_task-self t))

  -- a commit at a spot that is retired
  retired_at : (place : Place) (task : Task) (ms : List MsgId) → note_of w place (notes_at past place) (asks.Commit task ms) ≡ Some e.note → (t : TaskId) (s : Spot) (by : By) → e.note ≡ notes.Dead t s by → HasRetired (visible (past ++ e ∷ [])) by
  retired_at (places.Port p) task ms gives t s by noted = absurd (cc)
  retired_at (places.Queue q) task ms gives t s by noted = absurd (cc)
  retired_at places.Meter task ms gives t s by noted = absurd (cc)
  retired_at (places.Site b k) task ms gives t s by noted = of_by by (of_dead [] (sites.dead_by (site_after b k (notes_at past (places.Site b k)))) (λ d is. subst (RetiredBy []) (sym (site_dead (site_after b k (notes_at past (places.Site b k))) d is)) tt) task ms [] e.note (given_some (sites.may_commit (site_after b k (notes_at past (places.Site b k))) task) (commit_note task ms (sites.dead_by (site_after b k (notes_at past (places.Site b k)))) (notes.Fired task.id task.spot ms [])) e.note gives).1 t s by noted)
    where
      of_by : (d : By) → RetiredBy [] d → HasRetired (visible (past ++ e ∷ [])) d
      of_by (ByFired u) has = absurd (cc)
      of_by NoneWaiting has = tt
  retired_at (places.Arbiter i) task ms gives t s by noted = of_by by (by_part (slice_get w.arbiters i) gives)
    where
      by_kind : (part : ArbiterPart) (kind : Kind) → note_by_kind w i kind part (notes_at past (places.Arbiter i)) (asks.Commit task ms) ≡ Some e.note → RetiredBy (fired_there (notes_at past (places.Arbiter i))) by
      by_kind part kinds.Receive now = of_dead (fired_there (notes_at past (places.Arbiter i))) (arbiters.dead_by (arbiter_after (first_branch w i) part (notes_at past (places.Arbiter i)))) (arbiter_dead (first_branch w i) part (notes_at past (places.Arbiter i))) task ms [] e.note (given_some (arbiters.may_commit (arbiter_after (first_branch w i) part (notes_at past (places.Arbiter i))) task) (commit_note task ms (arbiters.dead_by (arbiter_after (first_branch w i) part (notes_at past (places.Arbiter i)))) (notes.Fired task.id task.spot ms [])) e.note now).1 t s by noted
      by_kind part kinds.Choice now = of_dead (fired_there (notes_at past (places.Arbiter i))) (arbiters.dead_by (arbiter_after (first_branch w i) part (notes_at past (places.Arbiter i)))) (arbiter_dead (first_branch w i) part (notes_at past (places.Arbiter i))) task ms [] e.note (given_some (arbiters.may_commit (arbiter_after (first_branch w i) part (notes_at past (places.Arbiter i))) task) (commit_note task ms (arbiters.dead_by (arbiter_after (first_branch w i) part (notes_at past (places.Arbiter i)))) (notes.Fired task.id task.spot ms [])) e.note now).1 t s by noted
      by_kind part kinds.Interleave now = of_dead (fired_there (notes_at past (places.Arbiter i))) (interleaves.dead_by (interleave_after w i (notes_at past (places.Arbiter i)))) (domain_dead w i (notes_at past (places.Arbiter i))) task ms (interleaves.cut_note (interleave_after w i (notes_at past (places.Arbiter i))) task.spot) e.note (given_some (interleaves.may_commit (interleave_after w i (notes_at past (places.Arbiter i))) task) (commit_note task ms (interleaves.dead_by (interleave_after w i (notes_at past (places.Arbiter i)))) (notes.Fired task.id task.spot ms (interleaves.cut_note (interleave_after w i (notes_at past (places.Arbiter i))) task.spot))) e.note now).1 t s by noted

      by_part : (o : Option ArbiterPart) → note_at_arbiter w i o (notes_at past (places.Arbiter i)) (asks.Commit task ms) ≡ Some e.note → RetiredBy (fired_there (notes_at past (places.Arbiter i))) by
      by_part None now = absurd (cc)
      by_part (Some part) now = by_kind part part.kind now

      of_by : (d : By) → RetiredBy (fired_there (notes_at past (places.Arbiter i))) d → HasRetired (visible (past ++ e ∷ [])) d
      of_by NoneWaiting has = tt
      of_by (ByFired u) has = (let found = fired_by_named w (is_of i) (visible past) u (OneName-legal w (visible past) before.legal) (ap (λ ts. has_task ts u) (sym (before.arbiters i)) ∙ has) in fired_has (visible (past ++ e ∷ [])) u (fired_on u (found.0, found.1)))

  dead_known : (t : TaskId) (s : Spot) (by : By) → e.note ≡ notes.Dead t s by → HasRetired (visible (past ++ e ∷ [])) by
  dead_known t s by noted = of (state_of w lacks past e.actor).phase refl
    where
      three : kind_noted e.note ≡ 3
      three = ap kind_noted noted

      some : 1 ≤ kind_noted e.note
      some = omega (arith, three)

      most : kind_noted e.note ≤ 3
      most = omega (arith, three)

      of : (ph : Phase) → (state_of w lacks past e.actor).phase ≡ ph → HasRetired (visible (past ++ e ∷ [])) by
      of booking phase = absurd (let bad : kind_noted e.note ≡ 1 = kind_of some most booking phase in omega (arith, bad, three))
      of (claiming (slot ∷ slots) had) phase = absurd (let bad : kind_noted e.note ≡ 2 = kind_of some most (claiming (slot ∷ slots) had) phase in omega (arith, bad, three))
      of (claiming [] had) phase = retired_at (commit_place (plan_of w (tried some most).spot) (tried some most).spot) (firing_task (plan_of w (tried some most).spot) (name_at e.actor (state_of w lacks past e.actor)) (in_pattern (plan_of w (tried some most).spot).pattern had)) (names_of (in_pattern (plan_of w (tried some most).spot).pattern had)) (given some most (claiming [] had) phase).gives t s by noted

  -- whichever reply it is
  known_by : (note : Note) → e.note ≡ note → NamesKnown w (length w.posters + workers) (visible (past ++ e ∷ [])) e.place (reply_to w (visible (past ++ e ∷ [])) (notes_at past e.place) note)
  known_by (notes.Claim t s n) noted = claim_known t s n noted
  known_by (notes.Fired t s ms cs) noted = fires_known t s ms cs noted
  known_by (notes.Dead t s by) noted = dead_known t s by noted
  known_by (notes.Admit None) noted = tt
  known_by (notes.Admit (Some t)) noted = admits_known t noted
  known_by (notes.Put t None) noted = tt
  known_by (notes.Put t (Some d)) noted = drops_known t d noted
  known_by (notes.Take None) noted = tt
  known_by (notes.Take (Some t)) noted = takes_known t noted
  known_by (notes.Book t r None) noted = tt
  known_by (notes.Book t r (Some k)) noted = tt
  known_by (notes.Draw None) noted = tt
  known_by (notes.Draw (Some k)) noted = tt
  known_by (notes.Post m) noted = tt
  known_by (notes.Consume t) noted = tt
  known_by (notes.Free t) noted = tt
  known_by (notes.Over t r how) noted = tt
  known_by (notes.Suspend t) noted = tt
  known_by (notes.Unbook t) noted = tt
  known_by notes.Leave noted = tt
  known_by (notes.Left k) noted = tt

  pub reply_known : NamesKnown w (length w.posters + workers) (visible (past ++ e ∷ [])) e.place (reply_of w past e)
  reply_known = known_by e.note refl
