-- The task of a commit, where it fires, is what the visible history then tells of it.
use Rattle.std.proofs.Common.{◌≡◌, inl, inr, ◌^◌, ℕ, Bool, true, false, List, [], ◌∷◌, ◌++◌, length, map, flat_map, Some, refl, sym, arith, ap, ◌∙◌, subst}
use Rattle.std.specs.Prelude.{◌==◌, ◌||◌, if◌then◌else◌, nat_lt}
use Rattle.std.specs.Option.{option_map, option_map_or}
use Rattle.std.proofs.lemmas.Grind.{common_steps}
use Rattle.std.proofs.lemmas.Option.{same_Some}
use Rattle.ccr_base.specs.declared.messages.Msg.{Msg}
use Rattle.ccr_base.specs.declared.messages.Sent.{Sent}
use Rattle.ccr_base.specs.declared.names.MsgId.{MsgId}
use Rattle.ccr_base.specs.declared.names.Place.{Place}
use Rattle.ccr_base.specs.declared.names.Place.TheVariants as places
use Rattle.ccr_base.specs.declared.names.Spot.{Spot}
use Rattle.ccr_base.specs.declared.names.Spot.TheVariants.{Branch, Site}
use Rattle.ccr_base.specs.declared.names.TaskId.{TaskId}
use Rattle.ccr_base.specs.declared.patterns.Pattern.{Pattern}
use Rattle.ccr_base.specs.declared.tasks.Task.{Task}
use Rattle.ccr_base.specs.Names.{has_task}
use Rattle.ccr_cause.specs.Causes.{union, with_cause}
use Rattle.ccr_cause.proofs.Joined.{union-append}
use Rattle.ccr_handler.specs.declared.segments.PlayEnd.{PlayEnd}
use Rattle.ccr_handler.specs.declared.segments.PlayEnd.TheVariants as plays
use Rattle.ccr_wiring.specs.declared.parts.Parts.{Parts}
use Rattle.ccr_wiring.specs.Wirings.{Placement, placement, queue_of_spot as queue_number, domain_of_spot}
use Rattle.ccr_model.specs.declared.history.Event.{Event}
use Rattle.ccr_model.specs.declared.history.Event.TheVariants as events
use Rattle.ccr_model.specs.Firings.{Firing, fired}
use Rattle.ccr_model.specs.Posts.{posts, held, messages_named}
use Rattle.ccr_model.specs.Sites.{before, suspended, root_at}
use Rattle.ccr_model.specs.TaskData.{load_at, messages_of, play_at}
use Rattle.ccr_base.proofs.Booleans.{same_number}
use Rattle.ccr_model.proofs.AllowedFirings.{before-new, firing_named-new}
use Rattle.ccr_model.proofs.Members.{Among, Among-take, Among-kept, spread_some}
use Rattle.ccr_base.specs.Lists.{has_number}
use Rattle.ccr_model.proofs.PostNames.{AreNamed}
use Rattle.ccr_model.proofs.Stable.{load_at-append, root_at-append}
use Rattle.ccr_model.proofs.Suspending.{SuspendedFacts-first}
use Rattle.ccr_model.proofs.MessageNames.{named-found}
use Rattle.ccr_places.specs.declared.notes.Note.TheVariants as notes
use Rattle.ccr_places.specs.Ports.{PortState, first_fitting}
use Rattle.ccr_await.specs.Resuming.{resumed}
use Rattle.ccr_claim.specs.declared.asks.Ask.TheVariants as asks
use Rattle.ccr_claim.specs.declared.asks.Asked.{Asked}
use Rattle.ccr_claim.specs.declared.plan.Had.{Had}
use Rattle.ccr_claim.specs.Attempts.{at_place, Phase, booking, claiming, had_in, attempt_ask}
use Rattle.ccr_claim.specs.Plans.{had_at, ports_in, in_pattern, names_of, firing_task}
use Rattle.ccr_actor.specs.Plans.{plan_of, pattern_at}
use Rattle.ccr_actor.specs.Actors.{State, Work, lines, round, taking, playing, posting, shedding, resting, Turn, settle, admit, drive, go_on, stop, turn, ask_in, work_ask, play_ask, end_ask, name_at, spots_left}
use Rattle.ccr_runs.specs.declared.entries.Entry.{Entry}
use Rattle.ccr_runs.specs.EntryRuns.{Lacks, state_of, port_at}
use Rattle.ccr_runs.specs.Views.{view, suspended_view}
use Rattle.ccr_runs.specs.Visible.{visible, shown}
use Rattle.ccr_net.proofs.Parts.StepsKeepActors.{unfired}
use Rattle.ccr_net.proofs.Kept.WholeInvariant.{Holds, hand_settles, spots_drive}
use Rattle.ccr_net.proofs.Parts.GotIsASelection.{in_ports}
use Rattle.ccr_net.proofs.Parts.PortsAndHandsMatch.{ActorMatches, IsOwed, PortsMatch}
use Rattle.ccr_net.proofs.Parts.GotNamesStandAlone.{held_had}
use Rattle.ccr_net.proofs.Parts.PhasesFitPlans.{SpotFits}
use Rattle.ccr_net.proofs.Parts.OneMoreEntry.{Step, visible-push}
use Rattle.ccr_net.proofs.Kept.ShownStepsKeepAll.{named_legal}

-- ---- messages by their names

-- ---- what an attempt got was posted

had_among : (had : List Had) (p : ℕ) (m : Msg) → Among m (had_at had p) → (d : Had) × Among d had × Among m d.messages
had_among [] p m is = absurd is
had_among (one ∷ had) p m is = by (one.slot.port == p) is (had_among had p m)
  where
    by : (b : Bool) → Among m (if b then one.messages else had_at had p) → (Among m (had_at had p) → (d : Had) × Among d had × Among m d.messages) → (d : Had) × Among d (one ∷ had) × Among m d.messages
    by true there rest = (one, inl refl, there)
    by false there rest = let found = rest there in (found.0, inr found.1, found.2)

ports_among : (had : List Had) (ps : List ℕ) (m : Msg) → Among m (flat_map (had_at had) ps) → (d : Had) × Among d had × Among m d.messages
ports_among had ps m is = let it = spread_some (had_at had) ps m is in had_among had it.0 m it.2

pub got_posted : (w : Parts) (h : List Event) (port : ℕ → PortState) (a : ℕ) (st : State) → AreNamed (posts h) → PortsMatch h port → ActorMatches w h port a st → has_task (fired h) (name_at a st) ≡ false → (pattern : Pattern) (m : Msg) → Among m (in_pattern pattern (had_in st.phase)) → Among m (posts h)
got_posted w h port a st named match own fresh pattern m is =
    let found = ports_among (had_in st.phase) (ports_in pattern) m (subst (Among m) (in_ports pattern (had_in st.phase)) is) in
    let d = found.0 in
    let marked : Among m (first_fitting (length d.messages) d.slot.pred (port d.slot.port).items) = subst (Among m) (sym (own.had_marked d found.1)) found.2 in
    let item : Among m (port d.slot.port).items = Among-kept _ (port d.slot.port).items m (Among-take (length d.messages) _ m marked) in
    let there : Among m (held h d.slot.port) = subst (Among m) (sym (held_had w h port a st named match own fresh d found.1)) item in
    Among-kept _ (posts h) m (Among-kept _ _ m there)

-- ---- causes

with_there : (xs : List ℕ) (c : ℕ) → has_number xs c ≡ true → with_cause xs c ≡ xs
with_there xs c is = rw is refl

has_with : (xs : List ℕ) (c d : ℕ) → has_number xs d ≡ true → has_number (with_cause xs c) d ≡ true
has_with xs c d is = by (has_number xs c)
  where
    by : (b : Bool) → has_number (if b then xs else xs ++ c ∷ []) d ≡ true
    by true = is
    by false = grind (arith, common_steps, is)

has_own : (xs : List ℕ) (c : ℕ) → has_number (with_cause xs c) c ≡ true
has_own xs c = by (has_number xs c) refl
  where
    by : (b : Bool) → has_number xs c ≡ b → has_number (if b then xs else xs ++ c ∷ []) c ≡ true
    by true e = e
    by false e = grind (arith, common_steps)

has_union : (ys xs : List ℕ) (c : ℕ) → has_number xs c ≡ true → has_number (union xs ys) c ≡ true
has_union [] xs c is = is
has_union (y ∷ ys) xs c is = has_union ys (with_cause xs y) c (has_with xs y c is)

has_second : (ys xs : List ℕ) (c : ℕ) → has_number ys c ≡ true → has_number (union xs ys) c ≡ true
has_second [] xs c is = absurd (cc)
has_second (y ∷ ys) xs c is = by (y == c) refl is (has_second ys (with_cause xs y) c)
  where
    by : (b : Bool) → (y == c) ≡ b → b || has_number ys c ≡ true → (has_number ys c ≡ true → has_number (union (with_cause xs y) ys) c ≡ true) → has_number (union (with_cause xs y) ys) c ≡ true
    by true e there rest = has_union ys (with_cause xs y) c (subst (λ d. has_number (with_cause xs y) d ≡ true) (same_number y c e) (has_own xs y))
    by false e there rest = rest there

union_last : (ys xs : List ℕ) (c : ℕ) → union xs (ys ++ c ∷ []) ≡ with_cause (union xs ys) c
union_last ys xs c = union-append xs ys (c ∷ [])

union_with : (xs ys : List ℕ) (c : ℕ) → union xs (with_cause ys c) ≡ with_cause (union xs ys) c
union_with xs ys c = by (has_number ys c) refl
  where
    by : (b : Bool) → has_number ys c ≡ b → union xs (if b then ys else ys ++ c ∷ []) ≡ with_cause (union xs ys) c
    by true e = sym (with_there (union xs ys) c (has_second ys xs c e))
    by false e = union_last ys xs c

union_union : (zs xs ys : List ℕ) → union xs (union ys zs) ≡ union (union xs ys) zs
union_union [] xs ys = refl
union_union (z ∷ zs) xs ys = union_union zs xs (with_cause ys z) ∙ ap (λ cs. union cs zs) (union_with xs ys z)

-- ---- the task of a firing

-- the messages that it took
messages_so : (h : List Event) (t : TaskId) (spot : Spot) (messages : List Msg) (cs : List TaskId) → has_task (fired h) t ≡ false → messages_named h (names_of messages) ≡ messages → messages_of (h ++ events.Fire t spot (names_of messages) cs ∷ []) t ≡ messages
messages_so h t spot messages cs fresh named =
    let later = h ++ events.Fire t spot (names_of messages) cs ∷ [] in
    ap (λ o. option_map_or (λ (f : Firing). messages_named (before t later) f.messages) o []) (firing_named-new h t spot (names_of messages) cs fresh)
    ∙ ap (λ g. messages_named g (names_of messages)) (before-new h t spot (names_of messages) cs fresh)
    ∙ named

-- at a branch
branch_built : (w : Parts) (h : List Event) (t : TaskId) (b : ℕ) (messages : List Msg) (cs : List TaskId) → has_task (fired h) t ≡ false → messages_named h (names_of messages) ≡ messages → view w (h ++ events.Fire t (Branch b) (names_of messages) cs ∷ []) t ≡ firing_task (plan_of w (Branch b)) t messages
branch_built w h t b messages cs fresh named = rw (firing_named-new h t (Branch b) (names_of messages) cs fresh, messages_so h t (Branch b) messages cs fresh named) refl

-- a task that goes on for another, by its parts
abbrev goes_on : Parts → List Event → ℕ → ℕ → TaskId → TaskId → List Msg → Task
goes_on w h b k t u messages = record {
  id = t;
  root = root_at h b k u;
  spot = Site b k;
  arbiter = domain_of_spot w (Site b k);
  queue = queue_number w (Site b k);
  values = (load_at w h b k u).values ++ map (λ (m : Msg). m.value) messages;
  causes = union (play_at w b k (load_at w h b k u)).causes (flat_map (λ (m : Msg). m.causes) messages);
}

site_viewed : (w : Parts) (h : List Event) (t u : TaskId) (b k : ℕ) (others : List TaskId) (messages : List Msg) (cs : List TaskId) → has_task (fired h) t ≡ false → messages_named h (names_of messages) ≡ messages → suspended h (Site b k) ≡ u ∷ others → view w (h ++ events.Fire t (Site b k) (names_of messages) cs ∷ []) t ≡ goes_on w h b k t u messages
site_viewed w h t u b k others messages cs fresh named list =
    let facts = SuspendedFacts-first h b k u others list in
    rw (firing_named-new h t (Site b k) (names_of messages) cs fresh, messages_so h t (Site b k) messages cs fresh named, before-new h t (Site b k) (names_of messages) cs fresh, list, root_at-append h (events.Fire t (Site b k) (names_of messages) cs ∷ []) b k u facts.firing facts.is_firing, load_at-append w h (events.Fire t (Site b k) (names_of messages) cs ∷ []) b k u facts.firing facts.is_firing) refl

site_resumed : (w : Parts) (h : List Event) (t u : TaskId) (b k : ℕ) (others : List TaskId) (messages : List Msg) → suspended h (Site b k) ≡ u ∷ others → resumed (suspended_view w h u) (firing_task (plan_of w (Site b k)) t messages) ≡ goes_on w h b k t u messages
site_resumed w h t u b k others messages list =
    let facts = SuspendedFacts-first h b k u others list in
    rw (facts.is_firing, facts.same_branch, facts.same_segment) (ap (λ cs. record (goes_on w h b k t u messages) { causes = cs }) (union_union (flat_map (λ (m : Msg). m.causes) messages) (play_at w b k (load_at w h b k u)).causes []))

site_built : (w : Parts) (h : List Event) (t u : TaskId) (b k : ℕ) (others : List TaskId) (messages : List Msg) (cs : List TaskId) → has_task (fired h) t ≡ false → messages_named h (names_of messages) ≡ messages → suspended h (Site b k) ≡ u ∷ others → resumed (suspended_view w h u) (firing_task (plan_of w (Site b k)) t messages) ≡ view w (h ++ events.Fire t (Site b k) (names_of messages) cs ∷ []) t
site_built w h t u b k others messages cs fresh named list = site_resumed w h t u b k others messages list ∙ sym (site_viewed w h t u b k others messages cs fresh named list)

-- ---- what is committed

-- a task committed at the arbiter: it is of a branch there, and whole where the entry says that it fired
pub record IsBuilt (w : Parts) (es : List Entry) (e : Entry) (i : ℕ) (task : Task) (ms : List MsgId) : Type 0 where
  pub number : ℕ
  pub seat : Placement
  pub branch : task.spot ≡ Branch number
  pub sits : placement w number ≡ Some seat
  pub at_i : seat.domain ≡ i
  pub whole : (cs : List TaskId) → e.note ≡ notes.Fired task.id task.spot ms cs → task ≡ view w (visible (es ++ e ∷ [])) task.id

-- a task committed at the site goes on for the first that is suspended there
abbrev pub IsResuming : Parts → List Entry → Entry → ℕ → ℕ → Task → List MsgId → Type 0
IsResuming w es e b k task ms = (u : TaskId) (others : List TaskId) (cs : List TaskId) → suspended (visible es) (Site b k) ≡ u ∷ others → e.note ≡ notes.Fired task.id task.spot ms cs → resumed (suspended_view w (visible es) u) task ≡ view w (visible (es ++ e ∷ [])) task.id

-- a commit by its place, its task and its messages
record SameCommit (place place' : Place) (task task' : Task) (ms ms' : List MsgId) : Type 0 where
  places_so : place ≡ place'
  tasks_so : task ≡ task'
  names_so : ms ≡ ms'

same_commit : (place place' : Place) (task task' : Task) (ms ms' : List MsgId) → Some (at_place place (asks.Commit task ms)) ≡ Some (at_place place' (asks.Commit task' ms')) → SameCommit place place' task task' ms ms'
same_commit place place' task task' ms ms' is =
    let one : at_place place (asks.Commit task ms) ≡ at_place place' (asks.Commit task' ms') = same_Some _ _ is in
    let asked : asks.Commit task ms ≡ asks.Commit task' ms' = ap (λ (x : Asked). x.ask) one in
    record { places_so = ap (λ (x : Asked). x.place) one; tasks_so = cc; names_so = cc }

-- only an attempt commits
work_commits : (a : ℕ) (work : Work) (place : Place) (task : Task) (ms : List MsgId) → work_ask a work ≡ Some (at_place place (asks.Commit task ms)) → ⊥
work_commits a work place task ms is = by work (ap (λ o. option_map (λ (x : Asked). x.ask) o) is)
  where
    by : (work : Work) → option_map (λ (x : Asked). x.ask) (work_ask a work) ≡ Some (asks.Commit task ms) → ⊥
    by (lines p []) same = absurd (cc)
    by (lines p (sent ∷ sents)) same = absurd (cc)
    by round same = absurd (cc)
    by (taking l q more) same = absurd (cc)
    by (playing t p play) same = of_posts play.posts same
      where
        of_end : (pe : PlayEnd) → Some (end_ask t play pe).ask ≡ Some (asks.Commit task ms) → ⊥
        of_end plays.Done same = absurd (cc)
        of_end (plays.Failed v) same = absurd (cc)
        of_end (plays.Yield site) same = absurd (cc)

        of_posts : (ps : List Sent) → Some (play_ask t play ps).ask ≡ Some (asks.Commit task ms) → ⊥
        of_posts [] same = of_end play.end same
        of_posts (sent ∷ ps) same = absurd (cc)
    by (posting t p play sent) same = absurd (cc)
    by (shedding t) same = absurd (cc)
    by resting same = absurd (cc)

module _ (w : Parts) (n : ℕ) (lacks : Lacks) (es : List Entry) (e : Entry) (holds : Holds w n lacks es) (step : Step w lacks es e) where
  abbrev before_it : State
  before_it = state_of w lacks es e.actor

  abbrev h : List Event
  h = visible es

  abbrev name : TaskId
  name = name_at e.actor before_it

  -- the drive that commits, and what it has got
  record Commits (place : Place) (task : Task) (ms : List MsgId) : Type 0 where
    spot : Spot
    fits : SpotFits w spot
    had : List Had
    phase : before_it.phase ≡ claiming [] had
    asks_so : attempt_ask (plan_of w spot) name (claiming [] had) ≡ at_place place (asks.Commit task ms)

  commits : (place : Place) (task : Task) (ms : List MsgId) → step.asking ≡ at_place place (asks.Commit task ms) → Commits place task ms
  commits place task ms is = by (turn before_it) refl (step.asks ∙ ap Some is)
    where
      asking : Asked
      asking = at_place place (asks.Commit task ms)

      owes : (x : Asked) → IsOwed w h e.actor before_it.attempt x.place x.ask → x.ask ≡ asks.Commit task ms → ⊥
      owes x owed same = subst (λ ask. IsOwed w h e.actor before_it.attempt x.place ask) same owed

      spots_so : (spot : Spot) (more : List Spot) → spots_left before_it ≡ spot ∷ more → SpotFits w spot
      spots_so spot more list = of_test (nat_lt before_it.attempt (2 ^ 32)) list
        where
          of_test : (b : Bool) → (if b then before_it.spots else []) ≡ spot ∷ more → SpotFits w spot
          of_test true there = (holds.actors e.actor).fits.spots_so spot (subst (Among spot) (sym there) (inl refl))
          of_test false there = absurd (cc)

      by_phase : (spot : Spot) → SpotFits w spot → (ph : Phase) → before_it.phase ≡ ph → attempt_ask (plan_of w spot) name ph ≡ asking → Commits place task ms
      by_phase spot fits booking phase same = absurd (let asked = ap (λ (x : Asked). x.ask) same in cc)
      by_phase spot fits (claiming (slot ∷ slots) had) phase same = absurd (let asked = ap (λ (x : Asked). x.ask) same in cc)
      by_phase spot fits (claiming [] had) phase same = record { spot = spot; fits = fits; had = had; phase = phase; asks_so = same }

      by : (tu : Turn) → turn before_it ≡ tu → ask_in w e.actor before_it tu ≡ Some asking → Commits place task ms
      by (settle x more) turns same = absurd (owes x ((holds.actors e.actor).claims.owed x (subst (Among x) (sym (hand_settles before_it.is_short before_it.hand before_it.domains (spots_left before_it) x more turns)) (inl refl))) (ap (λ (y : Asked). y.ask) (same_Some _ _ same)))
      by (admit i more) turns same = absurd (let asked = ap (λ (x : Asked). x.ask) (same_Some _ _ same) in cc)
      by (drive spot more) turns same = by_phase spot (spots_so spot more (spots_drive before_it.is_short before_it.hand before_it.domains (spots_left before_it) spot more turns).1) before_it.phase refl (same_Some _ _ same)
      by go_on turns same = absurd (work_commits e.actor before_it.work place task ms same)
      by stop turns same = absurd (cc)

  fresh : has_task (fired h) name ≡ false
  fresh = unfired w h (port_at es) e.actor before_it (holds.actors e.actor).claims

  -- the messages that were got are those of their names
  named_so : (pattern : Pattern) (had : List Had) → before_it.phase ≡ claiming [] had → messages_named h (names_of (in_pattern pattern had)) ≡ in_pattern pattern had
  named_so pattern had phase = subst (λ hs. messages_named h (names_of (in_pattern pattern hs)) ≡ in_pattern pattern hs) (ap had_in phase) (named-found (posts h) (in_pattern pattern (had_in before_it.phase)) named.once (got_posted w h (port_at es) e.actor before_it named holds.ports (holds.actors e.actor).claims fresh pattern))
    where
      named : AreNamed (posts h)
      named = named_legal w h holds.legal

  shows_so : (t : TaskId) (spot : Spot) (ms : List MsgId) (cs : List TaskId) → e.note ≡ notes.Fired t spot ms cs → visible (es ++ e ∷ []) ≡ h ++ events.Fire t spot ms cs ∷ []
  shows_so t spot ms cs note = visible-push es e ∙ ap (λ m. h ++ shown e.actor m) note

  branch_commit : (b : ℕ) (had : List Had) → SpotFits w (Branch b) → before_it.phase ≡ claiming [] had → IsBuilt w es e (domain_of_spot w (Branch b)) (firing_task (plan_of w (Branch b)) name (in_pattern (pattern_at w (Branch b)) had)) (names_of (in_pattern (pattern_at w (Branch b)) had))
  branch_commit b had fits phase = record {
    number = b;
    seat = fits.0;
    branch = refl;
    sits = fits.1;
    at_i = rw (fits.1) refl;
    whole = λ cs note. sym (ap (λ g. view w g name) (shows_so name (Branch b) (names_of messages) cs note) ∙ branch_built w h name b messages cs fresh (named_so (pattern_at w (Branch b)) had phase));
  }
    where
      messages : List Msg
      messages = in_pattern (pattern_at w (Branch b)) had

  pub commit_tells : (i : ℕ) (task : Task) (ms : List MsgId) → step.asking ≡ at_place (places.Arbiter i) (asks.Commit task ms) → IsBuilt w es e i task ms
  commit_tells i task ms is = of_spot found.spot found.fits found.asks_so
    where
      found : Commits (places.Arbiter i) task ms
      found = commits (places.Arbiter i) task ms is

      number_so : {j : ℕ} → places.Arbiter j ≡ places.Arbiter i → j ≡ i
      number_so same = cc

      of_spot : (spot : Spot) → SpotFits w spot → attempt_ask (plan_of w spot) name (claiming [] found.had) ≡ at_place (places.Arbiter i) (asks.Commit task ms) → IsBuilt w es e i task ms
      of_spot (Branch b) fits same =
          let parts = same_commit (places.Arbiter (domain_of_spot w (Branch b))) (places.Arbiter i) (firing_task (plan_of w (Branch b)) name (in_pattern (pattern_at w (Branch b)) found.had)) task (names_of (in_pattern (pattern_at w (Branch b)) found.had)) ms (ap Some same) in
          subst (λ (j : ℕ). IsBuilt w es e j task ms) (number_so parts.places_so) (subst (λ (t : Task). IsBuilt w es e (domain_of_spot w (Branch b)) t ms) parts.tasks_so (subst (λ (ns : List MsgId). IsBuilt w es e (domain_of_spot w (Branch b)) (firing_task (plan_of w (Branch b)) name (in_pattern (pattern_at w (Branch b)) found.had)) ns) parts.names_so (branch_commit b found.had fits found.phase)))
      of_spot (Site b k) fits same = absurd (let at = ap (λ (x : Asked). x.place) same in cc)

  site_commit : (b k : ℕ) (had : List Had) → before_it.phase ≡ claiming [] had → IsResuming w es e b k (firing_task (plan_of w (Site b k)) name (in_pattern (pattern_at w (Site b k)) had)) (names_of (in_pattern (pattern_at w (Site b k)) had))
  site_commit b k had phase u others cs list note = site_built w h name u b k others messages cs fresh (named_so (pattern_at w (Site b k)) had phase) list ∙ sym (ap (λ g. view w g name) (shows_so name (Site b k) (names_of messages) cs note))
    where
      messages : List Msg
      messages = in_pattern (pattern_at w (Site b k)) had

  pub resume_tells : (b k : ℕ) (task : Task) (ms : List MsgId) → step.asking ≡ at_place (places.Site b k) (asks.Commit task ms) → IsResuming w es e b k task ms
  resume_tells b k task ms is = of_spot found.spot found.asks_so
    where
      found : Commits (places.Site b k) task ms
      found = commits (places.Site b k) task ms is

      branch_so : {c l : ℕ} → places.Site c l ≡ places.Site b k → c ≡ b
      branch_so same = cc

      site_so : {c l : ℕ} → places.Site c l ≡ places.Site b k → l ≡ k
      site_so same = cc

      of_spot : (spot : Spot) → attempt_ask (plan_of w spot) name (claiming [] found.had) ≡ at_place (places.Site b k) (asks.Commit task ms) → IsResuming w es e b k task ms
      of_spot (Branch c) same = absurd (let at = ap (λ (x : Asked). x.place) same in cc)
      of_spot (Site c l) same =
          let parts = same_commit (places.Site c l) (places.Site b k) (firing_task (plan_of w (Site c l)) name (in_pattern (pattern_at w (Site c l)) found.had)) task (names_of (in_pattern (pattern_at w (Site c l)) found.had)) ms (ap Some same) in
          subst (λ (j : ℕ). IsResuming w es e j k task ms) (branch_so parts.places_so) (subst (λ (j : ℕ). IsResuming w es e c j task ms) (site_so parts.places_so) (subst (λ (t : Task). IsResuming w es e c l t ms) parts.tasks_so (subst (λ (ns : List MsgId). IsResuming w es e c l (firing_task (plan_of w (Site c l)) name (in_pattern (pattern_at w (Site c l)) found.had)) ns) parts.names_so (site_commit c l found.had found.phase))))
