-- Each next ask of a run names what the wiring has, and is meant for a place that it has.
use Rattle.std.proofs.Common.{◌⊎◌, inl, inr, ◌≡◌, ◌<◌, ◌^◌, ℕ, Bool, true, false, not, ◌&&◌, ◌||◌, List, [], ◌∷◌, ◌++◌, length, map, Option, Some, None, refl, sym, arith, ap, ◌∙◌, subst}
use Rattle.std.specs.Prelude.{if◌then◌else◌, nat_lt, slice_get}
use Rattle.std.specs.FinSet as set
use Rattle.std.specs.Option.{option_map_or}
use Rattle.ccr_base.specs.declared.messages.Msg.{Msg}
use Rattle.ccr_base.specs.declared.messages.Sent.{Sent}
use Rattle.ccr_base.specs.declared.names.Place.{Place}
use Rattle.ccr_base.specs.declared.names.Place.TheVariants as places
use Rattle.ccr_base.specs.declared.names.Spot.{Spot}
use Rattle.ccr_base.specs.declared.names.Spot.TheVariants.{Branch, Site}
use Rattle.ccr_base.specs.declared.names.TaskId.{TaskId}
use Rattle.ccr_base.specs.declared.patterns.Pattern.{Pattern}
use Rattle.ccr_base.specs.declared.patterns.Pattern.TheVariants.{Slots, Gather}
use Rattle.ccr_base.specs.declared.patterns.Slot.{Slot}
use Rattle.ccr_base.specs.declared.tasks.How.{How}
use Rattle.ccr_base.specs.declared.tasks.Task.{Task}
use Rattle.ccr_base.specs.Names.{has_task}
use Rattle.ccr_base.proofs.Options.{no_some, drop-next, some_is, some_so}
use Rattle.ccr_handler.specs.declared.segments.Play.{Play}
use Rattle.ccr_handler.specs.declared.segments.PlayEnd.{PlayEnd}
use Rattle.ccr_handler.specs.declared.segments.PlayEnd.TheVariants as plays
use Rattle.ccr_wiring.specs.declared.parts.ArbiterPart.{ArbiterPart}
use Rattle.ccr_wiring.specs.declared.parts.Kind.{Kind}
use Rattle.ccr_wiring.specs.declared.parts.Kind.TheVariants as kinds
use Rattle.ccr_wiring.specs.declared.parts.Parts.{Parts}
use Rattle.ccr_wiring.specs.Valid.{IsSound, IsValid}
use Rattle.ccr_wiring.specs.Wirings.{Placement}
use Rattle.ccr_wiring.proofs.Soundness.{sound}
use Rattle.ccr_model.specs.declared.history.Event.{Event}
use Rattle.ccr_model.specs.Posts.{posts}
use Rattle.ccr_model.specs.TaskData.{play_of}
use Rattle.ccr_model.proofs.Members.{Among, Among-at, Among-right, index_of}
use Rattle.ccr_places.specs.declared.notes.Note.{Note}
use Rattle.ccr_places.specs.declared.notes.Note.TheVariants as notes
use Rattle.ccr_places.specs.TaskSets.{task_cmp}
use Rattle.ccr_claim.specs.declared.asks.Ask.{Ask}
use Rattle.ccr_claim.specs.declared.asks.Ask.TheVariants as asks
use Rattle.ccr_claim.specs.declared.asks.Asked.{Asked}
use Rattle.ccr_claim.specs.declared.plan.Had.{Had}
use Rattle.ccr_claim.specs.Attempts.{Phase, attempt_ask, booking, claiming, had_in}
use Rattle.ccr_claim.specs.Plans.{firing_task, in_pattern, ports_in}
use Rattle.ccr_actor.specs.Plans.{pattern_at, plan_of}
use Rattle.ccr_actor.specs.Actors.{State, Turn, Work, admit, ask_in, asked, drive, end_ask, go_on, lines, name_at, play_ask, play_in, playing, posting, resting, round, settle, shedding, spots_left, stop, taking, turn, work_ask}
use Rattle.ccr_claim.specs.Wired.{AreCausesOf, IsKnown, IsTaskOf}
use Rattle.ccr_runs.specs.declared.entries.Entry.{Entry}
use Rattle.ccr_runs.specs.Places.{arbiter_after, first_branch, given, note_at_arbiter, note_by_kind, note_of}
use Rattle.ccr_runs.specs.EntryRuns.{Lacks, notes_at, port_at, same_place, state_of}
use Rattle.ccr_runs.specs.Visible.{visible}
use Rattle.ccr_runs.specs.Views.{suspended_view}
use Rattle.ccr_net.proofs.Parts.ArbitersMatch.{none_at_first}
use Rattle.ccr_net.proofs.Parts.StepsKeepActors.{unfired}
use Rattle.ccr_net.proofs.Kept.WholeInvariant.{Holds, domains_admit, hand_settles, spots_drive}
use Rattle.ccr_net.proofs.Played.BuiltTasksAreTold.{got_posted}
use Rattle.ccr_net.proofs.Played.HandedTasksAreTold.{CausesTell, Handed, PutSeen}
use Rattle.ccr_net.proofs.Parts.PortsAndHandsMatch.{IsOwed}
use Rattle.ccr_net.proofs.Known.CausesAreKnown.{IsSentFine, fine_causes, play_of-fine, posted_fine, script_fine}
use Rattle.ccr_net.proofs.Known.PlacesAreKnown.{IsPlaceOf}
use Rattle.ccr_net.proofs.Known.StatesAreKnown.{Reaches, WorkReaches}
use Rattle.ccr_net.proofs.Known.TasksAreKnown.{IsDomain, built_known, domain_low, domain_own, spot_domain, spot_queue, suspended_known, view_domain, view_known, view_queue}
use Rattle.ccr_net.proofs.Parts.NotesAnswerAsks.{none_at}
use Rattle.ccr_net.proofs.Parts.GotNamesStandAlone.{sorted_among}
use Rattle.ccr_net.proofs.Parts.PhasesFitPlans.{Fits, PhaseFits, SpotFits}
use Rattle.ccr_net.proofs.Kept.WhatWiringsHave.{PlainFacts}
use Rattle.ccr_net.proofs.Played.PlacesByNumber.{same_place-is}
use Rattle.ccr_net.proofs.Kept.ShownStepsKeepAll.{named_legal}
use Rattle.ccr_net.proofs.Parts.WorkMatches.{RunsTask, WorkMatches, play-view}

-- ---- what is handed back was taken before

-- an ask that a place without notes gives no note to
abbrev pub hands_back : Ask → Bool
hands_back (asks.Consume t) = true
hands_back (asks.Free t) = true
hands_back (asks.Unbook t) = true
hands_back (asks.Over t r how) = true
hands_back _ = false

unbooked : (t : TaskId) (note : Note) → given (set.contains (set.empty {R = task_cmp}) t || set.contains (set.empty {R = task_cmp}) t) note ≡ None
unbooked t note = ap (λ b. given (b || b) note) (set.contains-empty task_cmp t)

over_none : (w : Parts) (i : ℕ) (part : ArbiterPart) (t r : TaskId) (how : How) (kind : Kind) → note_by_kind w i kind part [] (asks.Over t r how) ≡ None
over_none w i part t r how kinds.Receive = ap (λ ts. given (has_task ts r && not (has_task (arbiter_after (first_branch w i) part []).over r)) (notes.Over t r how)) (none_at_first (first_branch w i) part)
over_none w i part t r how kinds.Choice = ap (λ ts. given (has_task ts r && not (has_task (arbiter_after (first_branch w i) part []).over r)) (notes.Over t r how)) (none_at_first (first_branch w i) part)
over_none w i part t r how kinds.Interleave = unbooked r (notes.Over t r how)

first_none : (w : Parts) (place : Place) (ask : Ask) → hands_back ask ≡ true → note_of w place [] ask ≡ None
first_none w (places.Port p) ask is = by ask is
  where
    by : (ask : Ask) → hands_back ask ≡ true → note_of w (places.Port p) [] ask ≡ None
    by (asks.Consume t) is = refl
    by (asks.Free t) is = refl
    by (asks.Unbook t) is = refl
    by (asks.Over t r how) is = refl
    by (asks.Post m) is = absurd (cc)
    by (asks.Claim t s) is = absurd (cc)
    by (asks.Commit t ms) is = absurd (cc)
    by asks.Admit is = absurd (cc)
    by (asks.Suspend t) is = absurd (cc)
    by (asks.Book t r) is = absurd (cc)
    by (asks.Put t) is = absurd (cc)
    by asks.Take is = absurd (cc)
    by asks.Draw is = absurd (cc)
    by asks.Leave is = absurd (cc)
    by asks.Left is = absurd (cc)
first_none w (places.Arbiter i) ask is = by ask is
  where
    over_at : (o : Option ArbiterPart) (t r : TaskId) (how : How) → note_at_arbiter w i o [] (asks.Over t r how) ≡ None
    over_at None t r how = refl
    over_at (Some part) t r how = over_none w i part t r how part.kind

    by : (ask : Ask) → hands_back ask ≡ true → note_of w (places.Arbiter i) [] ask ≡ None
    by (asks.Consume t) is = none_at w (asks.Consume t) (λ arbiter. refl) (λ place. refl) i (slice_get w.arbiters i) []
    by (asks.Free t) is = none_at w (asks.Free t) (λ arbiter. refl) (λ place. refl) i (slice_get w.arbiters i) []
    by (asks.Unbook t) is = none_at w (asks.Unbook t) (λ arbiter. refl) (λ place. refl) i (slice_get w.arbiters i) []
    by (asks.Over t r how) is = over_at (slice_get w.arbiters i) t r how
    by (asks.Post m) is = absurd (cc)
    by (asks.Claim t s) is = absurd (cc)
    by (asks.Commit t ms) is = absurd (cc)
    by asks.Admit is = absurd (cc)
    by (asks.Suspend t) is = absurd (cc)
    by (asks.Book t r) is = absurd (cc)
    by (asks.Put t) is = absurd (cc)
    by asks.Take is = absurd (cc)
    by asks.Draw is = absurd (cc)
    by asks.Leave is = absurd (cc)
    by asks.Left is = absurd (cc)
first_none w (places.Site b k) ask is = by ask is
  where
    by : (ask : Ask) → hands_back ask ≡ true → note_of w (places.Site b k) [] ask ≡ None
    by (asks.Consume t) is = refl
    by (asks.Free t) is = refl
    by (asks.Unbook t) is = refl
    by (asks.Over t r how) is = refl
    by (asks.Post m) is = absurd (cc)
    by (asks.Claim t s) is = absurd (cc)
    by (asks.Commit t ms) is = absurd (cc)
    by asks.Admit is = absurd (cc)
    by (asks.Suspend t) is = absurd (cc)
    by (asks.Book t r) is = absurd (cc)
    by (asks.Put t) is = absurd (cc)
    by asks.Take is = absurd (cc)
    by asks.Draw is = absurd (cc)
    by asks.Leave is = absurd (cc)
    by asks.Left is = absurd (cc)
first_none w (places.Queue q) ask is = by ask is
  where
    by : (ask : Ask) → hands_back ask ≡ true → note_of w (places.Queue q) [] ask ≡ None
    by (asks.Consume t) is = refl
    by (asks.Free t) is = refl
    by (asks.Unbook t) is = unbooked t (notes.Unbook t)
    by (asks.Over t r how) is = refl
    by (asks.Post m) is = absurd (cc)
    by (asks.Claim t s) is = absurd (cc)
    by (asks.Commit t ms) is = absurd (cc)
    by asks.Admit is = absurd (cc)
    by (asks.Suspend t) is = absurd (cc)
    by (asks.Book t r) is = absurd (cc)
    by (asks.Put t) is = absurd (cc)
    by asks.Take is = absurd (cc)
    by asks.Draw is = absurd (cc)
    by asks.Leave is = absurd (cc)
    by asks.Left is = absurd (cc)
first_none w places.Meter ask is = by ask is
  where
    by : (ask : Ask) → hands_back ask ≡ true → note_of w places.Meter [] ask ≡ None
    by (asks.Consume t) is = refl
    by (asks.Free t) is = refl
    by (asks.Unbook t) is = refl
    by (asks.Over t r how) is = refl
    by (asks.Post m) is = absurd (cc)
    by (asks.Claim t s) is = absurd (cc)
    by (asks.Commit t ms) is = absurd (cc)
    by asks.Admit is = absurd (cc)
    by (asks.Suspend t) is = absurd (cc)
    by (asks.Book t r) is = absurd (cc)
    by (asks.Put t) is = absurd (cc)
    by asks.Take is = absurd (cc)
    by asks.Draw is = absurd (cc)
    by asks.Leave is = absurd (cc)
    by asks.Left is = absurd (cc)

-- the places of all entries are the wiring's
abbrev pub ArePlaced : Parts → List Entry → Type 0
ArePlaced w es = (x : Entry) → Among x es → IsPlaceOf w x.place

-- a place with notes is the wiring's
noted_or : (w : Parts) (es : List Entry) (place : Place) → ArePlaced w es → IsPlaceOf w place ⊎ (notes_at es place ≡ [])
noted_or w [] place placed = inr refl
noted_or w (x ∷ es) place placed = by (same_place x.place place) refl (noted_or w es place (λ y is. placed y (inr is)))
  where
    by : (b : Bool) → same_place x.place place ≡ b → IsPlaceOf w place ⊎ (notes_at es place ≡ []) → IsPlaceOf w place ⊎ ((if b then x.note ∷ [] else []) ++ notes_at es place ≡ [])
    by true same rest = inl (subst (IsPlaceOf w) (same_place-is x.place place same) (placed x (inl refl)))
    by false other rest = rest

-- ---- slots

ports_low : (w : Parts) → IsSound w → (spot : Spot) → SpotFits w spot → (p : ℕ) → Among p (ports_in (pattern_at w spot)) → p < length w.ports
ports_low w all (Branch b) fits p is =
    let there : Among p (ports_in fits.0.branch.pattern) = subst (λ (x : Pattern). Among p (ports_in x)) (ap (λ o. option_map_or (λ (s : Placement). s.branch.pattern) o (Slots [])) fits.1) is in
    of_pattern fits.0.branch.pattern refl there
  where
    of_pattern : (pattern : Pattern) → fits.0.branch.pattern ≡ pattern → Among p (ports_in fits.0.branch.pattern) → p < length w.ports
    of_pattern (Slots slots) same there = let found = index_of (map (λ (s : Slot). s.port) slots) p (subst (λ (x : Pattern). Among p (ports_in x)) same there) in all.pattern_ports b fits.0 found.0 p fits.1 (rw same found.1)
    of_pattern (Gather total first second) same there = let found = index_of (first ∷ second ∷ []) p (subst (λ (x : Pattern). Among p (ports_in x)) same there) in all.pattern_ports b fits.0 found.0 p fits.1 (rw same found.1)
ports_low w all (Site b k) fits p is = of_one (rw fits.1 at is)
  where
    of_one : Among p (fits.0 ∷ []) → p < length w.ports
    of_one (inl e) = subst (λ q. q < length w.ports) (sym e) (all.site_ports b k fits.0 fits.1)
    of_one (inr none) = absurd none

slot_port : (pattern : Pattern) (slot : Slot) (slots : List Slot) (had : List Had) → Fits pattern (slot ∷ slots) had → Among slot.port (ports_in pattern)
slot_port (Slots every) slot slots had fits = mapped every (sorted_among every slot (subst (Among slot) fits (Among-right slot (map (λ (d : Had). d.slot) had) (slot ∷ slots) (inl refl))))
  where
    mapped : (ss : List Slot) → Among slot ss → Among slot.port (map (λ (s : Slot). s.port) ss)
    mapped [] is = absurd is
    mapped (s ∷ ss) (inl e) = inl (ap (λ (x : Slot). x.port) e)
    mapped (s ∷ ss) (inr more) = inr (mapped ss more)
slot_port (Gather total first second) slot slots [] fits = one (nat_lt first second) (port_of _ _ fits)
  where
    port_of : (t : Slot) (ss : List Slot) → slot ∷ slots ≡ t ∷ ss → slot.port ≡ t.port
    port_of t ss is = let same : slot ≡ t = cc in ap (λ (x : Slot). x.port) same

    one : (b : Bool) → slot.port ≡ (if b then first else second) → Among slot.port (first ∷ second ∷ [])
    one true e = inl e
    one false e = inr (inl e)
slot_port (Gather total first second) slot slots (d ∷ []) fits = one (nat_lt first second) (port_of _ _ fits.1)
  where
    port_of : (t : Slot) (ss : List Slot) → slot ∷ slots ≡ t ∷ ss → slot.port ≡ t.port
    port_of t ss is = let same : slot ≡ t = cc in ap (λ (x : Slot). x.port) same

    one : (b : Bool) → slot.port ≡ (if b then second else first) → Among slot.port (first ∷ second ∷ [])
    one true e = inr (inl e)
    one false e = inl e
slot_port (Gather total first second) slot slots (d ∷ x ∷ []) fits = absurd (let none : slot ∷ slots ≡ [] = fits.2 in cc)
slot_port (Gather total first second) slot slots (d ∷ x ∷ y ∷ more) fits = absurd fits

-- ---- the asks

-- the ask and its place name what the wiring has
pub record IsNamed (w : Parts) (x : Asked) : Type 0 where
  pub place : IsPlaceOf w x.place
  pub ask : IsKnown w x.ask

domain_place : (w : Parts) → IsValid w → (i : ℕ) → IsDomain w i → IsPlaceOf w (places.Arbiter i)
domain_place w valid i is = (domain_low w i is, domain_own w valid i is)

module _ (w : Parts) (valid : IsValid w) (plain : PlainFacts w) (n : ℕ) (lacks : Lacks) (es : List Entry) (holds : Holds w n lacks es) (handed : Handed w lacks es) (placed : ArePlaced w es) (a : ℕ) (reach : Reaches w (state_of w lacks es a)) where
  abbrev st : State
  st = state_of w lacks es a

  abbrev h : List Event
  h = visible es

  all : IsSound w
  all = sound w valid

  -- what is in hand
  owed_named : (place : Place) (ask : Ask) (note : Note) → IsOwed w h a st.attempt place ask → PutSeen w h ask → note_of w place (notes_at es place) ask ≡ Some note → (IsPlaceOf w place) × (IsKnown w ask)
  owed_named place ask note owed seen gives = by ask owed seen gives
    where
      back : (ask : Ask) → hands_back ask ≡ true → note_of w place (notes_at es place) ask ≡ Some note → IsPlaceOf w place
      back ask is gives = of (noted_or w es place placed)
        where
          of : IsPlaceOf w place ⊎ (notes_at es place ≡ []) → IsPlaceOf w place
          of (inl there) = there
          of (inr none) = absurd (no_some (note_of w place (notes_at es place) ask) note (ap (λ ns. note_of w place ns ask) none ∙ first_none w place ask is) gives)

      by : (ask : Ask) → IsOwed w h a st.attempt place ask → PutSeen w h ask → note_of w place (notes_at es place) ask ≡ Some note → (IsPlaceOf w place) × (IsKnown w ask)
      by (asks.Consume t) owed seen gives = (back (asks.Consume t) refl gives, tt)
      by (asks.Free t) owed seen gives = (back (asks.Free t) refl gives, tt)
      by (asks.Unbook t) owed seen gives = (back (asks.Unbook t) refl gives, tt)
      by (asks.Over t r how) owed seen gives = (back (asks.Over t r how) refl gives, tt)
      by (asks.Put task) owed seen gives =
          let known : IsTaskOf w task = subst (IsTaskOf w) (sym seen) (view_known w all h holds.legal task.id owed.0.fires valid) in
          (subst (IsPlaceOf w) (sym owed.1) (view_queue w all h holds.legal task.id owed.0.fires), known)
      by (asks.Post m) owed seen gives = absurd owed
      by (asks.Claim t s) owed seen gives = absurd owed
      by (asks.Commit t ms) owed seen gives = absurd owed
      by asks.Admit owed seen gives = absurd owed
      by (asks.Suspend t) owed seen gives = absurd owed
      by (asks.Book t r) owed seen gives = absurd owed
      by asks.Take owed seen gives = absurd owed
      by asks.Draw owed seen gives = absurd owed
      by asks.Leave owed seen gives = absurd owed
      by asks.Left owed seen gives = absurd owed

  -- a drive
  drive_named : (spot : Spot) → SpotFits w spot → (ph : Phase) → st.phase ≡ ph → ((slots : List Slot) (had : List Had) → ph ≡ claiming slots had → Fits (pattern_at w spot) slots had) → IsNamed w (attempt_ask (plan_of w spot) (name_at a st) ph)
  drive_named spot here booking phase fits = record { place = spot_queue w all spot here; ask = tt }
  drive_named spot here (claiming (slot ∷ slots) had) phase fits =
      let low = ports_low w all spot here slot.port (slot_port (pattern_at w spot) slot slots had (fits (slot ∷ slots) had refl)) in
      record { place = low; ask = low }
  drive_named spot here (claiming [] had) phase fits = record { place = at_spot spot here; ask = built }
    where
      messages : List Msg
      messages = in_pattern (pattern_at w spot) had

      posted : (m : Msg) → Among m messages → Among m (posts h)
      posted m is = got_posted w h (port_at es) a st (named_legal w h holds.legal) holds.ports (holds.actors a).claims (unfired w h (port_at es) a st (holds.actors a).claims) (pattern_at w spot) m (subst (λ hs. Among m (in_pattern (pattern_at w spot) hs)) (sym (ap had_in phase)) is)

      built : IsTaskOf w (firing_task (plan_of w spot) (name_at a st) messages)
      built = built_known w valid all spot here (name_at a st) messages (λ m is. (posted_fine w all h holds.legal m (posted m is)).1)

      at_spot : (spot : Spot) → SpotFits w spot → IsPlaceOf w (attempt_ask (plan_of w spot) (name_at a st) (claiming [] had)).place
      at_spot (Branch b) fits = domain_place w valid _ (spot_domain w (Branch b) fits)
      at_spot (Site b k) fits = fits

  -- work between drives
  sent_named : (sent : Sent) (m : Msg) → IsSentFine w all sent → m.port ≡ sent.port → m.causes ≡ sent.causes → IsNamed w (record { place = places.Port sent.port; ask = asks.Post m })
  sent_named sent m fine port causes = record { place = fine.port; ask = (subst (λ p. p < length w.ports) (sym port) fine.port, subst (AreCausesOf w) (sym causes) (fine_causes w sent.causes fine.causes)) }

  task_domain : (task : Task) (index : ℕ) (left : List Sent) → RunsTask w h a task index left → IsDomain w task.arbiter
  task_domain task index left run = subst (λ (t : Task). IsDomain w t.arbiter) (sym run.as_seen) (view_domain w all h holds.legal task.id run.fires)

  play_so : (task : Task) (index : ℕ) (left : List Sent) → RunsTask w h a task index left → play_in w task ≡ play_of w h task.id
  play_so task index left run = ap (play_in w) run.as_seen ∙ play-view w h task.id run.fires

  over_named : (task : Task) (how : How) → IsDomain w task.arbiter → IsNamed w (record { place = places.Arbiter task.arbiter; ask = asks.Over task.id task.root how })
  over_named task how one = record { place = domain_place w valid task.arbiter one; ask = tt }

  end_named : (task : Task) (index : ℕ) (play : Play) → RunsTask w h a task index play.posts → play.end ≡ (play_in w task).end → play.causes ≡ (play_in w task).causes → (end : PlayEnd) → play.end ≡ end → IsNamed w (end_ask task play end)
  end_named task index play run ends causes plays.Done is = over_named task _ (task_domain task index play.posts run)
  end_named task index play run ends causes (plays.Failed v) is = over_named task _ (task_domain task index play.posts run)
  end_named task index play run ends causes (plays.Yield site) is = record { place = plain.sites_so task site (sym ends ∙ is); ask = subst (IsTaskOf w) (sym same) (suspended_known w all h holds.legal task.id run.fires valid) }
    where
      whole : play.causes ≡ (play_of w h task.id).causes
      whole = causes ∙ ap (λ (p : Play). p.causes) (play_so task index play.posts run)

      same : record task { causes = play.causes } ≡ suspended_view w h task.id
      same = λ j. record (run.as_seen j) { causes = whole j }

  work_named : (work : Work) → WorkMatches w h a work → WorkReaches w work → CausesTell w work → (x : Asked) → work_ask a work ≡ Some x → IsNamed w x
  work_named work match low tells x is = by work match low tells is
    where
      of_posts : (task : Task) (index : ℕ) (play : Play) → RunsTask w h a task index play.posts → play.end ≡ (play_in w task).end → play.causes ≡ (play_in w task).causes → (ps : List Sent) → IsNamed w (play_ask task play ps)
      of_posts task index play run ends causes [] = end_named task index play run ends causes play.end refl
      of_posts task index play run ends causes (sent ∷ ps) = record { place = tt; ask = tt }

      by : (work : Work) → WorkMatches w h a work → WorkReaches w work → CausesTell w work → work_ask a work ≡ Some x → IsNamed w x
      by (lines index []) match low tells is = some_so (IsNamed w) is (record { place = tt; ask = tt })
      by (lines index (sent ∷ sents)) match low tells is =
          let line = (drop-next index match.poster.posts sent sents match.left_so).0 in
          some_so (IsNamed w) is (sent_named sent _ (script_fine w all a match.poster index sent match.is_poster line) refl refl)
      by round match low tells is = some_so (IsNamed w) is (record { place = tt; ask = tt })
      by (taking left q more) match low tells is = some_so (IsNamed w) is (record { place = omega (arith, low); ask = tt })
      by (playing task index play) match low tells is = some_so (IsNamed w) is (of_posts task index play match.0 match.1 tells play.posts)
      by (posting task index play sent) match low tells is =
          let line = (drop-next index (play_in w task).posts sent play.posts match.0.left_so).0 in
          let there : Among sent (play_of w h task.id).posts = subst (λ (p : Play). Among sent p.posts) (play_so task index (sent ∷ play.posts) match.0) (Among-at (play_in w task).posts index sent line) in
          some_so (IsNamed w) is (sent_named sent _ ((play_of-fine w all h (posted_fine w all h holds.legal) task.id).posts sent there) refl refl)
      by (shedding task) match low tells is = some_so (IsNamed w) is (over_named task _ (task_domain task match.0 (match.1 ∷ match.2) match.3))
      by resting match low tells is = absurd (cc)

  -- the next ask, which its place gives a note to
  pub ask_named : (x : Asked) (note : Note) → asked w a st ≡ Some x → note_of w x.place (notes_at es x.place) x.ask ≡ Some note → IsNamed w x
  ask_named x note asks_so gives = by (turn st) refl asks_so
    where
      attempts : (spot : Spot) (more : List Spot) → spots_left st ≡ spot ∷ more → (SpotFits w spot) × ((slots : List Slot) (had : List Had) → st.phase ≡ claiming slots had → Fits (pattern_at w spot) slots had)
      attempts spot more list = of_test (nat_lt st.attempt (2 ^ 32)) list
        where
          fits_at : (ss : List Spot) → st.spots ≡ ss → ss ≡ spot ∷ more → (slots : List Slot) (had : List Had) → st.phase ≡ claiming slots had → PhaseFits w st.attempt st.phase st.spots → Fits (pattern_at w spot) slots had
          fits_at ss same is slots had phase fits = (subst (λ (ph : Phase). PhaseFits w st.attempt ph (spot ∷ more)) phase (subst (λ xs. PhaseFits w st.attempt st.phase xs) (same ∙ is) fits)).1

          of_test : (b : Bool) → (if b then st.spots else []) ≡ spot ∷ more → (SpotFits w spot) × ((slots : List Slot) (had : List Had) → st.phase ≡ claiming slots had → Fits (pattern_at w spot) slots had)
          of_test true there = ((holds.actors a).fits.spots_so spot (subst (Among spot) (sym there) (inl refl)), λ slots had phase. fits_at st.spots refl there slots had phase (holds.actors a).fits.phase_so)
          of_test false there = absurd (cc)

      by : (tu : Turn) → turn st ≡ tu → ask_in w a st tu ≡ Some x → IsNamed w x
      by (settle y more) turns same =
          let among : Among y st.hand = subst (Among y) (sym (hand_settles st.is_short st.hand st.domains (spots_left st) y more turns)) (inl refl) in
          let e : y ≡ x = some_is same in
          let both = owed_named y.place y.ask note ((holds.actors a).claims.owed y among) ((handed a).hands y among) (subst (λ (z : Asked). note_of w z.place (notes_at es z.place) z.ask ≡ Some note) (sym e) gives) in
          subst (IsNamed w) e (record { place = both.0; ask = both.1 })
      by (admit i more) turns same = some_so (IsNamed w) same (record { place = domain_place w valid i (reach.domains i (subst (Among i) (sym (domains_admit st.is_short st.hand st.domains (spots_left st) i more turns)) (inl refl))); ask = tt })
      by (drive spot more) turns same =
          let found = attempts spot more (spots_drive st.is_short st.hand st.domains (spots_left st) spot more turns).1 in
          some_so (IsNamed w) same (drive_named spot found.0 st.phase refl found.1)
      by go_on turns same = work_named st.work (holds.actors a).work reach.works (handed a).plays x same
      by stop turns same = absurd (cc)
