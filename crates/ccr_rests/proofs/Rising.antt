-- What an entry's ask is when it settles something, and how the attempts of its actor rise.
use Rattle.std.proofs.Common.{inl, inr, ◌⊎◌, ◌≡◌, ◌≤◌, ◌<◌, ℕ, Bool, true, false, List, [], ◌∷◌, ◌++◌, Some, refl, sym, arith, ap, ◌∙◌, subst}
use Rattle.std.proofs.lemmas.Option.{same_Some}
use Rattle.std.specs.Prelude.{◌==◌}
use Rattle.ccr_base.specs.declared.names.MsgId.{MsgId}
use Rattle.ccr_base.specs.declared.names.Place.TheVariants as places
use Rattle.ccr_base.specs.declared.names.Spot.{Spot}
use Rattle.ccr_base.specs.declared.names.TaskId.{TaskId}
use Rattle.ccr_wiring.specs.declared.parts.Parts.{Parts}
use Rattle.ccr_base.proofs.Booleans.{same_number, eq-self, no_both}
use Rattle.ccr_base.proofs.Options.{no_some}
use Rattle.ccr_model.proofs.Members.{Among}
use Rattle.ccr_places.specs.declared.notes.Note.TheVariants as notes
use Rattle.ccr_claim.specs.declared.asks.Ask.TheVariants as asks
use Rattle.ccr_claim.specs.declared.asks.Asked.{Asked}
use Rattle.ccr_claim.specs.Plans.{commit_place, firing_task, in_pattern, names_of}
use Rattle.ccr_claim.specs.Attempts.{Phase, booking, claiming, at_place, attempt_ask}
use Rattle.ccr_actor.specs.Plans.{plan_of}
use Rattle.ccr_actor.specs.Actors.{State, Turn, settle, admit, drive, go_on, stop, turn, ask_in, spots_left, name_at, after, after_work, shorten}
use Rattle.ccr_runs.specs.declared.entries.Entry.{Entry}
use Rattle.ccr_runs.specs.EntryRuns.{Lacks, notes_at, reply_of, state_of}
use Rattle.ccr_runs.specs.Visible.{visible}
use Rattle.ccr_net.proofs.Kept.WholeInvariant.{Holds, hand_settles}
use Rattle.ccr_net.proofs.Owed.WorkKeepsStates.{Worked, worked}
use Rattle.ccr_net.proofs.Parts.PortsAndHandsMatch.{IsOwed}
use Rattle.ccr_net.proofs.Owed.EntriesAreMoves.{Move, settles, drops, admits, strikes, books, claims, fires, gives_up, goes, moved, IsCommitNote, commit_notes}
use Rattle.ccr_net.proofs.Parts.NotesAnswerAsks.{Given}
use Rattle.ccr_net.proofs.Owed.NotedOversAreOver.{is_over_ask}
use Rattle.ccr_net.proofs.Owed.EntriesChangeOwing.{is_quiet, work_asks, WorkAsks}
use Rattle.ccr_net.proofs.Parts.OneMoreEntry.{IsNextState, Step, state_of-own, state_of-other}
use Rattle.ccr_rests.proofs.NoteKinds.{kind_asked, kind_noted}
use Rattle.ccr_rests.proofs.Turned.{Turned, quietly, admitting, driving, turned}

attempt_quiet : (w : Parts) (spot : Spot) (name : TaskId) (ph : Phase) → is_quiet (attempt_ask (plan_of w spot) name ph).ask ≡ true
attempt_quiet w spot name booking = refl
attempt_quiet w spot name (claiming [] had) = refl
attempt_quiet w spot name (claiming (slot ∷ slots) had) = refl

-- an ask that settles something, and isn't an end, is the first in hand, so it is owed
pub from_hand : (w : Parts) (n : ℕ) (lacks : Lacks) (es : List Entry) (e : Entry) → Holds w n lacks es → (step : Step w lacks es e) → is_quiet step.asking.ask ≡ false → is_over_ask step.asking.ask ≡ false → (more : List Asked) × ((state_of w lacks es e.actor).hand ≡ step.asking ∷ more) × IsOwed w (visible es) e.actor (state_of w lacks es e.actor).attempt step.asking.place step.asking.ask
from_hand w n lacks es e holds step loud other = by (turn (state_of w lacks es e.actor)) refl step.asks
  where
    Found : Type 0
    Found = (more : List Asked) × ((state_of w lacks es e.actor).hand ≡ step.asking ∷ more) × IsOwed w (visible es) e.actor (state_of w lacks es e.actor).attempt step.asking.place step.asking.ask

    owed : (more : List Asked) → (state_of w lacks es e.actor).hand ≡ step.asking ∷ more → Found
    owed more hand = (more, hand, (holds.actors e.actor).claims.owed step.asking (subst (Among step.asking) (sym hand) (inl refl)))

    of_work : WorkAsks w (visible es) e.actor step.asking → Found
    of_work (inl quiet) = absurd (no_both quiet loud)
    of_work (inr end) = absurd (no_both (ap (λ (x : Asked). is_over_ask x.ask) end.2) other)

    by : (tu : Turn) → turn (state_of w lacks es e.actor) ≡ tu → ask_in w e.actor (state_of w lacks es e.actor) (turn (state_of w lacks es e.actor)) ≡ Some step.asking → Found
    by (settle x more) turns asks_so =
        let same : x ≡ step.asking = same_Some _ _ (sym (ap (ask_in w e.actor (state_of w lacks es e.actor)) turns) ∙ asks_so) in
        owed more (hand_settles (state_of w lacks es e.actor).is_short (state_of w lacks es e.actor).hand (state_of w lacks es e.actor).domains (spots_left (state_of w lacks es e.actor)) x more turns ∙ ap (λ (y : Asked). y ∷ more) same)
    by (admit i more) turns asks_so = absurd (let same : at_place (places.Arbiter i) asks.Admit ≡ step.asking = same_Some _ _ (sym (ap (ask_in w e.actor (state_of w lacks es e.actor)) turns) ∙ asks_so) in no_both (ap (λ (y : Asked). is_quiet y.ask) (sym same)) loud)
    by (drive spot more) turns asks_so = absurd (let same : attempt_ask (plan_of w spot) (name_at e.actor (state_of w lacks es e.actor)) (state_of w lacks es e.actor).phase ≡ step.asking = same_Some _ _ (sym (ap (ask_in w e.actor (state_of w lacks es e.actor)) turns) ∙ asks_so) in no_both (ap (λ (y : Asked). is_quiet y.ask) (sym same) ∙ attempt_quiet w spot (name_at e.actor (state_of w lacks es e.actor)) (state_of w lacks es e.actor).phase) loud)
    by go_on turns asks_so = of_work (work_asks w (visible es) e.actor (state_of w lacks es e.actor).work step.asking (holds.actors e.actor).work (sym (ap (ask_in w e.actor (state_of w lacks es e.actor)) turns) ∙ asks_so))
    by stop turns asks_so = absurd (no_some _ step.asking refl (sym (ap (ask_in w e.actor (state_of w lacks es e.actor)) turns) ∙ asks_so))

-- ---- attempts

abbrev pub is_claiming : Phase → Bool
is_claiming booking = false
is_claiming (claiming slots had) = true

-- the attempt has ended, or it goes on
abbrev pub Rises : State → State → Type 0
Rises st next = (st.attempt < next.attempt) ⊎ ((next.attempt ≡ st.attempt) × (is_claiming st.phase ≡ true → is_claiming next.phase ≡ true))

rises-move : (w : Parts) (es : List Entry) (e : Entry) (st next : State) → Move w es e st next → Rises st next
rises-move w es e st next (settles x more hand given is) = subst (Rises st) (sym is) (inr (refl, λ c. c))
rises-move w es e st next (drops x more t d hand given note is) = subst (Rises st) (sym is) (inr (refl, λ c. c))
rises-move w es e st next (admits i more t hand numbers given note is) = subst (Rises st) (sym is) (inr (refl, λ c. c))
rises-move w es e st next (strikes i more hand numbers given is) = subst (Rises st) (sym is) (inr (refl, λ c. c))
rises-move w es e st next (books spot more hand spots phase given note is) = subst (Rises st) (sym is) (inr (refl, λ c. refl))
rises-move w es e st next (claims spot more slot slots had k hand spots phase given free note is) = subst (Rises st) (sym is) (inr (refl, λ c. refl))
rises-move w es e st next (fires spot more had cs hand spots phase given note is) = subst (Rises st) (sym is) (inl (omega arith))
rises-move w es e st next (gives_up spot more hand spots given quiet is) = subst (Rises st) (sym is) (inl (omega arith))
rises-move w es e st next (goes x turns asks_so given is) =
    let went : Worked w st (after_work w st st.work (reply_of w es e)) = worked w st st.work refl (reply_of w es e) in
    subst (Rises st) (sym is) (inr (went.attempt, λ c. ap is_claiming went.phase ∙ c))

rises-short : (w : Parts) (a : ℕ) (st next : State) → Rises st next → Rises st (shorten w a next)
rises-short w a st next (inl more) = inl (omega (arith, more))
rises-short w a st next (inr same) = inl (let is = same.0 in omega (arith, is))

pub rises_next : (w : Parts) (lacks : Lacks) (es : List Entry) (e : Entry) → Step w lacks es e → Rises (state_of w lacks es e.actor) (after w e.actor (state_of w lacks es e.actor) (reply_of w es e))
rises_next w lacks es e step = rises-move w es e (state_of w lacks es e.actor) (after w e.actor (state_of w lacks es e.actor) (reply_of w es e)) (moved w lacks es e step)

-- an entry ends the attempt of its actor, or it goes on; those of others go on
pub rises : (w : Parts) (lacks : Lacks) (es : List Entry) (e : Entry) → Step w lacks es e → (a : ℕ) → Rises (state_of w lacks es a) (state_of w lacks (es ++ e ∷ []) a)
rises w lacks es e step a = by (e.actor == a) refl
  where
    own : Rises (state_of w lacks es e.actor) (after w e.actor (state_of w lacks es e.actor) (reply_of w es e))
    own = rises_next w lacks es e step

    of_next : (new : State) → IsNextState w e.actor (state_of w lacks es e.actor) (reply_of w es e) new → Rises (state_of w lacks es e.actor) new
    of_next new (inl is) = subst (Rises (state_of w lacks es e.actor)) (sym is) own
    of_next new (inr is) = subst (Rises (state_of w lacks es e.actor)) (sym is) (rises-short w e.actor (state_of w lacks es e.actor) (after w e.actor (state_of w lacks es e.actor) (reply_of w es e)) own)

    by : (b : Bool) → (e.actor == a) ≡ b → Rises (state_of w lacks es a) (state_of w lacks (es ++ e ∷ []) a)
    by true at = subst (λ k. Rises (state_of w lacks es k) (state_of w lacks (es ++ e ∷ []) k)) (same_number e.actor a at) (of_next (state_of w lacks (es ++ e ∷ []) e.actor) (state_of-own w lacks es e e.actor (eq-self e.actor)))
    by false at = subst (Rises (state_of w lacks es a)) (sym (state_of-other w lacks es e a at)) (inr (refl, λ c. c))

-- the attempt of that name is an earlier one of its actor, or the one under way, of which this holds
abbrev pub IsOld : State → TaskId → Bool → Type 0
IsOld st t b = (t.attempt < st.attempt) ⊎ ((t.attempt ≡ st.attempt) × (b ≡ true))

-- ---- what an attempt asked

-- the entry is a step of the attempt under way
pub record Tries (w : Parts) (es : List Entry) (e : Entry) (st : State) : Type 0 where
  pub spot : Spot
  pub more : List Spot
  pub turns : turn st ≡ drive spot more
  pub hand : st.hand ≡ []
  pub given : Given w es e (attempt_ask (plan_of w spot) (name_at e.actor st) st.phase)
  pub kind : kind_noted e.note ≡ kind_asked (attempt_ask (plan_of w spot) (name_at e.actor st) st.phase).ask

pub tries : (w : Parts) (n : ℕ) (lacks : Lacks) (es : List Entry) (e : Entry) → Holds w n lacks es → Step w lacks es e → 1 ≤ kind_noted e.note → kind_noted e.note ≤ 3 → Tries w es e (state_of w lacks es e.actor)
tries w n lacks es e holds step some few = by (turned w n lacks es e holds step)
  where
    by : Turned w es e (state_of w lacks es e.actor) → Tries w es e (state_of w lacks es e.actor)
    by (quietly zero) = absurd (omega (arith, zero, some))
    by (admitting i more turns hand given four) = absurd (omega (arith, four, few))
    by (driving spot more turns hand spots given kind) = record { spot = spot; more = more; turns = turns; hand = hand; given = given; kind = kind }

-- what an entry says to have fired is the attempt of its actor
pub fires_itself : (w : Parts) (n : ℕ) (lacks : Lacks) (es : List Entry) (e : Entry) → Holds w n lacks es → Step w lacks es e → (t : TaskId) (s : Spot) (ms : List MsgId) (cs : List TaskId) → e.note ≡ notes.Fired t s ms cs → t ≡ name_at e.actor (state_of w lacks es e.actor)
fires_itself w n lacks es e holds step t s ms cs noted = by (state_of w lacks es e.actor).phase refl
  where
    three : kind_noted e.note ≡ 3
    three = ap kind_noted noted

    tried : Tries w es e (state_of w lacks es e.actor)
    tried = tries w n lacks es e holds step (omega (arith, three)) (omega (arith, three))

    kind_so : (ph : Phase) → (state_of w lacks es e.actor).phase ≡ ph → kind_asked (attempt_ask (plan_of w tried.spot) (name_at e.actor (state_of w lacks es e.actor)) ph).ask ≡ 3
    kind_so ph phase = ap (λ p. kind_asked (attempt_ask (plan_of w tried.spot) (name_at e.actor (state_of w lacks es e.actor)) p).ask) (sym phase) ∙ sym tried.kind ∙ three

    by : (ph : Phase) → (state_of w lacks es e.actor).phase ≡ ph → t ≡ name_at e.actor (state_of w lacks es e.actor)
    by booking phase = absurd (let bad : 1 ≡ 3 = kind_so booking phase in omega (arith, bad))
    by (claiming (slot ∷ slots) had) phase = absurd (let bad : 2 ≡ 3 = kind_so (claiming (slot ∷ slots) had) phase in omega (arith, bad))
    by (claiming [] had) phase = of_note (commit_notes w (commit_place (plan_of w tried.spot) tried.spot) (notes_at es (commit_place (plan_of w tried.spot) tried.spot)) (firing_task (plan_of w tried.spot) name (in_pattern (plan_of w tried.spot).pattern had)) (names_of (in_pattern (plan_of w tried.spot).pattern had)) e.note given.gives)
      where
        name : TaskId
        name = name_at e.actor (state_of w lacks es e.actor)

        given : Given w es e (attempt_ask (plan_of w tried.spot) (name_at e.actor (state_of w lacks es e.actor)) (claiming [] had))
        given = subst (λ p. Given w es e (attempt_ask (plan_of w tried.spot) (name_at e.actor (state_of w lacks es e.actor)) p)) phase tried.given

        of_note : IsCommitNote (name_at e.actor (state_of w lacks es e.actor)) tried.spot (names_of (in_pattern (plan_of w tried.spot).pattern had)) e.note → t ≡ name_at e.actor (state_of w lacks es e.actor)
        of_note (inl found) = (let both = sym noted ∙ found.1 in cc)
        of_note (inr found) = absurd (let both = sym noted ∙ found.1 in cc)
