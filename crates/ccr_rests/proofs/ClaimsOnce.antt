-- No claim is ended twice, and only the attempt that made it ends it.
use Rattle.std.proofs.Common.{inl, inr, ◌⊎◌, ◌≡◌, ◌≤◌, ◌<◌, ℕ, zero, suc, ◌+◌, Bool, true, false, not, ◌&&◌, ◌||◌, List, [], ◌∷◌, ◌++◌, length, Option, Some, None, refl, sym, arith, ap, ◌∙◌, subst}
use Rattle.std.specs.Prelude.{◌==◌, if◌then◌else◌, nat_le}
use Rattle.std.specs.Option.{option_map_or}
use Rattle.ccr_base.specs.declared.names.Place.TheVariants as places
use Rattle.ccr_base.specs.declared.names.TaskId.{TaskId}
use Rattle.ccr_base.specs.declared.patterns.Slot.{Slot}
use Rattle.ccr_base.specs.Names.{same_task, has_task}
use Rattle.ccr_wiring.specs.declared.parts.Parts.{Parts}
use Rattle.ccr_wiring.specs.Valid.{IsValid}
use Rattle.ccr_base.proofs.Booleans.{both, no_both, not_true, and_false}
use Rattle.ccr_base.proofs.SameNames.{same_task-is}
use Rattle.ccr_model.proofs.TaskLists.{of_one}
use Rattle.ccr_places.specs.declared.claims.StandingClaim.{StandingClaim}
use Rattle.ccr_places.specs.declared.notes.ClaimNote.{ClaimNote}
use Rattle.ccr_places.specs.declared.notes.ClaimNote.TheVariants.{Got, Busy, Short}
use Rattle.ccr_places.specs.declared.notes.Note.{Note}
use Rattle.ccr_places.specs.declared.notes.Note.TheVariants as notes
use Rattle.ccr_places.specs.Ports.{PortState, is_claimed_by}
use Rattle.ccr_places.specs.Ports as ports
use Rattle.ccr_places.specs.NotedTasks.{noted_claimed, noted_unclaimed}
use Rattle.ccr_claim.specs.declared.asks.Ask.{Ask}
use Rattle.ccr_claim.specs.declared.asks.Ask.TheVariants as asks
use Rattle.ccr_claim.specs.Attempts.{Phase, booking, claiming, attempt_ask}
use Rattle.ccr_actor.specs.Plans.{plan_of}
use Rattle.ccr_actor.specs.Actors.{name_at}
use Rattle.ccr_runs.specs.declared.entries.Entry.{Entry}
use Rattle.ccr_runs.specs.Places.{note_of, port_note}
use Rattle.ccr_runs.specs.EntryRuns.{IsRunAfter, Lacks, notes_at, port_at, same_place, state_of}
use Rattle.ccr_runs.specs.Visible.{visible}
use Rattle.ccr_net.proofs.Kept.WholeInvariant.{Holds}
use Rattle.ccr_net.proofs.Parts.PortsAndHandsMatch.{IsOwed}
use Rattle.ccr_net.proofs.Parts.MeterMatches.{bit}
use Rattle.ccr_net.proofs.Parts.NotesAnswerAsks.{Given, given_some}
use Rattle.ccr_net.proofs.Owed.NotedOversAreOver.{is_over_ask}
use Rattle.ccr_net.proofs.Owed.EntriesChangeOwing.{is_quiet}
use Rattle.ccr_net.proofs.Owed.OwedClaimsStand.{is_claimed}
use Rattle.ccr_net.proofs.Played.PlacesByNumber.{same_place-is}
use Rattle.ccr_net.proofs.Parts.OneMoreEntry.{Step, Step-made, port_at-push}
use Rattle.ccr_rests.specs.Ends.{EndsClaim, EndsOnce, tells}
use Rattle.ccr_rests.proofs.HeldRuns.{along_held, holds_so}
use Rattle.ccr_rests.proofs.EntryCounts.{AreOwn, Parted, count, count-push, ends_once, low_actors, own-push, parted, some_telling}
use Rattle.ccr_rests.proofs.NoteKinds.{kind_asked, kind_noted}
use Rattle.ccr_rests.proofs.Rising.{IsOld, Rises, Tries, from_hand, rises, tries}

-- ---- a note at a port

-- the claim of this task stands, so who claims here is this task
claim_is : (port : PortState) (u t : TaskId) → is_claimed_by port u ≡ true → is_claimed_by port t ≡ same_task t u
claim_is port u t is = by port.claim is
  where
    by : (o : Option StandingClaim) → option_map_or (λ (c : StandingClaim). same_task u c.task) o false ≡ true → option_map_or (λ (c : StandingClaim). same_task t c.task) o false ≡ same_task t u
    by None now = absurd (cc)
    by (Some c) now = ap (same_task t) (sym (same_task-is u c.task now))

-- a claim that is got stands then, and one that is ended stood before
port_balance : (port : PortState) (ask : Ask) (note : Note) (t : TaskId) → port_note port ask ≡ Some note → bit (has_task (noted_claimed note) t) + bit (is_claimed_by port t) ≡ bit (has_task (noted_unclaimed note) t) + bit (is_claimed_by (ports.after port note) t)
port_balance port (asks.Post m) note t is = rw ((given_some (ports.may_post port m) (notes.Post m) note is).1) refl
port_balance port (asks.Claim u s) note t is = rw ((given_some (ports.may_claim port u s) (notes.Claim u s (ports.claim_note port s)) note is).1) (by port.claim refl)
  where
    of_bit : (b : Bool) → bit (b || false) + 0 ≡ 0 + bit b
    of_bit true = refl
    of_bit false = refl

    of_note : (n : ClaimNote) → port.claim ≡ None → bit (has_task (noted_claimed (notes.Claim u s n)) t) + bit (is_claimed_by port t) ≡ bit (has_task (noted_unclaimed (notes.Claim u s n)) t) + bit (is_claimed_by (ports.after_claim port u s n) t)
    of_note (Got k) none = rw none (of_bit (same_task t u))
    of_note (Busy v) none = refl
    of_note (Short k) none = refl

    by : (o : Option StandingClaim) → port.claim ≡ o → bit (has_task (noted_claimed (notes.Claim u s (ports.claim_note port s))) t) + bit (is_claimed_by port t) ≡ bit (has_task (noted_unclaimed (notes.Claim u s (ports.claim_note port s))) t) + bit (is_claimed_by (ports.after_claim port u s (ports.claim_note port s)) t)
    by None none = of_note (ports.claim_note port s) none
    by (Some c) some = subst (λ n. bit (has_task (noted_claimed (notes.Claim u s n)) t) + bit (is_claimed_by port t) ≡ bit (has_task (noted_unclaimed (notes.Claim u s n)) t) + bit (is_claimed_by (ports.after_claim port u s n) t)) (sym busy) refl
      where
        busy : ports.claim_note port s ≡ Busy c.task
        busy = ap (λ o. option_map_or (λ (claim : StandingClaim). Busy claim.task) o (ports.free_claim_note s port.items)) some
port_balance port (asks.Consume u) note t is = let parts = given_some (ports.may_consume port u) (notes.Consume u) note is in rw (parts.1, claim_is port u t parts.0) (of_bit (same_task t u))
  where
    of_bit : (b : Bool) → 0 + bit b ≡ bit (b || false) + 0
    of_bit true = refl
    of_bit false = refl
port_balance port (asks.Free u) note t is = let parts = given_some (ports.may_free port u) (notes.Free u) note is in rw (parts.1, claim_is port u t parts.0) (of_bit (same_task t u))
  where
    of_bit : (b : Bool) → 0 + bit b ≡ bit (b || false) + 0
    of_bit true = refl
    of_bit false = refl
port_balance port (asks.Commit task ms) note t is = absurd (cc)
port_balance port asks.Admit note t is = absurd (cc)
port_balance port (asks.Over u r how) note t is = absurd (cc)
port_balance port (asks.Suspend task) note t is = absurd (cc)
port_balance port (asks.Book u r) note t is = absurd (cc)
port_balance port (asks.Unbook u) note t is = absurd (cc)
port_balance port (asks.Put task) note t is = absurd (cc)
port_balance port asks.Take note t is = absurd (cc)
port_balance port asks.Draw note t is = absurd (cc)
port_balance port asks.Leave note t is = absurd (cc)
port_balance port asks.Left note t is = absurd (cc)

-- by which ask a claim was ended
abbrev IsEnding : Ask → Note → TaskId → Type 0
IsEnding ask note t = ((ask ≡ asks.Consume t) × (note ≡ notes.Consume t)) ⊎ ((ask ≡ asks.Free t) × (note ≡ notes.Free t))

ending : (port : PortState) (ask : Ask) (note : Note) (t : TaskId) → port_note port ask ≡ Some note → has_task (noted_unclaimed note) t ≡ true → IsEnding ask note t
ending port (asks.Consume u) note t is has = (let noted = (given_some (ports.may_consume port u) (notes.Consume u) note is).1 in let same : t ≡ u = of_one u t (ap (λ n. has_task (noted_unclaimed n) t) (sym noted) ∙ has) in inl (ap asks.Consume (sym same), noted ∙ ap notes.Consume (sym same)))
ending port (asks.Free u) note t is has = (let noted = (given_some (ports.may_free port u) (notes.Free u) note is).1 in let same : t ≡ u = of_one u t (ap (λ n. has_task (noted_unclaimed n) t) (sym noted) ∙ has) in inr (ap asks.Free (sym same), noted ∙ ap notes.Free (sym same)))
ending port (asks.Post m) note t is has = absurd (let noted = (given_some (ports.may_post port m) (notes.Post m) note is).1 in no_both has (ap (λ n. has_task (noted_unclaimed n) t) noted))
ending port (asks.Claim u s) note t is has = absurd (let noted = (given_some (ports.may_claim port u s) (notes.Claim u s (ports.claim_note port s)) note is).1 in no_both has (ap (λ n. has_task (noted_unclaimed n) t) noted))
ending port (asks.Commit task ms) note t is has = absurd (cc)
ending port asks.Admit note t is has = absurd (cc)
ending port (asks.Over u r how) note t is has = absurd (cc)
ending port (asks.Suspend task) note t is has = absurd (cc)
ending port (asks.Book u r) note t is has = absurd (cc)
ending port (asks.Unbook u) note t is has = absurd (cc)
ending port (asks.Put task) note t is has = absurd (cc)
ending port asks.Take note t is has = absurd (cc)
ending port asks.Draw note t is has = absurd (cc)
ending port asks.Leave note t is has = absurd (cc)
ending port asks.Left note t is has = absurd (cc)

-- ---- one entry

-- a claim that got its messages
claim_noted : (note : Note) (t : TaskId) → has_task (noted_claimed note) t ≡ true → (s : Slot) × (k : ℕ) × (note ≡ notes.Claim t s (Got k))
claim_noted (notes.Claim u s (Got k)) t has = (s, k, ap (λ v. notes.Claim v s (Got k)) (sym (of_one u t has)))
claim_noted (notes.Claim u s (Busy v)) t has = absurd (cc)
claim_noted (notes.Claim u s (Short k)) t has = absurd (cc)
claim_noted (notes.Consume u) t has = absurd (cc)
claim_noted (notes.Free u) t has = absurd (cc)
claim_noted (notes.Post m) t has = absurd (cc)
claim_noted (notes.Fired u s ms cs) t has = absurd (cc)
claim_noted (notes.Dead u s by) t has = absurd (cc)
claim_noted (notes.Admit u) t has = absurd (cc)
claim_noted (notes.Over u r how) t has = absurd (cc)
claim_noted (notes.Suspend u) t has = absurd (cc)
claim_noted (notes.Book u r f) t has = absurd (cc)
claim_noted (notes.Unbook u) t has = absurd (cc)
claim_noted (notes.Put u d) t has = absurd (cc)
claim_noted (notes.Take u) t has = absurd (cc)
claim_noted (notes.Draw k) t has = absurd (cc)
claim_noted notes.Leave t has = absurd (cc)
claim_noted (notes.Left k) t has = absurd (cc)

module _ (w : Parts) (n : ℕ) (lacks : Lacks) (es : List Entry) (e : Entry) (holds : Holds w n lacks es) (step : Step w lacks es e) where
  noted_at : (p : ℕ) → same_place e.place (places.Port p) ≡ true → port_note (port_at es p) step.asking.ask ≡ Some e.note
  noted_at p at = subst (λ pl. note_of w pl (notes_at es pl) step.asking.ask ≡ Some e.note) (sym step.there ∙ same_place-is e.place (places.Port p) at) step.gives

  entry_balance : (p : ℕ) (t : TaskId) → bit (tells noted_claimed (places.Port p) t e) + bit (is_claimed es p t) ≡ bit (tells noted_unclaimed (places.Port p) t e) + bit (is_claimed (es ++ e ∷ []) p t)
  entry_balance p t = by (same_place e.place (places.Port p)) refl ∙ ap (λ s. bit (tells noted_unclaimed (places.Port p) t e) + bit (is_claimed_by s t)) (sym (port_at-push es e p))
    where
      by : (b : Bool) → same_place e.place (places.Port p) ≡ b → bit (b && has_task (noted_claimed e.note) t) + bit (is_claimed es p t) ≡ bit (b && has_task (noted_unclaimed e.note) t) + bit (is_claimed_by (if b then ports.after (port_at es p) e.note else port_at es p) t)
      by true at = port_balance (port_at es p) step.asking.ask e.note t (noted_at p at)
      by false at = refl

  -- whoever ends a claim is the actor of its attempt, an earlier one
  record EndsOwn (t : TaskId) : Type 0 where
    so : EndsClaim es e.actor e.note
    own : t.actor ≡ e.actor
    old : t.attempt < (state_of w lacks es e.actor).attempt

  ends_own : (p : ℕ) (t : TaskId) → tells noted_unclaimed (places.Port p) t e ≡ true → EndsOwn t
  ends_own p t is = of (ending (port_at es p) step.asking.ask e.note t (noted_at p parts.0) parts.1)
    where
      parts : (same_place e.place (places.Port p) ≡ true) × (has_task (noted_unclaimed e.note) t ≡ true)
      parts = both (same_place e.place (places.Port p)) (has_task (noted_unclaimed e.note) t) is

      of : IsEnding step.asking.ask e.note t → EndsOwn t
      of (inl found) =
          let hand = from_hand w n lacks es e holds step (ap is_quiet found.0) (ap is_over_ask found.0) in
          let owed : IsOwed w (visible es) e.actor (state_of w lacks es e.actor).attempt step.asking.place (asks.Consume t) = subst (IsOwed w (visible es) e.actor (state_of w lacks es e.actor).attempt step.asking.place) found.0 hand.2 in
          record { so = subst (EndsClaim es e.actor) (sym found.1) (sym owed.0, owed.1); own = owed.0; old = (holds.actors e.actor).claims.fired_below t owed.0 owed.1 }
      of (inr found) =
          let hand = from_hand w n lacks es e holds step (ap is_quiet found.0) (ap is_over_ask found.0) in
          let owed : IsOwed w (visible es) e.actor (state_of w lacks es e.actor).attempt step.asking.place (asks.Free t) = subst (IsOwed w (visible es) e.actor (state_of w lacks es e.actor).attempt step.asking.place) found.0 hand.2 in
          record { so = subst (EndsClaim es e.actor) (sym found.1) (sym owed.0, owed.2); own = owed.0; old = owed.1 }

  -- whoever claims is the attempt under way, and has no claim there yet
  record ClaimsNew (p : ℕ) (t : TaskId) : Type 0 where
    name : t ≡ name_at e.actor (state_of w lacks es e.actor)
    free : same_place e.place (places.Port p) ≡ true → is_claimed es p t ≡ false

  claims_new : (p : ℕ) (t : TaskId) → has_task (noted_claimed e.note) t ≡ true → ClaimsNew p t
  claims_new p t has = by (state_of w lacks es e.actor).phase refl
    where
      found : (s : Slot) × (k : ℕ) × (e.note ≡ notes.Claim t s (Got k))
      found = claim_noted e.note t has

      two : kind_noted e.note ≡ 2
      two = ap kind_noted found.2

      tried : Tries w es e (state_of w lacks es e.actor)
      tried = tries w n lacks es e holds step (omega (arith, two)) (omega (arith, two))

      kind_so : (ph : Phase) → (state_of w lacks es e.actor).phase ≡ ph → kind_asked (attempt_ask (plan_of w tried.spot) (name_at e.actor (state_of w lacks es e.actor)) ph).ask ≡ 2
      kind_so ph phase = ap (λ p. kind_asked (attempt_ask (plan_of w tried.spot) (name_at e.actor (state_of w lacks es e.actor)) p).ask) (sym phase) ∙ sym tried.kind ∙ two

      by : (ph : Phase) → (state_of w lacks es e.actor).phase ≡ ph → ClaimsNew p t
      by booking phase = absurd (let bad : 1 ≡ 2 = kind_so booking phase in omega (arith, bad))
      by (claiming [] had) phase = absurd (let bad : 3 ≡ 2 = kind_so (claiming [] had) phase in omega (arith, bad))
      by (claiming (slot ∷ slots) had) phase = record { name = named; free = λ at. subst (λ u. is_claimed es p u ≡ false) (sym named) (subst (λ q. is_claimed es q (name_at e.actor (state_of w lacks es e.actor)) ≡ false) (same_port at) unclaimed) }
        where
          given : Given w es e (attempt_ask (plan_of w tried.spot) (name_at e.actor (state_of w lacks es e.actor)) (claiming (slot ∷ slots) had))
          given = subst (λ ph. Given w es e (attempt_ask (plan_of w tried.spot) (name_at e.actor (state_of w lacks es e.actor)) ph)) phase tried.given

          parts : (ports.may_claim (port_at es slot.port) (name_at e.actor (state_of w lacks es e.actor)) slot ≡ true) × (e.note ≡ notes.Claim (name_at e.actor (state_of w lacks es e.actor)) slot (ports.claim_note (port_at es slot.port) slot))
          parts = given_some (ports.may_claim (port_at es slot.port) (name_at e.actor (state_of w lacks es e.actor)) slot) (notes.Claim (name_at e.actor (state_of w lacks es e.actor)) slot (ports.claim_note (port_at es slot.port) slot)) e.note given.gives

          named : t ≡ name_at e.actor (state_of w lacks es e.actor)
          named = (let same = sym found.2 ∙ parts.1 in cc)

          unclaimed : is_claimed es slot.port (name_at e.actor (state_of w lacks es e.actor)) ≡ false
          unclaimed = not_true _ (both ((slot.port == (port_at es slot.port).number) && nat_le slot.least slot.most) (not (is_claimed es slot.port (name_at e.actor (state_of w lacks es e.actor)))) parts.0).1

          same_port : same_place e.place (places.Port p) ≡ true → slot.port ≡ p
          same_port at = (let same : places.Port slot.port ≡ places.Port p = sym given.there ∙ same_place-is e.place (places.Port p) at in cc)

-- ---- along a run

-- what is known of the claims of a run
pub record ClaimsKnown (w : Parts) (lacks : Lacks) (es : List Entry) : Type 0 where
  pub balanced : (p : ℕ) (t : TaskId) → count noted_claimed (places.Port p) t es ≡ count noted_unclaimed (places.Port p) t es + bit (is_claimed es p t)
  pub old : (p : ℕ) (t : TaskId) → 1 ≤ count noted_claimed (places.Port p) t es → IsOld (state_of w lacks es t.actor) t (is_claimed es p t)
  pub once : (p : ℕ) (t : TaskId) → count noted_claimed (places.Port p) t es ≤ 1
  pub own : AreOwn noted_claimed es

module _ (w : Parts) (n : ℕ) (lacks : Lacks) (es : List Entry) (e : Entry) (holds : Holds w n lacks es) (step : Step w lacks es e) (known : ClaimsKnown w lacks es) where
  bit_true : (b : Bool) → 1 ≤ bit b → b ≡ true
  bit_true true is = refl
  bit_true false is = absurd (omega (arith, is))

  balanced_on : (p : ℕ) (t : TaskId) → count noted_claimed (places.Port p) t (es ++ e ∷ []) ≡ count noted_unclaimed (places.Port p) t (es ++ e ∷ []) + bit (is_claimed (es ++ e ∷ []) p t)
  balanced_on p t =
      let begins = count-push noted_claimed (places.Port p) t es e in
      let ends = count-push noted_unclaimed (places.Port p) t es e in
      let before = known.balanced p t in
      let one = entry_balance w n lacks es e holds step p t in
      omega (arith, begins, ends, before, one)

  -- who claims here for the first time
  fresh : (p : ℕ) (t : TaskId) → tells noted_claimed (places.Port p) t e ≡ true → count noted_claimed (places.Port p) t es ≡ 0
  fresh p t is = by (count noted_claimed (places.Port p) t es) refl
    where
      parts : (same_place e.place (places.Port p) ≡ true) × (has_task (noted_claimed e.note) t ≡ true)
      parts = both (same_place e.place (places.Port p)) (has_task (noted_claimed e.note) t) is

      new : ClaimsNew w n lacks es e holds step p t
      new = claims_new w n lacks es e holds step p t parts.1

      never : IsOld (state_of w lacks es t.actor) t (is_claimed es p t) → ⊥
      never (inl below) = (let same = ap (λ (u : TaskId). u.attempt) new.name in let low : t.attempt < (state_of w lacks es e.actor).attempt = subst (λ a. t.attempt < (state_of w lacks es a).attempt) (ap (λ (u : TaskId). u.actor) new.name) below in omega (arith, same, low))
      never (inr stands) = no_both stands.1 (new.free parts.0)

      by : (k : ℕ) → count noted_claimed (places.Port p) t es ≡ k → count noted_claimed (places.Port p) t es ≡ 0
      by zero at = at
      by (suc k) at = absurd (never (known.old p t (omega (arith, at))))

  once_on : (p : ℕ) (t : TaskId) → count noted_claimed (places.Port p) t (es ++ e ∷ []) ≤ 1
  once_on p t = by (tells noted_claimed (places.Port p) t e) refl
    where
      by : (b : Bool) → tells noted_claimed (places.Port p) t e ≡ b → count noted_claimed (places.Port p) t (es ++ e ∷ []) ≤ 1
      by true at = (let none = fresh p t at in let all = count-push noted_claimed (places.Port p) t es e in let one = ap bit at in omega (arith, none, all, one))
      by false at = (let few = known.once p t in let all = count-push noted_claimed (places.Port p) t es e in let one = ap bit at in omega (arith, few, all, one))

  old_on : (p : ℕ) (t : TaskId) → 1 ≤ count noted_claimed (places.Port p) t (es ++ e ∷ []) → IsOld (state_of w lacks (es ++ e ∷ []) t.actor) t (is_claimed (es ++ e ∷ []) p t)
  old_on p t some = by (tells noted_claimed (places.Port p) t e) refl (tells noted_unclaimed (places.Port p) t e) refl
    where
      Old : Type 0
      Old = IsOld (state_of w lacks (es ++ e ∷ []) t.actor) t (is_claimed (es ++ e ∷ []) p t)

      risen : Rises (state_of w lacks es t.actor) (state_of w lacks (es ++ e ∷ []) t.actor)
      risen = rises w lacks es e step t.actor

      -- an attempt that is older then
      below : t.attempt < (state_of w lacks es t.actor).attempt → Rises (state_of w lacks es t.actor) (state_of w lacks (es ++ e ∷ []) t.actor) → Old
      below low (inl more) = inl (omega (arith, low, more))
      below low (inr same) = inl (let is = same.0 in omega (arith, low, is))

      -- the attempt under way, whose claim stands then
      here : t.attempt ≡ (state_of w lacks es t.actor).attempt → is_claimed (es ++ e ∷ []) p t ≡ true → Rises (state_of w lacks es t.actor) (state_of w lacks (es ++ e ∷ []) t.actor) → Old
      here at stands (inl more) = inl (omega (arith, at, more))
      here at stands (inr same) = inr (at ∙ sym same.0, stands)

      of_old : IsOld (state_of w lacks es t.actor) t (is_claimed es p t) → tells noted_claimed (places.Port p) t e ≡ false → (c : Bool) → tells noted_unclaimed (places.Port p) t e ≡ c → Old
      of_old (inl low) quiet c ends = below low risen
      of_old (inr stood) quiet true ends = absurd (let own = ends_own w n lacks es e holds step p t ends in let low : t.attempt < (state_of w lacks es t.actor).attempt = subst (λ a. t.attempt < (state_of w lacks es a).attempt) (sym own.own) own.old in let at = stood.0 in omega (arith, at, low))
      of_old (inr stood) quiet false ends = here stood.0 (bit_true (is_claimed (es ++ e ∷ []) p t) (let balance = entry_balance w n lacks es e holds step p t in let none = ap bit quiet in let neither = ap bit ends in let was = ap bit stood.1 in omega (arith, balance, none, neither, was))) risen

      by : (b : Bool) → tells noted_claimed (places.Port p) t e ≡ b → (c : Bool) → tells noted_unclaimed (places.Port p) t e ≡ c → Old
      by true at c ends =
          let parts = both (same_place e.place (places.Port p)) (has_task (noted_claimed e.note) t) at in
          let new = claims_new w n lacks es e holds step p t parts.1 in
          let balance = balanced_on p t in
          let fresh_so = fresh p t at in
          let ended : count noted_unclaimed (places.Port p) t (es ++ e ∷ []) ≡ 0 = none_ended at in
          here (ap (λ (u : TaskId). u.attempt) new.name ∙ ap (λ a. (state_of w lacks es a).attempt) (sym (ap (λ (u : TaskId). u.actor) new.name))) (bit_true (is_claimed (es ++ e ∷ []) p t) (omega (arith, balance, ended, some))) risen
        where
          none_ended : tells noted_claimed (places.Port p) t e ≡ true → count noted_unclaimed (places.Port p) t (es ++ e ∷ []) ≡ 0
          none_ended now =
              let before = known.balanced p t in
              let none = fresh p t now in
              let all = count-push noted_unclaimed (places.Port p) t es e in
              let apart : bit (tells noted_unclaimed (places.Port p) t e) ≡ 0 = ap bit (ended_apart now) in
              omega (arith, before, none, all, apart)
            where
              ended_apart : tells noted_claimed (places.Port p) t e ≡ true → tells noted_unclaimed (places.Port p) t e ≡ false
              ended_apart claims_so =
                  let parts = both (same_place e.place (places.Port p)) (has_task (noted_claimed e.note) t) claims_so in
                  let found = claim_noted e.note t parts.1 in
                  rw found.2 (and_false (same_place e.place (places.Port p)))
      by false at c ends = of_old (known.old p t (let all = count-push noted_claimed (places.Port p) t es e in let none = ap bit at in omega (arith, all, none, some))) at c ends

  pub claims_known-kept : ClaimsKnown w lacks (es ++ e ∷ [])
  claims_known-kept = record { balanced = balanced_on; old = old_on; once = once_on; own = own-push noted_claimed es e (λ t has. sym (ap (λ (u : TaskId). u.actor) (claims_new w n lacks es e holds step 0 t has).name)) known.own }

-- ---- the law

module _ (w : Parts) (workers : ℕ) (lacks : Lacks) (valid : IsValid w) (few : workers ≤ 16) where
  run_known : (es : List Entry) → IsRunAfter w workers lacks [] es → ClaimsKnown w lacks es
  run_known = along_held w workers lacks valid few (ClaimsKnown w lacks) (claims_known-kept w (length w.posters + workers) lacks) (record { balanced = λ p t. refl; old = λ p t some. absurd (omega (arith, some)); once = λ p t. omega arith; own = λ x is t has. absurd is })

  -- whose claim stands is an attempt of one of the actors
  pub claimed_low : (es : List Entry) → IsRunAfter w workers lacks [] es → (p : ℕ) (t : TaskId) → is_claimed_by (port_at es p) t ≡ true → t.actor < length w.posters + workers
  claimed_low es run p t is =
      let known = run_known es run in
      let sums = known.balanced p t in
      let stands = ap bit is in
      let found = some_telling noted_claimed (places.Port p) t es (omega (arith, sums, stands)) in
      subst (λ a. a < length w.posters + workers) (known.own found.0 found.1 t found.2) (low_actors w workers lacks [] es run found.0 found.1)

  module _ (past : List Entry) (e : Entry) (more : List Entry) (run : IsRunAfter w workers lacks [] (past ++ e ∷ more)) (p : ℕ) (t : TaskId) (is : tells noted_unclaimed (places.Port p) t e ≡ true) where
    parts : Parted w workers lacks past e more
    parts = parted w workers lacks past e more run

    step : Step w lacks past e
    step = Step-made w lacks past e parts.made

    pub own_claim : EndsClaim past e.actor e.note
    own_claim = (ends_own w (length w.posters + workers) lacks past e (holds_so w workers lacks valid few past parts.run) step p t is).so

    -- what is claimed before and after
    claimed_then : (bit (is_claimed past p t) ≡ 1) × (count noted_claimed (places.Port p) t past ≡ 1) × (count noted_unclaimed (places.Port p) t past ≡ 0)
    claimed_then =
        let known = run_known past parts.run in
        let before = known.balanced p t in
        let once = known.once p t in
        let balance = entry_balance w (length w.posters + workers) lacks past e (holds_so w workers lacks valid few past parts.run) step p t in
        let ends = ap bit is in
        let began : bit (tells noted_claimed (places.Port p) t e) ≤ 0 = not_claimed in
        (omega (arith, before, once, balance, ends, began), omega (arith, before, once, balance, ends, began), omega (arith, before, once, balance, ends, began))
      where
        not_claimed : bit (tells noted_claimed (places.Port p) t e) ≤ 0
        not_claimed = by (tells noted_claimed (places.Port p) t e) refl
          where
            by : (b : Bool) → tells noted_claimed (places.Port p) t e ≡ b → bit b ≤ 0
            by false at = omega arith
            by true at =
                let claims_so = both (same_place e.place (places.Port p)) (has_task (noted_claimed e.note) t) at in
                let ends_so = both (same_place e.place (places.Port p)) (has_task (noted_unclaimed e.note) t) is in
                let found = claim_noted e.note t claims_so.1 in
                absurd (no_both ends_so.1 (ap (λ x. has_task (noted_unclaimed x) t) found.2))

    pub claim_stands : is_claimed_by (port_at past p) t ≡ true
    claim_stands = by (is_claimed past p t) refl
      where
        by : (b : Bool) → is_claimed past p t ≡ b → is_claimed past p t ≡ true
        by true at = at
        by false at = absurd (let one = claimed_then.0 in let none = ap bit at in omega (arith, one, none))

    pub claim_ended : (port_at (past ++ e ∷ []) p).claim ≡ None
    claim_ended = ap (λ (s : PortState). s.claim) (port_at-push past e p) ∙ by (same_place e.place (places.Port p)) refl
      where
        at_p : (same_place e.place (places.Port p) ≡ true) × (has_task (noted_unclaimed e.note) t ≡ true)
        at_p = both (same_place e.place (places.Port p)) (has_task (noted_unclaimed e.note) t) is

        of_end : IsEnding step.asking.ask e.note t → (ports.after (port_at past p) e.note).claim ≡ None
        of_end (inl found) = rw found.1 refl
        of_end (inr found) = rw found.1 refl

        by : (b : Bool) → same_place e.place (places.Port p) ≡ b → (if b then ports.after (port_at past p) e.note else port_at past p).claim ≡ None
        by true at = of_end (ending (port_at past p) step.asking.ask e.note t (noted_at w (length w.posters + workers) lacks past e (holds_so w workers lacks valid few past parts.run) step p at) at_p.1)
        by false at = absurd (no_both at_p.0 at)

    pub claim_once : EndsOnce noted_claimed noted_unclaimed (places.Port p) t past e more
    claim_once =
        let all = run_known (past ++ e ∷ more) run in
        let few_begun = all.once p t in
        let balance = all.balanced p t in
        ends_once noted_claimed noted_unclaimed (places.Port p) t past e more (run_known past parts.run).own is claimed_then.1 claimed_then.2 few_begun (omega (arith, few_begun, balance))
