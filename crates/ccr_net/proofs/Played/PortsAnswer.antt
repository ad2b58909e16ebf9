-- A port and the meter answer each ask of a run as the run has it.
use Rattle.std.proofs.Common.{◌≡◌, ℕ, Bool, true, false, ◌&&◌, List, [], ◌∷◌, ◌++◌, length, take, Option, Some, None, refl, sym, ap, ◌∙◌}
use Rattle.std.specs.Prelude.{◌==◌, if◌then◌else◌, nat_le, not}
use Rattle.std.specs.Option.{option_map_or}
use Rattle.std.proofs.lemmas.List.{length-take, take_min}
use Rattle.ccr_base.specs.declared.names.Place.TheVariants as places
use Rattle.ccr_base.specs.declared.patterns.Slot.{Slot}
use Rattle.ccr_base.specs.Selection.{fitting, is_choosable}
use Rattle.ccr_wiring.specs.declared.parts.Parts.{Parts}
use Rattle.ccr_base.proofs.Booleans.{eq-self, both, same_number}
use Rattle.ccr_base.proofs.Options.{some_is}
use Rattle.ccr_places.specs.declared.claims.StandingClaim.{StandingClaim}
use Rattle.ccr_places.specs.declared.notes.ClaimNote.TheVariants.{Got, Busy, Short}
use Rattle.ccr_places.specs.declared.notes.Note.{Note}
use Rattle.ccr_places.specs.declared.notes.Note.TheVariants as notes
use Rattle.ccr_places.specs.Ports.{PortState, first_fitting}
use Rattle.ccr_places.specs.Ports as ports
use Rattle.ccr_places.specs.Meters.{MeterState}
use Rattle.ccr_places.specs.Meters as meters
use Rattle.ccr_port.specs.declared.claims.Claimed.TheVariants as claims
use Rattle.ccr_port.specs.Replies.{claim_reply as claimed, free_claim_reply}
use Rattle.ccr_claim.specs.declared.asks.Ask.{Ask}
use Rattle.ccr_claim.specs.declared.asks.Ask.TheVariants as asks
use Rattle.ccr_claim.specs.declared.asks.Reply.{Reply}
use Rattle.ccr_claim.specs.declared.asks.Reply.TheVariants as replies
use Rattle.ccr_claim.specs.Attempts.{at_place}
use Rattle.ccr_object.specs.declared.object.Object.TheVariants.{Port, Meter}
use Rattle.ccr_object.specs.Ports as port_objects
use Rattle.ccr_object.specs.Meters as meter_objects
use Rattle.ccr_runs.specs.declared.entries.Entry.{Entry}
use Rattle.ccr_runs.specs.Places.{port_note, meter_note, port_after}
use Rattle.ccr_runs.specs.EntryRuns.{notes_at, port_at, reply_of, reply_to, same_place, claim_reply}
use Rattle.ccr_runs.specs.Visible.{visible}
use Rattle.ccr_net.proofs.Kept.WholeInvariant.{meter_at, meter_at-push}
use Rattle.ccr_net.proofs.Parts.NotesAnswerAsks.{Given, given_some}
use Rattle.ccr_net.proofs.Played.ObjectsFollowNotes.{AnswersAs}
use Rattle.ccr_net.proofs.Parts.OneMoreEntry.{port_at-push}

-- ---- a port

-- notes leave the number
note_number : (port : PortState) (note : Note) → (ports.after port note).number ≡ port.number
note_number port (notes.Post m) = refl
note_number port (notes.Claim t s (Got n)) = refl
note_number port (notes.Claim t s (Busy u)) = refl
note_number port (notes.Claim t s (Short n)) = refl
note_number port (notes.Consume t) = refl
note_number port (notes.Free t) = refl
note_number port (notes.Fired t s ms cs) = refl
note_number port (notes.Dead t s by) = refl
note_number port (notes.Admit t) = refl
note_number port (notes.Over t r how) = refl
note_number port (notes.Suspend t) = refl
note_number port (notes.Book t r f) = refl
note_number port (notes.Unbook t) = refl
note_number port (notes.Put t d) = refl
note_number port (notes.Take t) = refl
note_number port (notes.Draw n) = refl
note_number port notes.Leave = refl
note_number port (notes.Left n) = refl

-- a port keeps its number
pub kept_number : (port : PortState) (earlier : List Note) → (ports.kept port earlier).number ≡ port.number
kept_number port [] = refl
kept_number port (note ∷ earlier) = kept_number (ports.after port note) earlier ∙ note_number port note

take-taken : {X : Type 0} (n : ℕ) (xs : List X) → take (length (take n xs)) xs ≡ take n xs
take-taken n xs = ap (λ k. take k xs) (length-take n xs) ∙ take_min n xs

-- what is noted of a claim hands out what the object hands out
claims_alike : (port : PortState) (slot : Slot) → claim_reply slot port (ports.claim_note port slot) ≡ port_objects.claim_reply (claimed port slot)
claims_alike port slot = of_claim port.claim
  where
    of_test : (b : Bool) → claim_reply slot port (if b then Got (length (first_fitting slot.most slot.pred port.items)) else Short (length (fitting slot.pred port.items))) ≡ port_objects.claim_reply (if b then claims.Got (first_fitting slot.most slot.pred port.items) else claims.Short (length (fitting slot.pred port.items)))
    of_test true = ap replies.Got (take-taken slot.most (fitting slot.pred port.items))
    of_test false = refl

    of_claim : (o : Option StandingClaim) → claim_reply slot port (option_map_or (λ (c : StandingClaim). Busy c.task) o (ports.free_claim_note slot port.items)) ≡ port_objects.claim_reply (option_map_or (λ (c : StandingClaim). claims.Busy c.task) o (free_claim_reply slot port.items))
    of_claim (Some c) = refl
    of_claim None = of_test (is_choosable slot port.items)

module _ (w : Parts) (es : List Entry) (e : Entry) (p : ℕ) where
  abbrev port : PortState
  port = port_at es p

  -- the answer and the port after it, from their parts
  port_told : (ask : Ask) (reply : Reply) (note : Note) → e.place ≡ places.Port p → e.note ≡ note → reply_to w (visible (es ++ e ∷ [])) (notes_at es (places.Port p)) note ≡ reply → port_objects.answer port ask ≡ Some (reply, note) → port_objects.after port ask ≡ ports.after port note → AnswersAs w es (at_place (places.Port p) ask) e
  port_told ask reply note there is replied answered left = record {
    answers = answered ∙ (λ j. Some (sym reply_so j, sym is j));
    goes = ap Port (left ∙ sym pushed);
  }
    where
      reply_so : reply_of w es e ≡ reply
      reply_so = (λ j. reply_to w (visible (es ++ e ∷ [])) (notes_at es (there j)) (is j)) ∙ replied

      pushed : port_at (es ++ e ∷ []) p ≡ ports.after port note
      pushed = port_at-push es e p ∙ ap (λ b. if b then ports.after port e.note else port) (ap (λ q. same_place q (places.Port p)) there ∙ eq-self p) ∙ ap (ports.after port) is

  -- a claim's port is this one
  claim_there : (slot : Slot) → (slot.port == port.number) && nat_le slot.least slot.most ≡ true → slot.port ≡ p
  claim_there slot may = same_number slot.port port.number (both (slot.port == port.number) (nat_le slot.least slot.most) may).0 ∙ kept_number (ports.start p) (notes_at es (places.Port p))

  by_ask : (ask : Ask) → e.place ≡ places.Port p → port_note port ask ≡ Some e.note → AnswersAs w es (at_place (places.Port p) ask) e
  by_ask (asks.Post m) there gives =
      let found = given_some (ports.may_post port m) (notes.Post m) e.note gives in
      port_told (asks.Post m) replies.Done (notes.Post m) there found.1 refl
      (ap (λ b. if b then Some (replies.Done, notes.Post m) else None) found.0)
      (ap (λ b. if b then ports.after_post port m else port) found.0)
  by_ask (asks.Claim t s) there gives =
      let found = given_some (ports.may_claim port t s) (notes.Claim t s (ports.claim_note port s)) e.note gives in
      let at : s.port ≡ p = claim_there s (both ((s.port == port.number) && nat_le s.least s.most) (not (ports.is_claimed_by port t)) found.0).0 in
      port_told (asks.Claim t s) (port_objects.claim_reply (claimed port s)) (notes.Claim t s (ports.claim_note port s)) there found.1
      (ap (λ q. claim_reply s (port_after q (notes_at es (places.Port p))) (ports.claim_note port s)) at ∙ claims_alike port s)
      (ap (λ b. if b then Some (port_objects.claim_reply (claimed port s), notes.Claim t s (ports.claim_note port s)) else None) found.0)
      (ap (λ b. if b then ports.after_claim port t s (ports.claim_note port s) else port) found.0)
  by_ask (asks.Consume t) there gives =
      let found = given_some (ports.may_consume port t) (notes.Consume t) e.note gives in
      port_told (asks.Consume t) replies.Done (notes.Consume t) there found.1 refl
      (ap (λ b. if b then Some (replies.Done, notes.Consume t) else None) found.0)
      (ap (λ b. if b then ports.after_consume port else port) found.0)
  by_ask (asks.Free t) there gives =
      let found = given_some (ports.may_free port t) (notes.Free t) e.note gives in
      port_told (asks.Free t) replies.Done (notes.Free t) there found.1 refl
      (ap (λ b. if b then Some (replies.Done, notes.Free t) else None) found.0)
      (ap (λ b. if b then ports.after_free port else port) found.0)
  by_ask (asks.Commit t ms) there gives = absurd (cc)
  by_ask asks.Admit there gives = absurd (cc)
  by_ask (asks.Over t r how) there gives = absurd (cc)
  by_ask (asks.Suspend t) there gives = absurd (cc)
  by_ask (asks.Book t r) there gives = absurd (cc)
  by_ask (asks.Unbook t) there gives = absurd (cc)
  by_ask (asks.Put t) there gives = absurd (cc)
  by_ask asks.Take there gives = absurd (cc)
  by_ask asks.Draw there gives = absurd (cc)
  by_ask asks.Leave there gives = absurd (cc)
  by_ask asks.Left there gives = absurd (cc)

  pub port_answers : (ask : Ask) → Given w es e (at_place (places.Port p) ask) → AnswersAs w es (at_place (places.Port p) ask) e
  port_answers ask got = by_ask ask got.there got.gives

-- ---- the meter

module _ (w : Parts) (es : List Entry) (e : Entry) where
  abbrev meter : MeterState
  meter = meter_at w es

  meter_told : (ask : Ask) (reply : Reply) (note : Note) → e.place ≡ places.Meter → e.note ≡ note → reply_to w (visible (es ++ e ∷ [])) (notes_at es places.Meter) note ≡ reply → meter_objects.answer meter ask ≡ Some (reply, note) → meter_objects.after meter ask ≡ meters.after meter note → AnswersAs w es (at_place places.Meter ask) e
  meter_told ask reply note there is replied answered left = record {
    answers = answered ∙ (λ j. Some (sym reply_so j, sym is j));
    goes = ap Meter (left ∙ sym pushed);
  }
    where
      reply_so : reply_of w es e ≡ reply
      reply_so = (λ j. reply_to w (visible (es ++ e ∷ [])) (notes_at es (there j)) (is j)) ∙ replied

      pushed : meter_at w (es ++ e ∷ []) ≡ meters.after meter note
      pushed = meter_at-push w es e ∙ ap (λ b. if b then meters.after meter e.note else meter) (ap (λ q. same_place q places.Meter) there) ∙ ap (meters.after meter) is

  of_ask : (ask : Ask) → e.place ≡ places.Meter → meter_note meter ask ≡ Some e.note → AnswersAs w es (at_place places.Meter ask) e
  of_ask asks.Draw there gives = meter_told asks.Draw (meter_objects.draw_reply (meters.draw_note meter)) (notes.Draw (meters.draw_note meter)) there (sym (some_is gives)) refl refl refl
  of_ask asks.Leave there gives =
      let found = given_some (meters.may_leave meter) notes.Leave e.note gives in
      meter_told asks.Leave replies.Done notes.Leave there found.1 refl
      (ap (λ b. if b then Some (replies.Done, notes.Leave) else None) found.0)
      (ap (λ b. if b then meters.after_leave meter else meter) found.0)
  of_ask asks.Left there gives = meter_told asks.Left (replies.Left meter.left) (notes.Left meter.left) there (sym (some_is gives)) refl refl refl
  of_ask (asks.Post m) there gives = absurd (cc)
  of_ask (asks.Claim t s) there gives = absurd (cc)
  of_ask (asks.Consume t) there gives = absurd (cc)
  of_ask (asks.Free t) there gives = absurd (cc)
  of_ask (asks.Commit t ms) there gives = absurd (cc)
  of_ask asks.Admit there gives = absurd (cc)
  of_ask (asks.Over t r how) there gives = absurd (cc)
  of_ask (asks.Suspend t) there gives = absurd (cc)
  of_ask (asks.Book t r) there gives = absurd (cc)
  of_ask (asks.Unbook t) there gives = absurd (cc)
  of_ask (asks.Put t) there gives = absurd (cc)
  of_ask asks.Take there gives = absurd (cc)

  pub meter_answers : (ask : Ask) → Given w es e (at_place places.Meter ask) → AnswersAs w es (at_place places.Meter ask) e
  meter_answers ask got = of_ask ask got.there got.gives
