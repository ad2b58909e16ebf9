-- In a run each port keeps messages of its own.
use Rattle.std.proofs.Common.{◌≡◌, ℕ, Bool, true, false, List, [], ◌∷◌, ◌++◌, Option, Some, None, refl, sym, subst}
use Rattle.std.specs.Prelude.{All, ◌==◌, if◌then◌else◌}
use Rattle.std.specs.Option.{option_map_or}
use Rattle.std.proofs.lemmas.List.Elements.{All-append, All-cons, All-nil}
use Rattle.ccr_base.specs.declared.messages.Msg.{Msg}
use Rattle.ccr_base.specs.declared.names.Place.{Place}
use Rattle.ccr_base.specs.declared.names.Place.TheVariants as places
use Rattle.ccr_base.specs.declared.names.TaskId.{TaskId}
use Rattle.ccr_base.specs.declared.patterns.Slot.{Slot}
use Rattle.ccr_wiring.specs.declared.parts.Parts.{Parts}
use Rattle.ccr_base.proofs.Booleans.{both, same_number}
use Rattle.ccr_places.specs.declared.claims.StandingClaim.{StandingClaim}
use Rattle.ccr_places.specs.declared.notes.ClaimNote.{ClaimNote}
use Rattle.ccr_places.specs.declared.notes.ClaimNote.TheVariants.{Got, Busy, Short}
use Rattle.ccr_places.specs.declared.notes.Note.{Note}
use Rattle.ccr_places.specs.declared.notes.Note.TheVariants as notes
use Rattle.ccr_places.specs.Ports.{PortState, may_post, may_claim, claim_note, without_first, is_claimed_by}
use Rattle.ccr_places.specs.Ports as ports
use Rattle.ccr_base.proofs.FirstFitting.{all_without}
use Rattle.ccr_claim.specs.declared.asks.Ask.{Ask}
use Rattle.ccr_claim.specs.declared.asks.Ask.TheVariants as asks
use Rattle.ccr_runs.specs.declared.entries.Entry.{Entry}
use Rattle.ccr_runs.specs.Places.{note_of, port_note}
use Rattle.ccr_runs.specs.EntryRuns.{Lacks, port_at, notes_at, same_place}
use Rattle.ccr_net.proofs.Parts.OneMoreEntry.{Step, port_at-push}
use Rattle.ccr_net.proofs.Parts.NotesAnswerAsks.{given_some}

-- a message of this port
abbrev pub IsAt : ℕ → Msg → Type 0
IsAt number m = (m.port == number) ≡ true

-- the port of this number, with messages of its own
pub record IsOwn (number : ℕ) (port : PortState) : Type 0 where
  pub number_so : port.number ≡ number
  pub items : All (IsAt number) port.items

claim_own : (number : ℕ) (port : PortState) (task : TaskId) (slot : Slot) (note : ClaimNote) → IsOwn number port → IsOwn number (ports.after_claim port task slot note)
claim_own number port task slot (Got n) own = record { number_so = own.number_so; items = own.items }
claim_own number port task slot (Busy other) own = own
claim_own number port task slot (Short n) own = own

rest_own : (number : ℕ) (port : PortState) (o : Option StandingClaim) → IsOwn number port → All (IsAt number) (option_map_or (λ (claim : StandingClaim). without_first claim.count claim.pred port.items) o port.items)
rest_own number port None own = own.items
rest_own number port (Some claim) own = all_without (IsAt number) claim.count claim.pred port.items own.items

own_after : (number : ℕ) (port : PortState) (ask : Ask) (note : Note) → IsOwn number port → port_note port ask ≡ Some note → IsOwn number (ports.after port note)
own_after number port (asks.Post m) note own is =
    let told = given_some (may_post port m) (notes.Post m) note is in
    let of_port : (m.port == number) ≡ true = subst (λ n. (m.port == n) ≡ true) own.number_so (both (m.port == port.number) _ told.0).0 in
    let items : All (IsAt number) (port.items ++ m ∷ []) = All-append (IsAt number) port.items (m ∷ []) own.items (All-cons (IsAt number) m [] of_port (All-nil (IsAt number))) in
    subst (λ n. IsOwn number (ports.after port n)) (sym told.1) (record { number_so = own.number_so; items = items })
own_after number port (asks.Claim task slot) note own is =
    let told = given_some (may_claim port task slot) (notes.Claim task slot (claim_note port slot)) note is in
    subst (λ n. IsOwn number (ports.after port n)) (sym told.1) (claim_own number port task slot (claim_note port slot) own)
own_after number port (asks.Consume task) note own is =
    let told = given_some (is_claimed_by port task) (notes.Consume task) note is in
    subst (λ n. IsOwn number (ports.after port n)) (sym told.1) (record { number_so = own.number_so; items = rest_own number port port.claim own })
own_after number port (asks.Free task) note own is =
    let told = given_some (is_claimed_by port task) (notes.Free task) note is in
    subst (λ n. IsOwn number (ports.after port n)) (sym told.1) (record { number_so = own.number_so; items = own.items })
own_after number port (asks.Commit task ms) note own is = absurd (cc)
own_after number port asks.Admit note own is = absurd (cc)
own_after number port (asks.Over task root how) note own is = absurd (cc)
own_after number port (asks.Suspend task) note own is = absurd (cc)
own_after number port (asks.Book task resumes) note own is = absurd (cc)
own_after number port (asks.Unbook task) note own is = absurd (cc)
own_after number port (asks.Put task) note own is = absurd (cc)
own_after number port asks.Take note own is = absurd (cc)
own_after number port asks.Draw note own is = absurd (cc)
own_after number port asks.Leave note own is = absurd (cc)
own_after number port asks.Left note own is = absurd (cc)

-- the ports after these entries
abbrev pub AreOwn : List Entry → Type 0
AreOwn es = (p : ℕ) → IsOwn p (port_at es p)

-- an entry at the port
at_its_port : (w : Parts) (lacks : Lacks) (es : List Entry) (e : Entry) → AreOwn es → (step : Step w lacks es e) → (p : ℕ) (place : Place) → step.asking.place ≡ place → same_place place (places.Port p) ≡ true → IsOwn p (ports.after (port_at es p) e.note)
at_its_port w lacks es e own step p (places.Port q) there is =
    let number : q ≡ p = same_number q p is in
    let gives : port_note (port_at es p) step.asking.ask ≡ Some e.note = subst (λ (n : ℕ). note_of w (places.Port n) (notes_at es (places.Port n)) step.asking.ask ≡ Some e.note) number (subst (λ (x : Place). note_of w x (notes_at es x) step.asking.ask ≡ Some e.note) there step.gives) in
    own_after p (port_at es p) step.asking.ask e.note (own p) gives
at_its_port w lacks es e own step p (places.Arbiter i) there is = absurd (cc)
at_its_port w lacks es e own step p (places.Site b k) there is = absurd (cc)
at_its_port w lacks es e own step p (places.Queue q) there is = absurd (cc)
at_its_port w lacks es e own step p places.Meter there is = absurd (cc)

pub own_on : (w : Parts) (lacks : Lacks) (es : List Entry) (e : Entry) → AreOwn es → Step w lacks es e → AreOwn (es ++ e ∷ [])
own_on w lacks es e own step p = subst (IsOwn p) (sym (port_at-push es e p)) (by (same_place e.place (places.Port p)) refl)
  where
    by : (b : Bool) → same_place e.place (places.Port p) ≡ b → IsOwn p (if b then ports.after (port_at es p) e.note else port_at es p)
    by true is = at_its_port w lacks es e own step p step.asking.place refl (subst (λ (x : Place). same_place x (places.Port p) ≡ true) step.there is)
    by false is = own p

pub begins_own : AreOwn []
begins_own p = record { number_so = refl; items = All-nil (IsAt p) }
