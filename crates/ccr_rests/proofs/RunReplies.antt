-- In a run each reply is one that its ask may have.
use Rattle.std.proofs.Common.{◌≡◌, ℕ, Bool, true, false, ◌&&◌, List, [], ◌∷◌, ◌++◌, length, Option, Some, None, refl, sym, arith, ap, subst, ◌∙◌}
use Rattle.std.specs.Prelude.{All, ◌==◌, nat_le, if◌then◌else◌}
use Rattle.std.specs.List.{list_all, slice_get}
use Rattle.std.specs.Option.{option_map_or}
use Rattle.std.proofs.lemmas.Bool.Decides.{nat_tests}
use Rattle.std.proofs.lemmas.List.Elements.{All-filter, All-take}
use Rattle.std.proofs.lemmas.List.Sums.{list_all-from_AllPass}
use Rattle.ccr_base.specs.declared.messages.Msg.{Msg}
use Rattle.ccr_base.specs.declared.names.Place.{Place}
use Rattle.ccr_base.specs.declared.names.Place.TheVariants as places
use Rattle.ccr_base.specs.declared.names.TaskId.{TaskId}
use Rattle.ccr_base.specs.declared.patterns.Slot.{Slot}
use Rattle.ccr_base.specs.declared.tasks.By.{By}
use Rattle.ccr_base.specs.declared.tasks.Task.{Task}
use Rattle.ccr_base.specs.Selection.{fitting, holds, is_choosable}
use Rattle.ccr_wiring.specs.declared.parts.ArbiterPart.{ArbiterPart}
use Rattle.ccr_wiring.specs.declared.parts.Kind.{Kind}
use Rattle.ccr_wiring.specs.declared.parts.Kind.TheVariants as kinds
use Rattle.ccr_wiring.specs.declared.parts.Parts.{Parts}
use Rattle.ccr_model.specs.declared.history.Event.{Event}
use Rattle.ccr_base.proofs.Booleans.{both, same_number}
use Rattle.ccr_places.specs.declared.claims.StandingClaim.{StandingClaim}
use Rattle.ccr_places.specs.declared.notes.ClaimNote.TheVariants.{Got, Busy, Short}
use Rattle.ccr_places.specs.declared.notes.Note.{Note}
use Rattle.ccr_places.specs.declared.notes.Note.TheVariants as notes
use Rattle.ccr_places.specs.Ports.{PortState, may_claim, claim_note, free_claim_note, first_fitting}
use Rattle.ccr_places.specs.Arbiters as arbiters
use Rattle.ccr_places.specs.Interleaves as interleaves
use Rattle.ccr_places.specs.Sites as sites
use Rattle.ccr_places.specs.Queues as queues
use Rattle.ccr_places.specs.Meters as meters
use Rattle.ccr_claim.specs.declared.asks.Ask.{Ask}
use Rattle.ccr_claim.specs.declared.asks.Ask.TheVariants as asks
use Rattle.ccr_claim.specs.declared.asks.Due.TheVariants as dues
use Rattle.ccr_claim.specs.Asks.{due_of, fits}
use Rattle.ccr_runs.specs.declared.entries.Entry.{Entry}
use Rattle.ccr_runs.specs.Places.{note_of, port_note, port_after, arbiter_note, interleave_note, site_note, queue_note, meter_note, note_by_kind, note_at_arbiter, commit_note, arbiter_after, interleave_after, site_after, queue_after, meter_after, first_branch}
use Rattle.ccr_runs.specs.EntryRuns.{Lacks, notes_at, reply_of, reply_to, claim_reply}
use Rattle.ccr_runs.specs.Visible.{visible}
use Rattle.ccr_net.proofs.Parts.OneMoreEntry.{Step}
use Rattle.ccr_net.proofs.Parts.NotesAnswerAsks.{given_some}
use Rattle.ccr_net.proofs.Kept.SilentStepsKeepAll.{got_facts}
use Rattle.ccr_rests.proofs.OwnItems.{IsAt, IsOwn, AreOwn}

-- ---- ports

-- the claim of a free port
free_fits : (port : PortState) (slot : Slot) → IsOwn slot.port port → nat_le slot.least slot.most ≡ true → fits (dues.Claim slot) (claim_reply slot port (free_claim_note slot port.items)) ≡ true
free_fits port slot own even = by (is_choosable slot port.items) refl
  where
    by : (b : Bool) → is_choosable slot port.items ≡ b → fits (dues.Claim slot) (claim_reply slot port (if b then Got (length (first_fitting slot.most slot.pred port.items)) else Short (length (fitting slot.pred port.items)))) ≡ true
    by true is =
        let facts = got_facts slot port.items is even in
        let count : ℕ = length (first_fitting slot.most slot.pred port.items) in
        let whole : length (first_fitting count slot.pred port.items) ≡ count = facts.whole in
        let least : nat_le slot.least (length (first_fitting count slot.pred port.items)) ≡ true = (let low = facts.least in grind (arith, nat_tests, low, whole)) in
        let most : nat_le (length (first_fitting count slot.pred port.items)) slot.most ≡ true = (let high = facts.most in grind (arith, nat_tests, high, whole)) in
        let some : All (IsAt slot.port) (first_fitting count slot.pred port.items) = All-take (IsAt slot.port) count (fitting slot.pred port.items) (All-filter (λ (m : Msg). holds slot.pred m.value) (IsAt slot.port) port.items own.items) in
        let all : list_all (λ (m : Msg). m.port == slot.port) (first_fitting count slot.pred port.items) ≡ true = list_all-from_AllPass (λ (m : Msg). m.port == slot.port) (first_fitting count slot.pred port.items) some in
        rw (least, most) all
    by false is = grind (arith, nat_tests, is)

claim_fits : (port : PortState) (slot : Slot) (o : Option StandingClaim) → IsOwn slot.port port → nat_le slot.least slot.most ≡ true → fits (dues.Claim slot) (claim_reply slot port (option_map_or (λ (claim : StandingClaim). Busy claim.task) o (free_claim_note slot port.items))) ≡ true
claim_fits port slot (Some claim) own even = refl
claim_fits port slot None own even = free_fits port slot own even

port_fits : (w : Parts) (history : List Event) (p : ℕ) (earlier : List Note) (ask : Ask) (note : Note) → IsOwn p (port_after p earlier) → port_note (port_after p earlier) ask ≡ Some note → fits (due_of ask) (reply_to w history earlier note) ≡ true
port_fits w history p earlier (asks.Post m) note own is = rw ((given_some _ (notes.Post m) note is).1) refl
port_fits w history p earlier (asks.Claim task slot) note own is =
    let told = given_some (may_claim (port_after p earlier) task slot) (notes.Claim task slot (claim_note (port_after p earlier) slot)) note is in
    let parts = both ((slot.port == (port_after p earlier).number) && nat_le slot.least slot.most) _ told.0 in
    let two = both (slot.port == (port_after p earlier).number) (nat_le slot.least slot.most) parts.0 in
    let number : slot.port ≡ p = same_number slot.port (port_after p earlier).number two.0 ∙ own.number_so in
    let mine : IsOwn slot.port (port_after slot.port earlier) = subst (λ n. IsOwn n (port_after n earlier)) (sym number) own in
    let fit : fits (dues.Claim slot) (claim_reply slot (port_after slot.port earlier) (claim_note (port_after slot.port earlier) slot)) ≡ true = claim_fits (port_after slot.port earlier) slot (port_after slot.port earlier).claim mine two.1 in
    let same : note ≡ notes.Claim task slot (claim_note (port_after slot.port earlier) slot) = told.1 ∙ ap (λ n. notes.Claim task slot (claim_note (port_after n earlier) slot)) (sym number) in
    rw same fit
port_fits w history p earlier (asks.Consume task) note own is = rw ((given_some _ (notes.Consume task) note is).1) refl
port_fits w history p earlier (asks.Free task) note own is = rw ((given_some _ (notes.Free task) note is).1) refl
port_fits w history p earlier (asks.Commit task ms) note own is = absurd (cc)
port_fits w history p earlier asks.Admit note own is = absurd (cc)
port_fits w history p earlier (asks.Over task root how) note own is = absurd (cc)
port_fits w history p earlier (asks.Suspend task) note own is = absurd (cc)
port_fits w history p earlier (asks.Book task resumes) note own is = absurd (cc)
port_fits w history p earlier (asks.Unbook task) note own is = absurd (cc)
port_fits w history p earlier (asks.Put task) note own is = absurd (cc)
port_fits w history p earlier asks.Take note own is = absurd (cc)
port_fits w history p earlier asks.Draw note own is = absurd (cc)
port_fits w history p earlier asks.Leave note own is = absurd (cc)
port_fits w history p earlier asks.Left note own is = absurd (cc)

-- ---- arbiters, sites, queues and the meter

commit_fits : (w : Parts) (history : List Event) (earlier : List Note) (task : Task) (ms : List _) (o : Option By) (cuts : List _) → fits dues.Commit (reply_to w history earlier (commit_note task ms o (notes.Fired task.id task.spot ms cuts))) ≡ true
commit_fits w history earlier task ms None cuts = refl
commit_fits w history earlier task ms (Some by) cuts = refl

arbiter_fits : (w : Parts) (history : List Event) (earlier : List Note) (state : arbiters.ArbiterState) (ask : Ask) (note : Note) → arbiter_note state ask ≡ Some note → fits (due_of ask) (reply_to w history earlier note) ≡ true
arbiter_fits w history earlier state (asks.Post m) note is = absurd (cc)
arbiter_fits w history earlier state (asks.Claim task slot) note is = absurd (cc)
arbiter_fits w history earlier state (asks.Consume task) note is = absurd (cc)
arbiter_fits w history earlier state (asks.Free task) note is = absurd (cc)
arbiter_fits w history earlier state (asks.Commit task ms) note is = rw ((given_some _ _ note is).1) (commit_fits w history earlier task ms (arbiters.dead_by state) [])
arbiter_fits w history earlier state asks.Admit note is = absurd (cc)
arbiter_fits w history earlier state (asks.Over task root how) note is = rw ((given_some _ _ note is).1) refl
arbiter_fits w history earlier state (asks.Suspend task) note is = absurd (cc)
arbiter_fits w history earlier state (asks.Book task resumes) note is = absurd (cc)
arbiter_fits w history earlier state (asks.Unbook task) note is = absurd (cc)
arbiter_fits w history earlier state (asks.Put task) note is = absurd (cc)
arbiter_fits w history earlier state asks.Take note is = absurd (cc)
arbiter_fits w history earlier state asks.Draw note is = absurd (cc)
arbiter_fits w history earlier state asks.Leave note is = absurd (cc)
arbiter_fits w history earlier state asks.Left note is = absurd (cc)

interleave_fits : (w : Parts) (history : List Event) (earlier : List Note) (state : interleaves.InterleaveState) (ask : Ask) (note : Note) → interleave_note state ask ≡ Some note → fits (due_of ask) (reply_to w history earlier note) ≡ true
interleave_fits w history earlier state (asks.Post m) note is = absurd (cc)
interleave_fits w history earlier state (asks.Claim task slot) note is = absurd (cc)
interleave_fits w history earlier state (asks.Consume task) note is = absurd (cc)
interleave_fits w history earlier state (asks.Free task) note is = absurd (cc)
interleave_fits w history earlier state (asks.Commit task ms) note is = rw ((given_some _ _ note is).1) (commit_fits w history earlier task ms (interleaves.dead_by state) (interleaves.cut_note state task.spot))
interleave_fits w history earlier state asks.Admit note is = (let same : note ≡ notes.Admit (interleaves.admit_note state) = cc in rw same refl)
interleave_fits w history earlier state (asks.Over task root how) note is = rw ((given_some _ _ note is).1) refl
interleave_fits w history earlier state (asks.Suspend task) note is = absurd (cc)
interleave_fits w history earlier state (asks.Book task resumes) note is = absurd (cc)
interleave_fits w history earlier state (asks.Unbook task) note is = absurd (cc)
interleave_fits w history earlier state (asks.Put task) note is = absurd (cc)
interleave_fits w history earlier state asks.Take note is = absurd (cc)
interleave_fits w history earlier state asks.Draw note is = absurd (cc)
interleave_fits w history earlier state asks.Leave note is = absurd (cc)
interleave_fits w history earlier state asks.Left note is = absurd (cc)

site_fits : (w : Parts) (history : List Event) (earlier : List Note) (state : sites.SiteState) (ask : Ask) (note : Note) → site_note state ask ≡ Some note → fits (due_of ask) (reply_to w history earlier note) ≡ true
site_fits w history earlier state (asks.Post m) note is = absurd (cc)
site_fits w history earlier state (asks.Claim task slot) note is = absurd (cc)
site_fits w history earlier state (asks.Consume task) note is = absurd (cc)
site_fits w history earlier state (asks.Free task) note is = absurd (cc)
site_fits w history earlier state (asks.Commit task ms) note is = rw ((given_some _ _ note is).1) (commit_fits w history earlier task ms (sites.dead_by state) [])
site_fits w history earlier state asks.Admit note is = absurd (cc)
site_fits w history earlier state (asks.Over task root how) note is = absurd (cc)
site_fits w history earlier state (asks.Suspend task) note is = (let same : note ≡ notes.Suspend task.id = cc in rw same refl)
site_fits w history earlier state (asks.Book task resumes) note is = absurd (cc)
site_fits w history earlier state (asks.Unbook task) note is = absurd (cc)
site_fits w history earlier state (asks.Put task) note is = absurd (cc)
site_fits w history earlier state asks.Take note is = absurd (cc)
site_fits w history earlier state asks.Draw note is = absurd (cc)
site_fits w history earlier state asks.Leave note is = absurd (cc)
site_fits w history earlier state asks.Left note is = absurd (cc)

book_fits : (w : Parts) (history : List Event) (earlier : List Note) (task : TaskId) (resumes : Bool) (full : Option ℕ) → fits dues.Booking (reply_to w history earlier (notes.Book task resumes full)) ≡ true
book_fits w history earlier task resumes None = refl
book_fits w history earlier task resumes (Some n) = refl

queue_fits : (w : Parts) (history : List Event) (earlier : List Note) (state : queues.QueueState) (ask : Ask) (note : Note) → queue_note state ask ≡ Some note → fits (due_of ask) (reply_to w history earlier note) ≡ true
queue_fits w history earlier state (asks.Post m) note is = absurd (cc)
queue_fits w history earlier state (asks.Claim task slot) note is = absurd (cc)
queue_fits w history earlier state (asks.Consume task) note is = absurd (cc)
queue_fits w history earlier state (asks.Free task) note is = absurd (cc)
queue_fits w history earlier state (asks.Commit task ms) note is = absurd (cc)
queue_fits w history earlier state asks.Admit note is = absurd (cc)
queue_fits w history earlier state (asks.Over task root how) note is = absurd (cc)
queue_fits w history earlier state (asks.Suspend task) note is = absurd (cc)
queue_fits w history earlier state (asks.Book task resumes) note is = rw ((given_some _ _ note is).1) (book_fits w history earlier task resumes (queues.book_note state resumes))
queue_fits w history earlier state (asks.Unbook task) note is = rw ((given_some _ _ note is).1) refl
queue_fits w history earlier state (asks.Put task) note is = rw ((given_some _ _ note is).1) refl
queue_fits w history earlier state asks.Take note is = (let same : note ≡ notes.Take (queues.take_note state) = cc in rw same refl)
queue_fits w history earlier state asks.Draw note is = absurd (cc)
queue_fits w history earlier state asks.Leave note is = absurd (cc)
queue_fits w history earlier state asks.Left note is = absurd (cc)

draw_fits : (w : Parts) (history : List Event) (earlier : List Note) (drawn : Option ℕ) → fits dues.Draw (reply_to w history earlier (notes.Draw drawn)) ≡ true
draw_fits w history earlier None = refl
draw_fits w history earlier (Some n) = refl

meter_fits : (w : Parts) (history : List Event) (earlier : List Note) (state : meters.MeterState) (ask : Ask) (note : Note) → meter_note state ask ≡ Some note → fits (due_of ask) (reply_to w history earlier note) ≡ true
meter_fits w history earlier state (asks.Post m) note is = absurd (cc)
meter_fits w history earlier state (asks.Claim task slot) note is = absurd (cc)
meter_fits w history earlier state (asks.Consume task) note is = absurd (cc)
meter_fits w history earlier state (asks.Free task) note is = absurd (cc)
meter_fits w history earlier state (asks.Commit task ms) note is = absurd (cc)
meter_fits w history earlier state asks.Admit note is = absurd (cc)
meter_fits w history earlier state (asks.Over task root how) note is = absurd (cc)
meter_fits w history earlier state (asks.Suspend task) note is = absurd (cc)
meter_fits w history earlier state (asks.Book task resumes) note is = absurd (cc)
meter_fits w history earlier state (asks.Unbook task) note is = absurd (cc)
meter_fits w history earlier state (asks.Put task) note is = absurd (cc)
meter_fits w history earlier state asks.Take note is = absurd (cc)
meter_fits w history earlier state asks.Draw note is = (let same : note ≡ notes.Draw (meters.draw_note state) = cc in rw same (draw_fits w history earlier (meters.draw_note state)))
meter_fits w history earlier state asks.Leave note is = rw ((given_some _ _ note is).1) refl
meter_fits w history earlier state asks.Left note is = (let same : note ≡ notes.Left state.left = cc in rw same refl)

kind_fits : (w : Parts) (history : List Event) (number : ℕ) (kind : Kind) (part : ArbiterPart) (earlier : List Note) (ask : Ask) (note : Note) → note_by_kind w number kind part earlier ask ≡ Some note → fits (due_of ask) (reply_to w history earlier note) ≡ true
kind_fits w history number kinds.Receive part earlier ask note is = arbiter_fits w history earlier (arbiter_after (first_branch w number) part earlier) ask note is
kind_fits w history number kinds.Choice part earlier ask note is = arbiter_fits w history earlier (arbiter_after (first_branch w number) part earlier) ask note is
kind_fits w history number kinds.Interleave part earlier ask note is = interleave_fits w history earlier (interleave_after w number earlier) ask note is

member_fits : (w : Parts) (history : List Event) (number : ℕ) (o : Option ArbiterPart) (earlier : List Note) (ask : Ask) (note : Note) → note_at_arbiter w number o earlier ask ≡ Some note → fits (due_of ask) (reply_to w history earlier note) ≡ true
member_fits w history number None earlier ask note is = absurd (cc)
member_fits w history number (Some part) earlier ask note is = kind_fits w history number part.kind part earlier ask note is

-- ---- any place

place_fits : (w : Parts) (history : List Event) (es : List Entry) (place : Place) (ask : Ask) (note : Note) → AreOwn es → note_of w place (notes_at es place) ask ≡ Some note → fits (due_of ask) (reply_to w history (notes_at es place) note) ≡ true
place_fits w history es (places.Port p) ask note own is = port_fits w history p (notes_at es (places.Port p)) ask note (own p) is
place_fits w history es (places.Arbiter i) ask note own is = member_fits w history i (slice_get w.arbiters i) (notes_at es (places.Arbiter i)) ask note is
place_fits w history es (places.Site b k) ask note own is = site_fits w history (notes_at es (places.Site b k)) (site_after b k (notes_at es (places.Site b k))) ask note is
place_fits w history es (places.Queue q) ask note own is = queue_fits w history (notes_at es (places.Queue q)) (queue_after w q (notes_at es (places.Queue q))) ask note is
place_fits w history es places.Meter ask note own is = meter_fits w history (notes_at es places.Meter) (meter_after w.budget (notes_at es places.Meter)) ask note is

-- the reply of an entry fits what its actor asked
pub reply_fits : (w : Parts) (lacks : Lacks) (es : List Entry) (e : Entry) → AreOwn es → (step : Step w lacks es e) → fits (due_of step.asking.ask) (reply_of w es e) ≡ true
reply_fits w lacks es e own step = subst (λ (x : Place). fits (due_of step.asking.ask) (reply_to w (visible (es ++ e ∷ [])) (notes_at es x) e.note) ≡ true) (sym step.there) (place_fits w (visible (es ++ e ∷ [])) es step.asking.place step.asking.ask e.note own step.gives)
