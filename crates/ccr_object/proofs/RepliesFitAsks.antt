-- What a queue and the meter reply fits the ask, and what a port answers to a claim fits it as it fits the slot.
use Rattle.std.proofs.Common.{◌≡◌, ℕ, Bool, true, false, Option, Some, None, Ok, Err, refl, ap, ◌∙◌}
use Rattle.std.specs.Prelude.{Result, IfOk, if◌then◌else◌}
use Rattle.ccr_base.specs.declared.list.OutOfMemory.{OutOfMemory}
use Rattle.ccr_base.specs.declared.names.TaskId.{TaskId}
use Rattle.ccr_base.specs.declared.patterns.Slot.{Slot}
use Rattle.ccr_claim.specs.declared.asks.Ask.{Ask}
use Rattle.ccr_claim.specs.declared.asks.Ask.TheVariants as asks
use Rattle.ccr_claim.specs.declared.asks.Due.TheVariants as dues
use Rattle.ccr_claim.specs.declared.asks.Reply.{Reply}
use Rattle.ccr_claim.specs.declared.asks.Reply.TheVariants as replies
use Rattle.ccr_claim.specs.Asks.{due_of, fits}
use Rattle.ccr_places.specs.declared.notes.Note.{Note}
use Rattle.ccr_places.specs.declared.notes.Note.TheVariants as notes
use Rattle.ccr_places.specs.Queues.{QueueTasks, may_book, may_unbook, may_put, book_note, put_note}
use Rattle.ccr_places.specs.Meters.{MeterState, may_leave, draw_note}
use Rattle.ccr_port.specs.declared.claims.Claimed.{Claimed}
use Rattle.ccr_port.specs.declared.claims.Claimed.TheVariants.{Got, Busy, Short}
use Rattle.ccr_port.specs.Replies.{fits_slot}
use Rattle.ccr_object.specs.Objects.{answered, is_due}
use Rattle.ccr_object.specs.Ports.{claim_reply}
use Rattle.ccr_object.specs.Queues as queues
use Rattle.ccr_object.specs.Meters as meters

-- an answer with a condition
met_due : (met : Bool) (ask : Ask) (given : Reply × Note) → fits (due_of ask) given.0 ≡ true → is_due ask (answered (if met then Some given else None)) ≡ true
met_due true ask given is = is
met_due false ask given is = refl

book_due : (task : TaskId) (resumes : Bool) (full : Option ℕ) → fits dues.Booking (queues.book_reply full) ≡ true
book_due task resumes None = refl
book_due task resumes (Some n) = refl

draw_due : (drawn : Option ℕ) → fits dues.Draw (meters.draw_reply drawn) ≡ true
draw_due None = refl
draw_due (Some n) = refl

pub queue_due : (x : QueueTasks) (ask : Ask) → is_due ask (answered (queues.answer x ask)) ≡ true
queue_due x (asks.Post m) = refl
queue_due x (asks.Claim task slot) = refl
queue_due x (asks.Consume task) = refl
queue_due x (asks.Free task) = refl
queue_due x (asks.Commit task ms) = refl
queue_due x asks.Admit = refl
queue_due x (asks.Over task root how) = refl
queue_due x (asks.Suspend task) = refl
queue_due x (asks.Book task resumes) = met_due (may_book x.state task) (asks.Book task resumes) (queues.book_reply (book_note x.state resumes), notes.Book task resumes (book_note x.state resumes)) (book_due task resumes (book_note x.state resumes))
queue_due x (asks.Unbook task) = met_due (may_unbook x.state task) (asks.Unbook task) (replies.Done, notes.Unbook task) refl
queue_due x (asks.Put task) = met_due (may_put x.state task.id) (asks.Put task) (replies.Dropped (queues.dropped x), notes.Put task.id (put_note x.state)) refl
queue_due x asks.Take = refl
queue_due x asks.Draw = refl
queue_due x asks.Leave = refl
queue_due x asks.Left = refl

pub meter_due : (x : MeterState) (ask : Ask) → is_due ask (answered (meters.answer x ask)) ≡ true
meter_due x (asks.Post m) = refl
meter_due x (asks.Claim task slot) = refl
meter_due x (asks.Consume task) = refl
meter_due x (asks.Free task) = refl
meter_due x (asks.Commit task ms) = refl
meter_due x asks.Admit = refl
meter_due x (asks.Over task root how) = refl
meter_due x (asks.Suspend task) = refl
meter_due x (asks.Book task resumes) = refl
meter_due x (asks.Unbook task) = refl
meter_due x (asks.Put task) = refl
meter_due x asks.Take = refl
meter_due x asks.Draw = draw_due (draw_note x)
meter_due x asks.Leave = met_due (may_leave x) asks.Leave (replies.Done, notes.Leave) refl
meter_due x asks.Left = refl

-- what fits the slot fits the claim
pub slot_due : (slot : Slot) (claimed : Claimed) → fits_slot slot claimed ≡ true → fits (dues.Claim slot) (claim_reply claimed) ≡ true
slot_due slot (Got messages) is = is
slot_due slot (Busy task) is = refl
slot_due slot (Short count) is = is

-- where the answer is this, it is due
pub ok_due : (ask : Ask) (o : Option (Reply × Note)) (r : Result (Option (Reply × Note)) OutOfMemory) → IfOk r (λ given. given ≡ o) → is_due ask (answered o) ≡ true → IfOk r (λ given. is_due ask (answered given) ≡ true)
ok_due ask o (Ok given) same is = ap (λ g. is_due ask (answered g)) same ∙ is
ok_due ask o (Err refused) same is = tt
