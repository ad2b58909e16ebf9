-- Which replies an ask may have, and which asks settle what an earlier reply gave.
use Rattle.std.specs.Prelude.{◌≡◌, Bool, true, false, ◌==◌, ◌&&◌, nat_lt, nat_le, List, [], ◌∷◌, length, Result, Ok, Err}
use Rattle.std.specs.List.{list_all}
use Rattle.ccr_base.specs.declared.list.OutOfMemory.{OutOfMemory}
use Rattle.ccr_base.specs.declared.messages.Msg.{Msg}
use Rattle.ccr_base.specs.declared.patterns.Slot.{Slot}
use Rattle.ccr_claim.specs.declared.asks.Ask.{Ask}
use Rattle.ccr_claim.specs.declared.asks.Ask.TheVariants as asks
use Rattle.ccr_claim.specs.declared.asks.Asked.{Asked}
use Rattle.ccr_claim.specs.declared.asks.Due.{Due}
use Rattle.ccr_claim.specs.declared.asks.Due.TheVariants as dues
use Rattle.ccr_claim.specs.declared.asks.Reply.{Reply}
use Rattle.ccr_claim.specs.declared.asks.Reply.TheVariants as replies

-- whether the ask settles what an earlier reply gave
abbrev pub is_settling : Ask → Bool
is_settling (asks.Consume task) = true
is_settling (asks.Free task) = true
is_settling (asks.Over task root how) = true
is_settling (asks.Unbook task) = true
is_settling (asks.Put task) = true
is_settling _ = false

-- each of the asks settles
abbrev pub AreSettling : List Asked → Type 0
AreSettling [] = Unit {0}
AreSettling (one ∷ more) = (is_settling one.ask ≡ true) × AreSettling more

-- which replies the ask may have
abbrev pub due_of : Ask → Due
due_of (asks.Consume task) = dues.Settled
due_of (asks.Free task) = dues.Settled
due_of (asks.Unbook task) = dues.Settled
due_of (asks.Over task root how) = dues.Settled
due_of (asks.Put task) = dues.Put
due_of (asks.Post message) = dues.Done
due_of (asks.Suspend task) = dues.Done
due_of asks.Leave = dues.Done
due_of (asks.Book task resumes) = dues.Booking
due_of (asks.Claim task slot) = dues.Claim slot
due_of (asks.Commit task messages) = dues.Commit
due_of asks.Admit = dues.Admission
due_of asks.Take = dues.Take
due_of asks.Draw = dues.Draw
due_of asks.Left = dues.Left

-- messages of the slot's port, as many as the slot takes
abbrev pub are_of : Slot → List Msg → Bool
are_of slot messages = nat_le slot.least (length messages) && nat_le (length messages) slot.most && list_all (λ (m : Msg). m.port == slot.port) messages

-- whether the reply is one of these
abbrev pub fits : Due → Reply → Bool
fits dues.Settled replies.Done = true
fits dues.Done replies.Done = true
fits dues.Put (replies.Dropped task) = true
fits dues.Booking replies.Booked = true
fits dues.Booking (replies.Full n) = true
fits (dues.Claim slot) (replies.Got messages) = are_of slot messages
fits (dues.Claim slot) (replies.Busy task) = true
fits (dues.Claim slot) (replies.Short n) = nat_lt n slot.least
fits dues.Commit (replies.Fired task cuts) = true
fits dues.Commit (replies.Dead by) = true
fits dues.Admission (replies.Admitted task) = true
fits dues.Take (replies.Taken task) = true
fits dues.Draw (replies.Drawn n) = true
fits dues.Draw replies.Spent = true
fits dues.Left (replies.Left n) = true
fits due reply = false

-- whether the ask may find no memory: it is unanswered, and doesn't settle
abbrev pub is_refusable : Due → Bool
is_refusable dues.Nothing = false
is_refusable dues.Settled = false
is_refusable dues.Put = false
is_refusable _ = true

-- an answer: a reply, or running out of memory
abbrev pub MaybeReply : Type 0
MaybeReply = Result Reply OutOfMemory

-- whether the answer is one that may come
abbrev pub may_come : Due → MaybeReply → Bool
may_come due (Ok reply) = fits due reply
may_come due (Err refused) = is_refusable due
