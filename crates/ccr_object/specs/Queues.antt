-- What a queue answers.
use Rattle.std.specs.Prelude.{ℕ, nat_le, [], ◌∷◌, ◌++◌, drop, slice_get, Option, Some, None, if◌then◌else◌}
use Rattle.ccr_claim.specs.declared.asks.Ask.{Ask}
use Rattle.ccr_claim.specs.declared.asks.Ask.TheVariants as asks
use Rattle.ccr_claim.specs.declared.asks.Reply.{Reply}
use Rattle.ccr_claim.specs.declared.asks.Reply.TheVariants as replies
use Rattle.ccr_places.specs.declared.notes.Note.{Note}
use Rattle.ccr_places.specs.declared.notes.Note.TheVariants as notes
use Rattle.ccr_base.specs.declared.tasks.Task.{Task}
use Rattle.ccr_places.specs.Queues.{QueueState, QueueTasks, may_book, may_unbook, may_put, book_note, put_note, take_note, drop_count, after_book, after_unbook, after_put, after_take}

-- how a booking is told: booked, or that so many are there already
abbrev pub book_reply : Option ℕ → Reply
book_reply None = replies.Booked
book_reply (Some n) = replies.Full n

-- the task that a put drops
abbrev pub dropped : QueueTasks → Option Task
dropped queue = if nat_le 1 (drop_count queue.state) then slice_get queue.tasks 0 else None

-- the reply to an ask, with its note; nothing where the ask isn't for a queue or its condition isn't met
abbrev pub answer : QueueTasks → Ask → Option (Reply × Note)
answer queue (asks.Book task resumes) = if may_book queue.state task then Some (book_reply (book_note queue.state resumes), notes.Book task resumes (book_note queue.state resumes)) else None
answer queue (asks.Unbook task) = if may_unbook queue.state task then Some (replies.Done, notes.Unbook task) else None
answer queue (asks.Put task) = if may_put queue.state task.id then Some (replies.Dropped (dropped queue), notes.Put task.id (put_note queue.state)) else None
answer queue asks.Take = Some (replies.Taken (slice_get queue.tasks 0), notes.Take (take_note queue.state))
answer queue _ = None

-- the queue in this state, with its tasks
abbrev pub with_state : QueueTasks → QueueState → QueueTasks
with_state queue state = record queue { state = state }

-- the queue after the ask
abbrev pub after : QueueTasks → Ask → QueueTasks
after queue (asks.Book task resumes) = if may_book queue.state task then with_state queue (after_book queue.state task resumes (book_note queue.state resumes)) else queue
after queue (asks.Unbook task) = if may_unbook queue.state task then with_state queue (after_unbook queue.state task) else queue
after queue (asks.Put task) = if may_put queue.state task.id then record { state = after_put queue.state task.id; tasks = drop (drop_count queue.state) queue.tasks ++ task ∷ [] } else queue
after queue asks.Take = record { state = after_take queue.state; tasks = drop 1 queue.tasks }
after queue _ = queue
