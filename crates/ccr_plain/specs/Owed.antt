-- The entries that are owed: how many may still come, of asks that settle what actors were replied.
-- An ask that settles is never refused, so a net keeps room for its entry from the reply on that it settles: two for a booking, which is put
-- or ended, since a put may drop a task that is then noted over; one for each claim that got its messages; two for each cut task's booking and
-- for an admitted task's put; one for the end of a task that is taken. An entry takes from what is owed what its ask costs, and adds what its
-- reply brings. What an actor's hand, its attempt and its task can still cost is never more than what is owed to it, whatever it is replied.
use Rattle.std.specs.Prelude.{ℕ, zero, suc, ◌+◌, ◌-◌, ◌*◌, List, length, fold, Some, None}
use Rattle.ccr_wiring.specs.declared.parts.Parts.{Parts}
use Rattle.ccr_claim.specs.declared.asks.Ask.{Ask}
use Rattle.ccr_claim.specs.declared.asks.Ask.TheVariants as asks
use Rattle.ccr_claim.specs.declared.asks.Reply.{Reply}
use Rattle.ccr_claim.specs.declared.asks.Reply.TheVariants as replies
use Rattle.ccr_actor.specs.Nets.{Step}
use Rattle.ccr_object.specs.declared.deed.Deed.{Deed}
use Rattle.ccr_runs.specs.declared.acts.Act.{Act}
use Rattle.ccr_runs.specs.Played.{steps_in}

-- what the ask takes from what is owed
abbrev pub cost : Ask → ℕ
cost (asks.Put task) = 2
cost (asks.Unbook task) = 2
cost (asks.Commit task messages) = 2
cost (asks.Consume task) = 1
cost (asks.Free task) = 1
cost (asks.Over task root how) = 1
cost (asks.Suspend task) = 1
cost (asks.Post message) = 0
cost (asks.Claim task slot) = 0
cost asks.Admit = 0
cost (asks.Book task resumes) = 0
cost asks.Take = 0
cost asks.Draw = 0
cost asks.Leave = 0
cost asks.Left = 0

-- what the reply adds to it; a task that waits in an Interleave is put by whom it is admitted to
abbrev pub gain : Reply → ℕ
gain (replies.Fired (Some task) cuts) = 2 + 2 * length cuts
gain (replies.Fired None cuts) = 2 * length cuts
gain (replies.Dead by) = 2
gain replies.Booked = 2
gain (replies.Admitted (Some task)) = 2
gain (replies.Admitted None) = 0
gain (replies.Got messages) = 1
gain (replies.Taken (Some task)) = 1
gain (replies.Taken None) = 0
gain (replies.Dropped (Some task)) = 1
gain (replies.Dropped None) = 0
gain replies.Done = 0
gain (replies.Busy task) = 0
gain (replies.Short n) = 0
gain (replies.Full n) = 0
gain (replies.Drawn n) = 0
gain replies.Spent = 0
gain (replies.Left n) = 0

-- the most that a reply to the ask adds, where it cuts so many tasks at most
abbrev pub most : ℕ → Ask → ℕ
most count (asks.Commit task messages) = 2 + 2 * count
most count _ = 2

-- what is owed after the step: what it paid is less, what it took on is more
abbrev pub owed_after : ℕ → Step → ℕ
owed_after owed step = owed - cost step.asked.ask + gain step.reply

-- what is owed behind these steps of an actor
abbrev pub owed_by : List Step → ℕ
owed_by steps = fold owed_after 0 steps

-- what is owed to the first actors, so many of them
abbrev pub owed_to : Parts → List (Act Deed) → ℕ → ℕ
owed_to wiring acts zero = 0
owed_to wiring acts (suc actor) = owed_to wiring acts actor + owed_by (steps_in wiring acts actor)
