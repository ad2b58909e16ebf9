-- What belongs to a wiring, and the asks and replies that name nothing else.
use Rattle.std.specs.Prelude.{◌≡◌, ◌<◌, All, ℕ, true, List, length, Option, Some, None}
use Rattle.std.specs.Option.{is_some}
use Rattle.ccr_base.specs.declared.messages.Msg.{Msg}
use Rattle.ccr_base.specs.declared.names.Spot.{Spot}
use Rattle.ccr_base.specs.declared.names.Spot.TheVariants.{Branch, Site}
use Rattle.ccr_base.specs.declared.tasks.Cut.{Cut}
use Rattle.ccr_base.specs.declared.tasks.Task.{Task}
use Rattle.ccr_base.specs.Lists.{are_apart}
use Rattle.ccr_wiring.specs.declared.parts.Parts.{Parts}
use Rattle.ccr_wiring.specs.Domains.{domain_of}
use Rattle.ccr_wiring.specs.Wirings.{placements, site_port}
use Rattle.ccr_claim.specs.declared.asks.Ask.{Ask}
use Rattle.ccr_claim.specs.declared.asks.Ask.TheVariants as asks
use Rattle.ccr_claim.specs.declared.asks.Reply.{Reply}
use Rattle.ccr_claim.specs.declared.asks.Reply.TheVariants as replies

-- the branch, or the site, is one of the wiring's
abbrev pub IsSpotOf : Parts → Spot → Type 0
IsSpotOf wiring (Branch branch) = branch < length (placements wiring)
IsSpotOf wiring (Site branch site) = is_some (site_port wiring branch site) ≡ true

-- each cause is one of the wiring's, and none stands twice
abbrev pub AreCausesOf : Parts → List ℕ → Type 0
AreCausesOf wiring causes = All (λ cause. cause < length wiring.causes) causes × (are_apart causes ≡ true)

-- the wiring has the message's port and its causes
abbrev pub IsMessageOf : Parts → Msg → Type 0
IsMessageOf wiring message = (message.port < length wiring.ports) × AreCausesOf wiring message.causes

-- the number is that of a domain: of an arbiter that isn't combined with one of a lesser number
abbrev pub IsDomainOf : Parts → ℕ → Type 0
IsDomainOf wiring number = (number < length wiring.arbiters) × (domain_of wiring.domains number ≡ number)

-- the wiring has the task's spot, domain, queue and causes
abbrev pub IsTaskOf : Parts → Task → Type 0
IsTaskOf wiring task = IsSpotOf wiring task.spot × IsDomainOf wiring task.arbiter × (task.queue < length wiring.queues) × AreCausesOf wiring task.causes

-- the wiring has the queue that the cut task was booked at
abbrev pub HasQueueOf : Parts → Cut → Type 0
HasQueueOf wiring cut = cut.queue < length wiring.queues

-- the task, where there is one, is the wiring's
abbrev pub IsHandedOf : Parts → Option Task → Type 0
IsHandedOf wiring None = Unit {0}
IsHandedOf wiring (Some task) = IsTaskOf wiring task

-- all numbers in the ask are the wiring's, and no cause stands twice in its message or task
abbrev pub IsKnown : Parts → Ask → Type 0
IsKnown wiring (asks.Post message) = IsMessageOf wiring message
IsKnown wiring (asks.Claim task slot) = slot.port < length wiring.ports
IsKnown wiring (asks.Commit task messages) = IsTaskOf wiring task
IsKnown wiring (asks.Suspend task) = IsTaskOf wiring task
IsKnown wiring (asks.Put task) = IsTaskOf wiring task
IsKnown wiring _ = Unit {0}

-- all numbers in the reply are the wiring's, and no cause stands twice in a message or task of it
abbrev pub IsReplyOf : Parts → Reply → Type 0
IsReplyOf wiring (replies.Got messages) = All (IsMessageOf wiring) messages
IsReplyOf wiring (replies.Fired task cuts) = IsHandedOf wiring task × All (HasQueueOf wiring) cuts
IsReplyOf wiring (replies.Admitted task) = IsHandedOf wiring task
IsReplyOf wiring (replies.Dropped task) = IsHandedOf wiring task
IsReplyOf wiring (replies.Taken task) = IsHandedOf wiring task
IsReplyOf wiring _ = Unit {0}
