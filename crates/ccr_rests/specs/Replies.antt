-- What the replies of a run name: ports, spots, domains, queues and causes of the wiring, and messages, tasks and actors of the run.
use Rattle.std.specs.Prelude.{◌≡◌, ◌<◌, ℕ, true, List, All, Option, Some, None, length}
use Rattle.std.specs.List.{Contains}
use Rattle.ccr_base.specs.declared.messages.Msg.{Msg}
use Rattle.ccr_base.specs.declared.names.Place.{Place}
use Rattle.ccr_base.specs.declared.names.Place.TheVariants as places
use Rattle.ccr_base.specs.declared.tasks.By.{By}
use Rattle.ccr_base.specs.declared.tasks.By.TheVariants.{Fired as ByFired, NoneWaiting}
use Rattle.ccr_base.specs.declared.tasks.Cut.{Cut}
use Rattle.ccr_base.specs.declared.tasks.Task.{Task}
use Rattle.ccr_base.specs.Names.{has_task}
use Rattle.ccr_wiring.specs.declared.parts.Parts.{Parts}
use Rattle.ccr_model.specs.declared.history.Event.{Event}
use Rattle.ccr_model.specs.Firings.{fired}
use Rattle.ccr_model.specs.Posts.{posted}
use Rattle.ccr_claim.specs.declared.asks.Reply.{Reply}
use Rattle.ccr_claim.specs.declared.asks.Reply.TheVariants as replies
use Rattle.ccr_claim.specs.Wired.{IsMessageOf, IsTaskOf}

-- the message bears the number of this port and was posted there; its port and its causes are the wiring's
abbrev pub IsItem : Parts → List Event → ℕ → Msg → Type 0
IsItem wiring history port message = IsMessageOf wiring message × (message.port ≡ port) × Contains (posted history port) message

-- the messages are items of the port at which the reply is given
abbrev pub AreItems : Parts → List Event → Place → List Msg → Type 0
AreItems wiring history (places.Port port) messages = (port < length wiring.ports) × All (IsItem wiring history port) messages
AreItems wiring history _ messages = ⊥

-- the task has fired in the run; its spot, its domain, its queue and its causes are the wiring's
abbrev pub IsHanded : Parts → List Event → Option Task → Type 0
IsHanded wiring history None = Unit {0}
IsHanded wiring history (Some task) = IsTaskOf wiring task × (has_task (fired history) task.id ≡ true)

-- the cut task has fired in the run, and its queue is the wiring's
abbrev pub IsCutOf : Parts → List Event → Cut → Type 0
IsCutOf wiring history cut = (cut.queue < length wiring.queues) × (has_task (fired history) cut.task ≡ true)

-- what retired the spot has fired in the run
abbrev pub HasRetired : List Event → By → Type 0
HasRetired history (ByFired task) = has_task (fired history) task ≡ true
HasRetired history NoneWaiting = Unit {0}

-- all that the reply of this place names is of the wiring, and of the run of so many actors that shows this history
abbrev pub NamesKnown : Parts → ℕ → List Event → Place → Reply → Type 0
NamesKnown wiring actors history place (replies.Got messages) = AreItems wiring history place messages
NamesKnown wiring actors history place (replies.Busy task) = task.actor < actors
NamesKnown wiring actors history place (replies.Fired task cuts) = IsHanded wiring history task × All (IsCutOf wiring history) cuts
NamesKnown wiring actors history place (replies.Dead by) = HasRetired history by
NamesKnown wiring actors history place (replies.Admitted task) = IsHanded wiring history task
NamesKnown wiring actors history place (replies.Dropped task) = IsHanded wiring history task
NamesKnown wiring actors history place (replies.Taken task) = IsHanded wiring history task
NamesKnown wiring actors history place replies.Done = Unit {0}
NamesKnown wiring actors history place (replies.Short count) = Unit {0}
NamesKnown wiring actors history place replies.Booked = Unit {0}
NamesKnown wiring actors history place (replies.Full count) = Unit {0}
NamesKnown wiring actors history place (replies.Drawn count) = Unit {0}
NamesKnown wiring actors history place replies.Spent = Unit {0}
NamesKnown wiring actors history place (replies.Left count) = Unit {0}
