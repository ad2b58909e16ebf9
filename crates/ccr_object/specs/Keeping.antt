-- What an object keeps, and what it answers: messages and tasks whose numbers are those of its place.
use Rattle.std.specs.Prelude.{Bool, true}
use Rattle.std.specs.List.{list_all}
use Rattle.ccr_object.specs.declared.deed.PlaceAnswer.{PlaceAnswer}
use Rattle.ccr_object.specs.declared.deed.PlaceAnswer.TheVariants.{Replied, Unmet}
use Rattle.ccr_object.specs.declared.object.Object.{Object}
use Rattle.ccr_object.specs.declared.object.Object.TheVariants.{Port, Arbiter, Interleave, Site, Queue, Meter}
use Rattle.ccr_object.specs.declared.object.Placed.{Placed}
use Rattle.ccr_object.specs.Numbers.{Numbers, knows_message, knows_task, names_known}

-- whether all numbers in the messages and tasks that the object keeps are among these
abbrev pub keeps_known : Numbers → Object → Bool
keeps_known known (Port port) = list_all (knows_message known) port.items
keeps_known known (Arbiter arbiter) = true
keeps_known known (Interleave place) = list_all (knows_task known) place.tasks
keeps_known known (Site site) = list_all (knows_task known) site.suspended
keeps_known known (Queue queue) = list_all (knows_task known) queue.tasks
keeps_known known (Meter meter) = true

-- whether all numbers that the place keeps are its own
abbrev pub keeps_own : Placed → Bool
keeps_own place = keeps_known place.numbers place.object

-- whether all numbers in the answer are among these
abbrev pub answers_known : Numbers → PlaceAnswer → Bool
answers_known known Unmet = true
answers_known known (Replied reply) = names_known known reply
