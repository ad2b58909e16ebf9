-- What the object of a place answers. An ask that isn't one for its kind of place isn't met.
use Rattle.std.specs.Prelude.{◌≡◌, Bool, true, Option, Some, None, if◌then◌else◌}
use Rattle.std.specs.Option.{option_map}
use Rattle.ccr_claim.specs.declared.asks.Ask.{Ask}
use Rattle.ccr_claim.specs.declared.asks.Reply.{Reply}
use Rattle.ccr_claim.specs.Asks.{due_of, fits}
use Rattle.ccr_places.specs.declared.notes.Note.{Note}
use Rattle.ccr_object.specs.declared.deed.PlaceAnswer.{PlaceAnswer}
use Rattle.ccr_object.specs.declared.deed.PlaceAnswer.TheVariants.{Replied, Unmet}
use Rattle.ccr_object.specs.declared.deed.Deed.{Deed}
use Rattle.ccr_object.specs.declared.object.Object.{Object}
use Rattle.ccr_object.specs.declared.object.Object.TheVariants.{Port, Arbiter, Interleave, Site, Queue, Meter}
use Rattle.ccr_object.specs.declared.object.PlaceObject.{PlaceObject}
use Rattle.ccr_object.specs.declared.object.Placed.{Placed}
use Rattle.ccr_places.specs.Meters.{start as meters_start}
use Rattle.ccr_object.specs.Numbers.{is_known, no_numbers}
use Rattle.ccr_object.specs.Ports as ports
use Rattle.ccr_object.specs.Arbiters as arbiters
use Rattle.ccr_object.specs.Interleaves as interleaves
use Rattle.ccr_object.specs.Sites as sites
use Rattle.ccr_object.specs.Queues as queues
use Rattle.ccr_object.specs.Meters as meters

-- the reply and the note, or none where the condition isn't met
abbrev pub answer : Object → Ask → Option (Reply × Note)
answer (Port port) ask = ports.answer port ask
answer (Arbiter arbiter) ask = arbiters.answer arbiter ask
answer (Interleave place) ask = interleaves.answer place ask
answer (Site site) ask = sites.answer site ask
answer (Queue queue) ask = queues.answer queue ask
answer (Meter meter) ask = meters.answer meter ask

-- what it is then
abbrev pub after : Object → Ask → Object
after (Port port) ask = Port (ports.after port ask)
after (Arbiter arbiter) ask = Arbiter (arbiters.after arbiter ask)
after (Interleave place) ask = Interleave (interleaves.after place ask)
after (Site site) ask = Site (sites.after site ask)
after (Queue queue) ask = Queue (queues.after queue ask)
after (Meter meter) ask = Meter (meters.after meter ask)

-- what the actor hears of it
abbrev pub answered : Option (Reply × Note) → PlaceAnswer
answered None = Unmet
answered (Some given) = Replied given.0

-- what the history notes of it
abbrev pub noted : Option (Reply × Note) → Option Note
noted given = option_map (λ (g : Reply × Note). g.1) given

-- what contracts see of a place
abbrev pub placed : PlaceObject → Placed
placed place = record { numbers = place.numbers.value; object = place.object.value }

-- what stands where there is no place
abbrev pub nothing : Placed
nothing = record { numbers = no_numbers; object = Meter (meters_start 0) }

-- the reply and the note, or none where the ask names a number that isn't one of the wiring, or the object's condition isn't met
abbrev pub answer_at : Placed → Ask → Option (Reply × Note)
answer_at place ask = if is_known place.numbers ask then answer place.object ask else None

-- what it is then; its numbers stay
abbrev pub after_at : Placed → Ask → Placed
after_at place ask = record { numbers = place.numbers; object = if is_known place.numbers ask then after place.object ask else place.object }

-- what the place answers to the ask
abbrev pub reply_of : Placed → Ask → PlaceAnswer
reply_of place ask = answered (answer_at place ask)

-- what is noted where the place answers the ask
abbrev pub note_of : Placed → Ask → Option Note
note_of place ask = noted (answer_at place ask)

-- whether the answer is one that the ask may have: Unmet, or a reply that fits it
abbrev pub is_due : Ask → PlaceAnswer → Bool
is_due ask Unmet = true
is_due ask (Replied reply) = fits (due_of ask) reply

-- the answer to the ask, and the entry that bears the ask with its note; what is replied fits the ask
abbrev pub IsGiven : Placed → Ask → PlaceAnswer → Deed → Type 0
IsGiven place ask reply deed = (reply ≡ reply_of place ask) × (deed.note ≡ note_of place ask) × (deed.ask.value ≡ ask) × (is_due ask reply ≡ true)

-- what an entry leaves
abbrev pub after_deed : Placed → Deed → Placed
after_deed place deed = after_at place deed.ask.value
