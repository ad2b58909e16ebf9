use Rattle.ccr_rests.proofs.BookingsOnce.{booking_by, booking_ended, booking_once, booking_stands}
use Rattle.ccr_rests.proofs.ends.bookings_are_ended_once.Goals as goal

pub returns-clause-who : goal.returns-clause-who
returns-clause-who c = λ here q t is. booking_by here.wiring here.workers here.lacks here.valid here.few here.past here.entry here.more here.steps q t is

pub returns-clause-stands : goal.returns-clause-stands
returns-clause-stands c = λ here q t is. booking_stands here.wiring here.workers here.lacks here.valid here.few here.past here.entry here.more here.steps q t is

pub returns-clause-ended : goal.returns-clause-ended
returns-clause-ended c = λ here q t is. booking_ended here.wiring here.workers here.lacks here.valid here.few here.past here.entry here.more here.steps q t is

pub returns-clause-once : goal.returns-clause-once
returns-clause-once c = λ here q t is. booking_once here.wiring here.workers here.lacks here.valid here.few here.past here.entry here.more here.steps q t is
