-- What the answer to a booking says.
use Rattle.std.specs.Prelude.{ℕ, Option, Some, None}
use Rattle.ccr_queue.specs.declared.queue.Booked.{Booked}
use Rattle.ccr_queue.specs.declared.queue.Booked.TheVariants.{Yes, Full}

-- the number of the throttle that had no room, where it is full
abbrev pub full_of : Booked → Option ℕ
full_of Yes = None
full_of (Full n) = Some n
