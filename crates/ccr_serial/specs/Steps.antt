-- What a step did.
use Rattle.std.specs.Prelude.{Option, Some, None}
use Rattle.ccr_model.specs.declared.history.Event.{Event}
use Rattle.ccr_serial.specs.declared.serial.Stepped.{Stepped}
use Rattle.ccr_serial.specs.declared.serial.Stepped.TheVariants.{Did, Quiet}

-- the event that was done, if any
abbrev pub event_of : Stepped → Option Event
event_of (Did event) = Some event
event_of Quiet = None
