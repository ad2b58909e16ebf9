-- What stands after an event that found the tables out of memory.
use Rattle.std.specs.Prelude.{◌≡◌, List}
use Rattle.ccr_base.specs.declared.names.TaskId.{TaskId}
use Rattle.ccr_base.specs.declared.names.Spot.{Spot}
use Rattle.ccr_base.specs.declared.names.Spot.TheVariants.{Branch, Site}
use Rattle.ccr_model.specs.declared.history.Event.{Event}
use Rattle.ccr_model.specs.declared.history.Event.TheVariants.{Post, Fire, Admit, Put, Start, End}
use Rattle.ccr_ledger.specs.Books.{Books}
use Rattle.ccr_ledger.specs.Taking.{AreLeftOf}
use Rattle.ccr_ledger.specs.Firing.{after_cuts}
use Rattle.ccr_ledger.specs.Events.{after_dropped}

-- messages may have been taken out of the ports; all else is as it was
pub record IsTakenFrom (old new : Books) : Type 0 where
  pub others : new ≡ record old { ports = new.ports }
  pub ports : AreLeftOf old.ports new.ports

-- after a firing at the spot: its cuts are made, and messages may have been taken
abbrev pub IsFiringRefused : Spot → List TaskId → Books → Books → Type 0
IsFiringRefused (Branch branch) cuts old new = IsTakenFrom (after_cuts cuts old) new
IsFiringRefused (Site branch site) cuts old new = IsTakenFrom old new

-- after any event: of a put the drop is made, of a firing what is said above, and all else is as it was
abbrev pub IsRefused : Event → Books → Books → Type 0
IsRefused (Post message) old new = new ≡ old
IsRefused (Fire task spot messages cuts) old new = IsFiringRefused spot cuts old new
IsRefused (Admit task) old new = new ≡ old
IsRefused (Put task dropped) old new = new ≡ after_dropped dropped old
IsRefused (Start task actor) old new = new ≡ old
IsRefused (End task how) old new = new ≡ old
