-- Which notes show an event of the history.
use Rattle.std.specs.Prelude.{Bool, true, false, Some}
use Rattle.std.specs.Option.{option_map_or}
use Rattle.ccr_base.specs.declared.tasks.How.{How}
use Rattle.ccr_base.specs.declared.tasks.How.TheVariants.{Dropped}
use Rattle.ccr_places.specs.declared.notes.Note.{Note}
use Rattle.ccr_places.specs.declared.notes.Note.TheVariants.{Post, Fired, Admit, Over, Suspend, Put, Take}
use Rattle.ccr_object.specs.declared.deed.Deed.{Deed}

-- a task that was dropped never started, so its end shows nothing
abbrev pub is_end : How → Bool
is_end Dropped = false
is_end _ = true

-- claims, bookings, the meter's notes and what was answered with nothing show nothing
abbrev pub is_event : Note → Bool
is_event (Post message) = true
is_event (Fired task spot messages cuts) = true
is_event (Admit (Some task)) = true
is_event (Put task dropped) = true
is_event (Take (Some task)) = true
is_event (Over task root how) = is_end how
is_event (Suspend task) = true
is_event _ = false

-- whether an entry shows an event; one whose condition wasn't met has no note
abbrev pub has_event : Deed → Bool
has_event deed = option_map_or is_event deed.note false
