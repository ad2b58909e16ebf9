-- The history that a list of entries shows.
use Rattle.std.specs.Prelude.{ℕ, List, [], ◌∷◌, flat_map, Some}
use Rattle.ccr_base.specs.declared.names.TaskId.{TaskId}
use Rattle.ccr_base.specs.declared.tasks.How.{How}
use Rattle.ccr_base.specs.declared.tasks.How.TheVariants as hows
use Rattle.ccr_model.specs.declared.history.Event.{Event}
use Rattle.ccr_model.specs.declared.history.Event.TheVariants as events
use Rattle.ccr_model.specs.declared.history.EndHow.TheVariants as ends
use Rattle.ccr_places.specs.declared.notes.Note.{Note}
use Rattle.ccr_places.specs.declared.notes.Note.TheVariants.{Post, Fired, Admit, Over, Suspend, Put, Take}
use Rattle.ccr_runs.specs.declared.entries.Entry.{Entry}

-- a task that was dropped never started, so its end shows nothing
abbrev pub end_by : TaskId → How → List Event
end_by task hows.Done = events.End task ends.Done ∷ []
end_by task (hows.Failed value) = events.End task (ends.Failed value) ∷ []
end_by task hows.Shed = events.End task ends.Shed ∷ []
end_by task hows.Dropped = []

-- what a note of this actor shows
abbrev pub shown : ℕ → Note → List Event
shown actor (Post message) = events.Post message ∷ []
shown actor (Fired task spot messages cuts) = events.Fire task spot messages cuts ∷ []
shown actor (Admit (Some task)) = events.Admit task ∷ []
shown actor (Put task dropped) = events.Put task dropped ∷ []
shown actor (Take (Some task)) = events.Start task actor ∷ []
shown actor (Over task root how) = end_by task how
shown actor (Suspend task) = events.End task ends.Yield ∷ []
shown actor _ = []

-- what an entry shows
abbrev pub event_of : Entry → List Event
event_of entry = shown entry.actor entry.note

-- what all entries show, in order
abbrev pub visible : List Entry → List Event
visible entries = flat_map event_of entries
