-- What the entries of closed locks show.
use Rattle.std.specs.Prelude.{ℕ, List, [], flat_map, Option, Some, None}
use Rattle.ccr_model.specs.declared.history.Event.{Event}
use Rattle.ccr_places.specs.declared.notes.Note.{Note}
use Rattle.ccr_object.specs.declared.deed.Deed.{Deed}
use Rattle.ccr_runs.specs.declared.acts.Act.{Act}
use Rattle.ccr_runs.specs.Visible.{shown}

-- what was noted shows; nothing where the condition wasn't met
abbrev pub note_shown : ℕ → Option Note → List Event
note_shown actor None = []
note_shown actor (Some note) = shown actor note

-- what an act shows
abbrev pub act_shown : Act Deed → List Event
act_shown act = note_shown act.seat act.note.note

-- what the acts show, one after the other
abbrev pub acts_shown : List (Act Deed) → List Event
acts_shown acts = flat_map act_shown acts
