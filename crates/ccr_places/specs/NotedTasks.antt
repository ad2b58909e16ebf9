-- Of which task a note tells what.
use Rattle.std.specs.Prelude.{List, [], ◌∷◌, Some, None}
use Rattle.ccr_base.specs.declared.names.TaskId.{TaskId}
use Rattle.ccr_places.specs.declared.notes.ClaimNote.TheVariants.{Got}
use Rattle.ccr_places.specs.declared.notes.Note.{Note}
use Rattle.ccr_places.specs.declared.notes.Note.TheVariants as notes

-- whose claim got its messages
abbrev pub noted_claimed : Note → List TaskId
noted_claimed (notes.Claim task slot (Got count)) = task ∷ []
noted_claimed _ = []

-- whose claim was consumed or freed
abbrev pub noted_unclaimed : Note → List TaskId
noted_unclaimed (notes.Consume task) = task ∷ []
noted_unclaimed (notes.Free task) = task ∷ []
noted_unclaimed _ = []

-- who was booked
abbrev pub noted_booked : Note → List TaskId
noted_booked (notes.Book task resumes None) = task ∷ []
noted_booked _ = []

-- whose booking was ended: it was put, or its booking was given back
abbrev pub noted_unbooked : Note → List TaskId
noted_unbooked (notes.Put task dropped) = task ∷ []
noted_unbooked (notes.Unbook task) = task ∷ []
noted_unbooked _ = []

-- who fired
abbrev pub noted_fired : Note → List TaskId
noted_fired (notes.Fired task spot messages cuts) = task ∷ []
noted_fired _ = []

-- whom a firing cut
abbrev pub noted_cut : Note → List TaskId
noted_cut (notes.Fired task spot messages cuts) = cuts
noted_cut _ = []

-- who was admitted
abbrev pub noted_admitted : Note → List TaskId
noted_admitted (notes.Admit (Some task)) = task ∷ []
noted_admitted _ = []

-- whose root was noted over
abbrev pub noted_over : Note → List TaskId
noted_over (notes.Over task root how) = root ∷ []
noted_over _ = []
