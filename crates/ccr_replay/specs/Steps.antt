-- The text of the steps of a run: a line for each entry, `step STAMP ACTOR PLACE NOTE`, and the last line.
use Rattle.std.specs.Prelude.{ℕ, List, [], ◌∷◌, ◌++◌, map, codes, decimal, Option, Some, None}
use Rattle.ccr_base.specs.declared.names.Place.{Place}
use Rattle.ccr_base.specs.declared.names.Place.TheVariants as places
use Rattle.ccr_base.specs.declared.names.Spot.TheVariants.{Site}
use Rattle.ccr_base.specs.declared.names.TaskId.{TaskId}
use Rattle.ccr_base.specs.declared.tasks.By.{By}
use Rattle.ccr_base.specs.declared.tasks.By.TheVariants as bys
use Rattle.ccr_base.specs.declared.tasks.How.{How}
use Rattle.ccr_base.specs.declared.tasks.How.TheVariants as hows
use Rattle.ccr_text.specs.Spelling.{text_of}
use Rattle.ccr_wiring.specs.declared.parts.Parts.{Parts}
use Rattle.ccr_wiring.specs.PartNames.{port_name, queue_name, arbiter_name}
use Rattle.ccr_trace.specs.Words.{task_word, message_word, branch_names, spot_word}
use Rattle.ccr_trace.specs.HistoryText.{dropped_words}
use Rattle.ccr_text.specs.Exact.{value_word}
use Rattle.ccr_places.specs.declared.notes.ClaimNote.{ClaimNote}
use Rattle.ccr_places.specs.declared.notes.ClaimNote.TheVariants.{Got, Busy, Short}
use Rattle.ccr_places.specs.declared.notes.Note.{Note}
use Rattle.ccr_places.specs.declared.notes.Note.TheVariants as notes
use Rattle.ccr_runs.specs.declared.entries.Entry.{Entry}
use Rattle.ccr_replay.specs.Records.{done_words}

-- ---- the place: its kind and its name. A domain has the name of the arbiter of its number, a site that of its spot

-- the place's kind and name
abbrev pub place_words : Parts → Place → List (List ℕ)
place_words wiring (places.Port port) = codes "port" ∷ port_name wiring port ∷ []
place_words wiring (places.Arbiter arbiter) = codes "arbiter" ∷ arbiter_name wiring arbiter ∷ []
place_words wiring (places.Site branch site) = codes "site" ∷ spot_word (branch_names wiring) (Site branch site) ∷ []
place_words wiring (places.Queue queue) = codes "queue" ∷ queue_name wiring queue ∷ []
place_words wiring places.Meter = codes "meter" ∷ []

-- ---- the note

-- the word, or `none`
abbrev pub task_or_none : Option TaskId → List ℕ
task_or_none None = codes "none"
task_or_none (Some task) = task_word task

-- the number, or the word `none`
abbrev pub number_or_none : Option ℕ → List ℕ
number_or_none None = codes "none"
number_or_none (Some number) = decimal number

-- how a claim ended
abbrev pub claim_words : ClaimNote → List (List ℕ)
claim_words (Got count) = codes "got" ∷ decimal count ∷ []
claim_words (Busy task) = codes "busy" ∷ task_word task ∷ []
claim_words (Short count) = codes "short" ∷ decimal count ∷ []

-- why an attempt came too late
abbrev pub by_words : By → List (List ℕ)
by_words (bys.Fired task) = codes "by" ∷ task_word task ∷ []
by_words bys.NoneWaiting = codes "none" ∷ []

-- how a root came to its end
abbrev pub how_words : How → List (List ℕ)
how_words hows.Done = codes "done" ∷ []
how_words (hows.Failed value) = codes "failed" ∷ value_word value ∷ []
how_words hows.Shed = codes "shed" ∷ []
how_words hows.Dropped = codes "dropped" ∷ []

-- how many tasks a queue without room has
abbrev pub full_words : Option ℕ → List (List ℕ)
full_words None = []
full_words (Some count) = codes "full" ∷ decimal count ∷ []

-- what a step did, in words
abbrev pub note_words : Note → List (List ℕ)
note_words (notes.Post message) = codes "post" ∷ message_word message.id ∷ []
note_words (notes.Claim task slot reply) = codes "claim" ∷ task_word task ∷ claim_words reply
note_words (notes.Consume task) = codes "consume" ∷ task_word task ∷ []
note_words (notes.Free task) = codes "free" ∷ task_word task ∷ []
note_words (notes.Fired task spot messages cuts) = codes "fired" ∷ task_word task ∷ []
note_words (notes.Dead task spot by) = codes "dead" ∷ task_word task ∷ by_words by
note_words (notes.Admit task) = codes "admit" ∷ task_or_none task ∷ []
note_words (notes.Over task root how) = codes "over" ∷ task_word task ∷ how_words how
note_words (notes.Suspend task) = codes "suspend" ∷ task_word task ∷ []
note_words (notes.Book task resumes full) = codes "book" ∷ task_word task ∷ full_words full
note_words (notes.Unbook task) = codes "unbook" ∷ task_word task ∷ []
note_words (notes.Put task dropped) = codes "put" ∷ task_word task ∷ dropped_words dropped
note_words (notes.Take task) = codes "take" ∷ task_or_none task ∷ []
note_words (notes.Draw number) = codes "draw" ∷ number_or_none number ∷ []
note_words notes.Leave = codes "leave" ∷ []
note_words (notes.Left count) = codes "left" ∷ decimal count ∷ []

-- ---- the text

-- the words of an entry's line
abbrev pub step_words : Parts → Entry → List (List ℕ)
step_words wiring entry = codes "step" ∷ decimal entry.stamp ∷ decimal entry.actor ∷ (place_words wiring entry.place ++ note_words entry.note)

-- a line for each step, and the last line
abbrev pub steps_text : Parts → List Entry → List ℕ
steps_text wiring entries = text_of (map (step_words wiring) entries ++ done_words ∷ [])
