-- A poster fires a receiver and puts its task, which a worker takes and ends. Nine steps.
use Rattle.std.proofs.Common.{◌≡◌, true, false, List, [], ◌∷◌, take, Some, None, refl, arith}
use Rattle.ccr_base.specs.declared.names.MsgId.TheVariants.{Script}
use Rattle.ccr_base.specs.declared.names.Place.TheVariants as places
use Rattle.ccr_base.specs.declared.names.Spot.TheVariants.{Branch}
use Rattle.ccr_base.specs.declared.patterns.Pattern.TheVariants.{Slots}
use Rattle.ccr_base.specs.declared.policies.Policy.TheVariants.{Unbounded}
use Rattle.ccr_base.specs.declared.policies.Group.TheVariants as groups
use Rattle.ccr_base.specs.declared.tasks.How.TheVariants as hows
use Rattle.ccr_wiring.specs.declared.parts.Parts.{Parts}
use Rattle.ccr_wiring.specs.declared.parts.Kind.TheVariants as kinds
use Rattle.ccr_wiring.specs.Codes.{code_of}
use Rattle.ccr_wiring.specs.Valid.{IsValid}
use Rattle.ccr_model.specs.declared.history.Event.TheVariants.{Post, Fire, Put, Start, End}
use Rattle.ccr_model.specs.declared.history.EndHow.TheVariants as ends
use Rattle.ccr_model.specs.Legal.{first_refusal, is_covered}
use Rattle.ccr_places.specs.declared.notes.Note.TheVariants as notes
use Rattle.ccr_places.specs.declared.notes.ClaimNote.TheVariants.{Got}
use Rattle.ccr_runs.specs.declared.entries.Entry.{Entry}
use Rattle.ccr_runs.specs.Visible.{visible}
use Rattle.ccr_runs.specs.EntryRuns.{made_by, never, IsRun}
use Rattle.ccr_net.proofs.Worked.WiringsInShort.{in-none, in-more, in-less, task, message, sent, one_of, queue, arbiter, handler_part, poster_part, parts, entry}

ruleset sets = (in-none, in-more, in-less)

abbrev pub net : Parts
net = parts (queue 113 Unbounded ∷ []) (97 ∷ []) (handler_part 104 [] ∷ []) (arbiter 114 kinds.Receive groups.Always (Slots (one_of 0 ∷ [])) ∷ []) (poster_part 112 (sent 0 7 ∷ []) ∷ [])

pub is_valid : IsValid net
unfolding code_of
is_valid = refl

abbrev pub entry_0 : Entry
entry_0 = entry 0 (places.Port 0) 1 (notes.Post (message (Script 0 0) 0 7))

abbrev pub entry_1 : Entry
entry_1 = entry 0 (places.Queue 0) 2 (notes.Book (task 0 0) false None)

abbrev pub entry_2 : Entry
entry_2 = entry 0 (places.Port 0) 3 (notes.Claim (task 0 0) (one_of 0) (Got 1))

abbrev pub entry_3 : Entry
entry_3 = entry 0 (places.Arbiter 0) 4 (notes.Fired (task 0 0) (Branch 0) (Script 0 0 ∷ []) [])

abbrev pub entry_4 : Entry
entry_4 = entry 0 (places.Port 0) 5 (notes.Consume (task 0 0))

abbrev pub entry_5 : Entry
entry_5 = entry 0 (places.Queue 0) 6 (notes.Put (task 0 0) None)

abbrev pub entry_6 : Entry
entry_6 = entry 1 places.Meter 1 (notes.Left 0)

abbrev pub entry_7 : Entry
entry_7 = entry 1 (places.Queue 0) 7 (notes.Take (Some (task 0 0)))

abbrev pub entry_8 : Entry
entry_8 = entry 1 (places.Arbiter 0) 8 (notes.Over (task 0 0) (task 0 0) hows.Done)

abbrev pub run : List Entry
run = entry_0 ∷ entry_1 ∷ entry_2 ∷ entry_3 ∷ entry_4 ∷ entry_5 ∷ entry_6 ∷ entry_7 ∷ entry_8 ∷ []

-- each step is its actor's next
step_0 : made_by net never (take 0 run) 0 ≡ Some entry_0
step_0 = refl

step_1 : made_by net never (take 1 run) 0 ≡ Some entry_1
step_1 = simp sets

step_2 : made_by net never (take 2 run) 0 ≡ Some entry_2
step_2 = refl

step_3 : made_by net never (take 3 run) 0 ≡ Some entry_3
step_3 = refl

step_4 : made_by net never (take 4 run) 0 ≡ Some entry_4
step_4 = refl

step_5 : made_by net never (take 5 run) 0 ≡ Some entry_5
step_5 = simp sets

step_6 : made_by net never (take 6 run) 1 ≡ Some entry_6
step_6 = refl

step_7 : made_by net never (take 7 run) 1 ≡ Some entry_7
step_7 = refl

step_8 : made_by net never (take 8 run) 1 ≡ Some entry_8
step_8 = refl

pub is_run : IsRun net 1 run
is_run = record { lacks = never; steps = (omega arith, step_0, (omega arith, step_1, (omega arith, step_2, (omega arith, step_3, (omega arith, step_4, (omega arith, step_5, (omega arith, step_6, (omega arith, step_7, (omega arith, step_8, tt))))))))) }

is_legal : first_refusal net [] 0 (visible run) ≡ None
is_legal = refl

covers : is_covered net (visible run) ≡ true
covers = refl

shows : visible run ≡ Post (message (Script 0 0) 0 7) ∷ Fire (task 0 0) (Branch 0) (Script 0 0 ∷ []) [] ∷ Put (task 0 0) None ∷ Start (task 0 0) 1 ∷ End (task 0 0) ends.Done ∷ []
shows = refl
