-- Two posters drive one join of two ports: one finds the other's claim, which is given up for want of a message. Ten steps.
use Rattle.std.proofs.Common.{◌≡◌, true, false, List, [], ◌∷◌, take, Some, None, refl, arith}
use Rattle.ccr_base.specs.declared.names.MsgId.TheVariants.{Script}
use Rattle.ccr_base.specs.declared.names.Place.TheVariants as places
use Rattle.ccr_base.specs.declared.names.Spot.TheVariants.{Branch}
use Rattle.ccr_base.specs.declared.patterns.Pattern.TheVariants.{Slots}
use Rattle.ccr_base.specs.declared.policies.Policy.TheVariants.{Unbounded}
use Rattle.ccr_base.specs.declared.policies.Group.TheVariants as groups
use Rattle.ccr_wiring.specs.declared.parts.Parts.{Parts}
use Rattle.ccr_wiring.specs.declared.parts.Kind.TheVariants as kinds
use Rattle.ccr_wiring.specs.Codes.{code_of}
use Rattle.ccr_wiring.specs.Valid.{IsValid}
use Rattle.ccr_model.specs.declared.history.Event.TheVariants.{Post, Fire, Put, Start, End}
use Rattle.ccr_model.specs.declared.history.EndHow.TheVariants as ends
use Rattle.ccr_model.specs.Legal.{first_refusal, is_covered}
use Rattle.ccr_model.specs.Order.{finished_in}
use Rattle.ccr_places.specs.declared.notes.Note.TheVariants as notes
use Rattle.ccr_places.specs.declared.notes.ClaimNote.TheVariants.{Got, Busy, Short}
use Rattle.ccr_runs.specs.declared.entries.Entry.{Entry}
use Rattle.ccr_runs.specs.Visible.{visible}
use Rattle.ccr_runs.specs.EntryRuns.{made_by, never, IsRun}
use Rattle.ccr_net.proofs.Worked.WiringsInShort.{in-none, in-more, in-less, task, message, sent, one_of, queue, arbiter, handler_part, poster_part, parts, entry}

ruleset sets = (in-none, in-more, in-less)

abbrev pub net : Parts
net = parts (queue 113 Unbounded ∷ []) (97 ∷ 98 ∷ []) (handler_part 104 [] ∷ []) (arbiter 114 kinds.Receive groups.Always (Slots (one_of 0 ∷ one_of 1 ∷ [])) ∷ []) (poster_part 112 (sent 0 5 ∷ []) ∷ poster_part 115 (sent 0 6 ∷ []) ∷ poster_part 116 (sent 1 1 ∷ []) ∷ [])

is_valid : IsValid net
unfolding code_of
is_valid = refl

abbrev pub entry_0 : Entry
entry_0 = entry 0 (places.Port 0) 1 (notes.Post (message (Script 0 0) 0 5))

abbrev pub entry_1 : Entry
entry_1 = entry 1 (places.Port 0) 2 (notes.Post (message (Script 1 0) 0 6))

abbrev pub entry_2 : Entry
entry_2 = entry 0 (places.Queue 0) 2 (notes.Book (task 0 0) false None)

abbrev pub entry_3 : Entry
entry_3 = entry 0 (places.Port 0) 3 (notes.Claim (task 0 0) (one_of 0) (Got 1))

abbrev pub entry_4 : Entry
entry_4 = entry 1 (places.Queue 0) 3 (notes.Book (task 1 0) false None)

abbrev pub entry_5 : Entry
entry_5 = entry 1 (places.Port 0) 4 (notes.Claim (task 1 0) (one_of 0) (Busy (task 0 0)))

abbrev pub entry_6 : Entry
entry_6 = entry 1 (places.Queue 0) 5 (notes.Unbook (task 1 0))

abbrev pub entry_7 : Entry
entry_7 = entry 0 (places.Port 1) 4 (notes.Claim (task 0 0) (one_of 1) (Short 0))

abbrev pub entry_8 : Entry
entry_8 = entry 0 (places.Port 0) 5 (notes.Free (task 0 0))

abbrev pub entry_9 : Entry
entry_9 = entry 0 (places.Queue 0) 6 (notes.Unbook (task 0 0))

abbrev pub run : List Entry
run = entry_0 ∷ entry_1 ∷ entry_2 ∷ entry_3 ∷ entry_4 ∷ entry_5 ∷ entry_6 ∷ entry_7 ∷ entry_8 ∷ entry_9 ∷ []

-- each step is its actor's next
step_0 : made_by net never (take 0 run) 0 ≡ Some entry_0
step_0 = refl

step_1 : made_by net never (take 1 run) 1 ≡ Some entry_1
step_1 = refl

step_2 : made_by net never (take 2 run) 0 ≡ Some entry_2
step_2 = simp sets

step_3 : made_by net never (take 3 run) 0 ≡ Some entry_3
step_3 = refl

step_4 : made_by net never (take 4 run) 1 ≡ Some entry_4
step_4 = simp sets

step_5 : made_by net never (take 5 run) 1 ≡ Some entry_5
step_5 = refl

step_6 : made_by net never (take 6 run) 1 ≡ Some entry_6
step_6 = simp sets

step_7 : made_by net never (take 7 run) 0 ≡ Some entry_7
step_7 = refl

step_8 : made_by net never (take 8 run) 0 ≡ Some entry_8
step_8 = refl

step_9 : made_by net never (take 9 run) 0 ≡ Some entry_9
step_9 = simp sets

pub is_run : IsRun net 0 run
is_run = record { lacks = never; steps = (omega arith, step_0, (omega arith, step_1, (omega arith, step_2, (omega arith, step_3, (omega arith, step_4, (omega arith, step_5, (omega arith, step_6, (omega arith, step_7, (omega arith, step_8, (omega arith, step_9, tt)))))))))) }

is_legal : first_refusal net [] 0 (visible run) ≡ None
is_legal = refl

covers : is_covered net (visible run) ≡ true
covers = refl

-- what is left to do afterwards
ends_so : finished_in 10 net 3 (visible run) ≡ Post (message (Script 0 0) 0 5) ∷ Post (message (Script 1 0) 0 6) ∷ Post (message (Script 2 0) 1 1) ∷ Fire (task 3 0) (Branch 0) (Script 0 0 ∷ Script 2 0 ∷ []) [] ∷ Put (task 3 0) None ∷ Start (task 3 0) 3 ∷ End (task 3 0) ends.Done ∷ []
ends_so = refl
