-- The texts of worked runs, computed.
use Rattle.std.proofs.Common.{◌≡◌, ℕ, false, List, [], ◌∷◌, ◌++◌, Some, None, refl, codes, arith}
use Rattle.std.specs.Prelude.{decimal, flat_map}
use Rattle.std.proofs.lemmas.Fmt.{decimal_digit}
use Rattle.ccr_base.specs.declared.names.MsgId.TheVariants.{Script}
use Rattle.ccr_base.specs.declared.names.Place.{Place}
use Rattle.ccr_base.specs.declared.names.Place.TheVariants as places
use Rattle.ccr_base.specs.declared.names.Spot.TheVariants.{Branch}
use Rattle.ccr_base.specs.declared.names.TaskId.{TaskId}
use Rattle.ccr_base.specs.declared.patterns.Pattern.TheVariants.{Slots}
use Rattle.ccr_base.specs.declared.patterns.Pred.TheVariants.{Any}
use Rattle.ccr_base.specs.declared.patterns.Slot.{Slot}
use Rattle.ccr_base.specs.declared.policies.Group.TheVariants as groups
use Rattle.ccr_base.specs.declared.policies.Policy.TheVariants.{Unbounded}
use Rattle.ccr_base.specs.declared.tasks.By.TheVariants as bys
use Rattle.ccr_base.specs.declared.tasks.How.TheVariants as hows
use Rattle.ccr_wiring.specs.declared.parts.Kind.TheVariants as kinds
use Rattle.ccr_wiring.specs.declared.parts.Parts.{Parts}
use Rattle.ccr_places.specs.declared.notes.ClaimNote.TheVariants.{Got, Busy, Short}
use Rattle.ccr_places.specs.declared.notes.Note.{Note}
use Rattle.ccr_places.specs.declared.notes.Note.TheVariants as notes
use Rattle.ccr_runs.specs.declared.entries.Entry.{Entry}
use Rattle.ccr_replay.specs.Records.{record_text}
use Rattle.ccr_replay.specs.Schedules.{schedule}
use Rattle.ccr_replay.specs.Steps.{note_words, place_words, steps_text}

abbrev lines : List (List ℕ) → List ℕ
lines texts = flat_map (λ text. text ++ 10 ∷ []) texts

abbrev task : ℕ → TaskId
task actor = record { actor = actor; attempt = 0 }

abbrev slot : ℕ → Slot
slot port = record { port = port; least = 1; most = 1; pred = Any }

abbrev entry : ℕ → Place → ℕ → Note → Entry
entry actor place stamp note = record { actor = actor; place = place; stamp = stamp; note = note }

-- a join j of the ports a and b, with a queue q; the posters and handlers have no part in the text
abbrev names : Parts
names = record {
  version = 1;
  budget = 10000;
  queues = record { name = codes "q"; policy = Unbounded } ∷ [];
  ports = codes "a" ∷ codes "b" ∷ [];
  sets = [];
  causes = [];
  handlers = [];
  arbiters = record { name = codes "j"; kind = kinds.Receive; branches = record { name = codes "j"; group = groups.Always; queue = 0; handler = 0; pattern = Slots (slot 0 ∷ slot 1 ∷ []) } ∷ [] } ∷ [];
  domains = [];
  posters = [];
  open_posters = [];
  open_handlers = [];
}

d0 : decimal 0 ≡ 48 ∷ []
d0 = decimal_digit 0 (omega arith)

d1 : decimal 1 ≡ 49 ∷ []
d1 = decimal_digit 1 (omega arith)

d2 : decimal 2 ≡ 50 ∷ []
d2 = decimal_digit 2 (omega arith)

d3 : decimal 3 ≡ 51 ∷ []
d3 = decimal_digit 3 (omega arith)

d4 : decimal 4 ≡ 52 ∷ []
d4 = decimal_digit 4 (omega arith)

d5 : decimal 5 ≡ 53 ∷ []
d5 = decimal_digit 5 (omega arith)

d6 : decimal 6 ≡ 54 ∷ []
d6 = decimal_digit 6 (omega arith)

ruleset digits = (d0, d1, d2, d3, d4, d5, d6)

-- two posters drive the join, and one gives way to the other
abbrev rivals : List Entry
rivals =
    entry 0 (places.Port 0) 1 (notes.Post (record { id = Script 0 0; port = 0; value = 5 ∷ []; causes = [] }))
    ∷ entry 1 (places.Port 0) 2 (notes.Post (record { id = Script 1 0; port = 0; value = 6 ∷ []; causes = [] }))
    ∷ entry 0 (places.Queue 0) 2 (notes.Book (task 0) false None)
    ∷ entry 0 (places.Port 0) 3 (notes.Claim (task 0) (slot 0) (Got 1))
    ∷ entry 1 (places.Queue 0) 3 (notes.Book (task 1) false None)
    ∷ entry 1 (places.Port 0) 4 (notes.Claim (task 1) (slot 0) (Busy (task 0)))
    ∷ entry 1 (places.Queue 0) 5 (notes.Unbook (task 1))
    ∷ entry 0 (places.Port 1) 4 (notes.Claim (task 0) (slot 1) (Short 0))
    ∷ entry 0 (places.Port 0) 5 (notes.Free (task 0))
    ∷ entry 0 (places.Queue 0) 6 (notes.Unbook (task 0))
    ∷ []

steps_of_rivals : steps_text names rivals ≡ lines
    (codes "step 1 0 port a post s0.0"
    ∷ codes "step 2 1 port a post s1.0"
    ∷ codes "step 2 0 queue q book t0.0"
    ∷ codes "step 3 0 port a claim t0.0 got 1"
    ∷ codes "step 3 1 queue q book t1.0"
    ∷ codes "step 4 1 port a claim t1.0 busy t0.0"
    ∷ codes "step 5 1 queue q unbook t1.0"
    ∷ codes "step 4 0 port b claim t0.0 short 0"
    ∷ codes "step 5 0 port a free t0.0"
    ∷ codes "step 6 0 queue q unbook t0.0"
    ∷ codes "done 0"
    ∷ [])
steps_of_rivals = simp digits

turns_of_rivals : schedule rivals ≡ 0 ∷ 1 ∷ 0 ∷ 0 ∷ 1 ∷ 1 ∷ 1 ∷ 0 ∷ 0 ∷ 0 ∷ []
turns_of_rivals = refl

record_of_none : (text : List ℕ) → record_text text 0 [] ≡ text ++ 10 ∷ lines (codes "record 1 0" ∷ codes "done 0" ∷ [])
record_of_none text = simp digits

record_of_turns : (text : List ℕ) → record_text text 4 (4 ∷ 0 ∷ []) ≡ text ++ 10 ∷ lines (codes "record 1 4" ∷ codes "turn 4" ∷ codes "turn 0" ∷ codes "done 0" ∷ [])
record_of_turns text = simp digits

site_words : place_words names (places.Site 0 2) ≡ codes "site" ∷ codes "j@2" ∷ []
site_words = simp digits

dead_words : note_words (notes.Dead (task 1) (Branch 0) (bys.Fired (task 2))) ≡ codes "dead" ∷ codes "t1.0" ∷ codes "by" ∷ codes "t2.0" ∷ []
dead_words = simp digits

over_words : note_words (notes.Over (task 1) (task 2) (hows.Failed (3 ∷ []))) ≡ codes "over" ∷ codes "t1.0" ∷ codes "failed" ∷ codes "3" ∷ []
over_words = simp digits

book_words : note_words (notes.Book (task 1) false (Some 2)) ≡ codes "book" ∷ codes "t1.0" ∷ codes "full" ∷ codes "2" ∷ []
book_words = simp digits

put_words : note_words (notes.Put (task 1) (Some (task 0))) ≡ codes "put" ∷ codes "t1.0" ∷ codes "drop" ∷ codes "t0.0" ∷ []
put_words = simp digits
