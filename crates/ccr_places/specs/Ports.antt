-- What a port keeps, and its steps.
--
-- Each file on a kind of place has the same parts:
--   a record of what the place keeps, and what it keeps before all notes;
--   for each ask that has a condition, `may_..`: whether the condition is met;
--   for each ask whose answer depends on the place, what its note tells (here `claim_note`);
--   for each ask, `after_..`: what the place keeps then;
--   `after`: what the place keeps after a note, and `kept`: after a list of notes;
--   `IsGiven`: which notes the place may give.
use Rattle.std.specs.Prelude.{◌≡◌, ⊤, ℕ, ◌+◌, ◌^◌, Bool, false, not, ◌==◌, ◌&&◌, nat_lt, nat_le, List, [], ◌∷◌, ◌++◌, length, take, fold, Option, Some, None, if◌then◌else◌}
use Rattle.std.specs.Option.{option_map, option_map_or}
use Rattle.ccr_base.specs.declared.names.TaskId.{TaskId}
use Rattle.ccr_base.specs.declared.messages.Msg.{Msg}
use Rattle.ccr_base.specs.declared.patterns.Pred.{Pred}
use Rattle.ccr_base.specs.declared.patterns.Slot.{Slot}
use Rattle.ccr_base.specs.Names.{same_task, has_task}
use Rattle.ccr_base.specs.Selection.{fitting, is_choosable}
pub use Rattle.ccr_base.specs.Selection.{without_first}
use Rattle.ccr_places.specs.declared.claims.StandingClaim.{StandingClaim}
use Rattle.ccr_places.specs.declared.notes.ClaimNote.{ClaimNote}
use Rattle.ccr_places.specs.declared.notes.ClaimNote.TheVariants.{Got, Busy, Short}
use Rattle.ccr_places.specs.declared.notes.Note.{Note}
use Rattle.ccr_places.specs.declared.notes.Note.TheVariants.{Post, Claim, Consume, Free}

-- the number, the messages, oldest first, and the claim that stands
pub record PortState : Type 0 where
  pub number : ℕ
  pub items : List Msg
  pub claim : Option StandingClaim

-- an empty and free port
abbrev pub start : ℕ → PortState
start number = record { number = number; items = []; claim = None }

-- the task whose claim stands
abbrev pub claimant : PortState → Option TaskId
claimant port = option_map (λ (claim : StandingClaim). claim.task) port.claim

-- whether the claim that stands is this task's
abbrev pub is_claimed_by : PortState → TaskId → Bool
is_claimed_by port task = option_map_or (λ (claim : StandingClaim). same_task task claim.task) port.claim false

-- from the oldest on, what the predicate takes, until there are so many
abbrev pub first_fitting : ℕ → Pred → List Msg → List Msg
first_fitting count pred messages = take count (fitting pred messages)

-- the messages of the port that none of these tasks took: those that its claim marks are taken as soon as the task of the claim fires,
-- though they stand at the port until the claim is consumed
abbrev pub unmarked_by : List TaskId → PortState → List Msg
unmarked_by fired port = option_map_or (λ (claim : StandingClaim). if has_task fired claim.task then without_first claim.count claim.pred port.items else port.items) port.claim port.items

-- the messages that the claim marks
abbrev pub marked : PortState → List Msg
marked port = option_map_or (λ (claim : StandingClaim). first_fitting claim.count claim.pred port.items) port.claim []

-- the messages that no claim marks
abbrev pub unmarked : PortState → List Msg
unmarked port = option_map_or (λ (claim : StandingClaim). without_first claim.count claim.pred port.items) port.claim port.items

-- a message of this port, which has room for one more number below 2^32
abbrev pub may_post : PortState → Msg → Bool
may_post port message = (message.port == port.number) && nat_lt (length port.items + 1) (2 ^ 32)

-- a slot of this port, in order, for a task that has no claim here
abbrev pub may_claim : PortState → TaskId → Slot → Bool
may_claim port task slot = (slot.port == port.number) && nat_le slot.least slot.most && not (is_claimed_by port task)

-- by the task that has the claim
abbrev pub may_consume : PortState → TaskId → Bool
may_consume port task = is_claimed_by port task

-- by the task that has the claim
abbrev pub may_free : PortState → TaskId → Bool
may_free port task = is_claimed_by port task

-- what a free port answers to a claim: the number of the selection, or how many satisfy the predicate where they are too few
abbrev pub free_claim_note : Slot → List Msg → ClaimNote
free_claim_note slot messages = if is_choosable slot messages then Got (length (first_fitting slot.most slot.pred messages)) else Short (length (fitting slot.pred messages))

-- busy where a claim stands, else as a free port answers
abbrev pub claim_note : PortState → Slot → ClaimNote
claim_note port slot = option_map_or (λ (claim : StandingClaim). Busy claim.task) port.claim (free_claim_note slot port.items)

-- the message stands last
abbrev pub after_post : PortState → Msg → PortState
after_post port message = record port { items = port.items ++ message ∷ [] }

-- what was got is marked for the task
abbrev pub after_claim : PortState → TaskId → Slot → ClaimNote → PortState
after_claim port task slot (Got count) = record port { claim = Some (record { task = task; pred = slot.pred; count = count }) }
after_claim port task slot (Busy other) = port
after_claim port task slot (Short count) = port

-- the marked messages are taken out, and no claim stands
abbrev pub after_consume : PortState → PortState
after_consume port = record port { items = unmarked port; claim = None }

-- no claim stands, and the messages stay
abbrev pub after_free : PortState → PortState
after_free port = record port { claim = None }

-- what the port keeps after a note of its own
abbrev pub after : PortState → Note → PortState
after port (Post message) = after_post port message
after port (Claim task slot reply) = after_claim port task slot reply
after port (Consume task) = after_consume port
after port (Free task) = after_free port
after port _ = port

-- what the port keeps after all these notes
abbrev pub kept : PortState → List Note → PortState
kept port notes = fold after port notes

-- the notes that the port may give
abbrev pub IsGiven : PortState → Note → Type 0
IsGiven port (Post message) = ⊤
IsGiven port (Claim task slot reply) = reply ≡ claim_note port slot
IsGiven port (Consume task) = ⊤
IsGiven port (Free task) = ⊤
IsGiven port _ = ⊥
