-- What a claim answers.
use Rattle.std.specs.Prelude.{ℕ, Bool, true, ◌==◌, ◌&&◌, nat_lt, nat_le, List, length, if◌then◌else◌}
use Rattle.std.specs.List.{list_all}
use Rattle.std.specs.Option.{option_map_or}
use Rattle.ccr_base.specs.declared.messages.Msg.{Msg}
use Rattle.ccr_base.specs.declared.patterns.Slot.{Slot}
use Rattle.ccr_base.specs.Selection.{fitting, is_choosable}
use Rattle.ccr_places.specs.declared.claims.StandingClaim.{StandingClaim}
use Rattle.ccr_places.specs.declared.notes.ClaimNote.{ClaimNote}
use Rattle.ccr_places.specs.declared.notes.ClaimNote.TheVariants.{Got as GotNote, Busy as BusyNote, Short as ShortNote}
use Rattle.ccr_places.specs.Ports.{PortState, first_fitting}
use Rattle.ccr_port.specs.declared.claims.Claimed.{Claimed}
use Rattle.ccr_port.specs.declared.claims.Claimed.TheVariants.{Got, Busy, Short}

-- what a free port answers: the selection of the slot, or how many satisfy the predicate where they are too few
abbrev pub free_claim_reply : Slot → List Msg → Claimed
free_claim_reply slot messages = if is_choosable slot messages then Got (first_fitting slot.most slot.pred messages) else Short (length (fitting slot.pred messages))

-- busy where a claim stands, else as a free port answers
abbrev pub claim_reply : PortState → Slot → Claimed
claim_reply port slot = option_map_or (λ (claim : StandingClaim). Busy claim.task) port.claim (free_claim_reply slot port.items)

-- what is noted of the answer
abbrev pub reply_note : Claimed → ClaimNote
reply_note (Got messages) = GotNote (length messages)
reply_note (Busy task) = BusyNote task
reply_note (Short count) = ShortNote count

-- whether these are messages of the port with this number
abbrev pub are_at : ℕ → List Msg → Bool
are_at number messages = list_all (λ (m : Msg). m.port == number) messages

-- whether the slot may get this answer: messages of its port, as many as it takes, or fewer that satisfy than it takes
abbrev pub fits_slot : Slot → Claimed → Bool
fits_slot slot (Got messages) = nat_le slot.least (length messages) && nat_le (length messages) slot.most && are_at slot.port messages
fits_slot slot (Busy task) = true
fits_slot slot (Short count) = nat_lt count slot.least
