-- What a port answers.
use Rattle.std.specs.Prelude.{ℕ, length, Option, Some, None, if◌then◌else◌}
use Rattle.ccr_claim.specs.declared.asks.Ask.{Ask}
use Rattle.ccr_claim.specs.declared.asks.Ask.TheVariants as asks
use Rattle.ccr_claim.specs.declared.asks.Reply.{Reply}
use Rattle.ccr_claim.specs.declared.asks.Reply.TheVariants as replies
use Rattle.ccr_places.specs.declared.notes.Note.{Note}
use Rattle.ccr_places.specs.declared.notes.Note.TheVariants as notes
use Rattle.ccr_port.specs.declared.claims.Claimed.{Claimed}
use Rattle.ccr_port.specs.declared.claims.Claimed.TheVariants.{Got, Busy, Short}
use Rattle.ccr_port.specs.Replies.{claim_reply as claimed}
use Rattle.ccr_places.specs.Ports.{PortState, may_post, may_claim, may_consume, may_free, claim_note, after_post, after_claim, after_consume, after_free}

-- how the outcome of a claim is told
abbrev pub claim_reply : Claimed → Reply
claim_reply (Got messages) = replies.Got messages
claim_reply (Busy task) = replies.Busy task
claim_reply (Short count) = replies.Short count

-- how many messages were got
abbrev pub got_count : Claimed → ℕ
got_count (Got messages) = length messages
got_count (Busy task) = 0
got_count (Short count) = 0

-- the reply and the note, or none where the condition isn't met
abbrev pub answer : PortState → Ask → Option (Reply × Note)
answer port (asks.Post message) = if may_post port message then Some (replies.Done, notes.Post message) else None
answer port (asks.Claim task slot) = if may_claim port task slot then Some (claim_reply (claimed port slot), notes.Claim task slot (claim_note port slot)) else None
answer port (asks.Consume task) = if may_consume port task then Some (replies.Done, notes.Consume task) else None
answer port (asks.Free task) = if may_free port task then Some (replies.Done, notes.Free task) else None
answer port _ = None

-- the port after the ask
abbrev pub after : PortState → Ask → PortState
after port (asks.Post message) = if may_post port message then after_post port message else port
after port (asks.Claim task slot) = if may_claim port task slot then after_claim port task slot (claim_note port slot) else port
after port (asks.Consume task) = if may_consume port task then after_consume port else port
after port (asks.Free task) = if may_free port task then after_free port else port
after port _ = port
