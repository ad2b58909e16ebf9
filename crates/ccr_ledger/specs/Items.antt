-- What an index of a port keeps of a message.
use Rattle.std.specs.Prelude.{ℕ, [], ◌∷◌, Option, Some, None}
use Rattle.ccr_base.specs.declared.names.MsgId.{MsgId}
use Rattle.ccr_base.specs.declared.messages.Msg.{Msg}
use Rattle.ccr_ledger.specs.declared.item.Body.{Body}
use Rattle.ccr_ledger.specs.declared.item.Body.TheVariants.{Plain, Full, Gone}

-- the message that an index keeps so; none once it was taken
abbrev pub carried : MsgId → ℕ → Body → Option Msg
carried id port (Plain number) = Some (record { id = id; port = port; value = number ∷ []; causes = [] })
carried id port (Full parts) = Some (record { id = id; port = port; value = parts.value.0; causes = parts.value.1 })
carried id port Gone = None
