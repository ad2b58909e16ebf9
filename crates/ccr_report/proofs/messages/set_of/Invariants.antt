use Rattle.std.proofs.Common.{◌≡◌, take}
use Rattle.std.specs.HashSet.{contains}
use Rattle.ccr_base.specs.declared.names.MsgId.{MsgId}
use Rattle.ccr_base.specs.Names.{same_message, has_message}
use Rattle.ccr_report.proofs.messages.set_of.Given as goal

abbrev pub invariant-loop-name : goal.invariant-loop-name
invariant-loop-name l = (name : MsgId) → contains same_message l.set name ≡ has_message (take l.name-index l.names) name
