use Rattle.std.proofs.Common.{◌≡◌, drop}
use Rattle.std.specs.List.{list_all}
use Rattle.ccr_object.specs.Numbers.{knows_message}
use Rattle.ccr_object.proofs.numbers.Numbers.knows_messages.Given as goal

-- each so far is one of theirs
abbrev pub invariant-loop-message : goal.invariant-loop-message
invariant-loop-message l = list_all (knows_message l.self) (drop l.message-index l.messages) ≡ list_all (knows_message l.self) l.messages
