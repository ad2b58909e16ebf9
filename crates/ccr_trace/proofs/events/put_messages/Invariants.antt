use Rattle.std.proofs.Common.{◌≡◌, ◌++◌, map, take}
use Rattle.std.specs.List.{All}
use Rattle.ccr_trace.specs.Words.{message_word}
use Rattle.ccr_trace.specs.HistoryText.{behind}
use Rattle.ccr_trace.specs.Said.{IsMessage}
use Rattle.ccr_trace.proofs.events.put_messages.Given as goal

abbrev pub invariant-loop-message : goal.invariant-loop-message
invariant-loop-message l = record {
  text : l.out ≡ l.fn.out ++ behind (map message_word (take l.message-index l.messages));
  numbers : All IsMessage (take l.message-index l.messages);
}
