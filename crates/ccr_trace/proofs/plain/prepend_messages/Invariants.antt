use Rattle.std.proofs.Common.{◌≡◌, ◌≤◌, ◌++◌, length, map, drop}
use Rattle.std.specs.List.{All}
use Rattle.ccr_trace.specs.Words.{message_word}
use Rattle.ccr_trace.specs.HistoryText.{behind}
use Rattle.ccr_trace.specs.Said.{IsMessage}
use Rattle.ccr_trace.proofs.plain.prepend_messages.Given as goal

-- the messages from this one on stand in front
abbrev pub invariant-loop-left : goal.invariant-loop-left
invariant-loop-left l = record {
  few : l.left ≤ length l.messages;
  text : l.line ≡ behind (map message_word (drop l.left l.messages)) ++ l.fn.line;
  numbers : All IsMessage (drop l.left l.messages);
}

abbrev pub decreases-loop-left : goal.decreases-loop-left
decreases-loop-left l = l.left
