use Rattle.std.proofs.Common.{◌≡◌, ◌++◌, drop}
use Rattle.ccr_text.specs.Spelling.{text_of}
use Rattle.ccr_commands.specs.Services.{ask_lines}
use Rattle.ccr_commands.proofs.serving.put_asks.Given as goal

-- the lines so far and those still to come are all
abbrev pub invariant-loop-index : goal.invariant-loop-index
invariant-loop-index l = l.out ++ text_of (ask_lines l.index (drop l.index l.told)) ≡ l.fn.out ++ text_of (ask_lines 0 l.told)
