use Rattle.std.proofs.Common.{◌≡◌, ◌++◌, drop}
use Rattle.ccr_text.specs.Spelling.{text_of}
use Rattle.ccr_commands.specs.Services.{client_lines}
use Rattle.ccr_commands.proofs.serving.put_clients.Given as goal

-- the lines so far and those still to come are all
abbrev pub invariant-loop-client : goal.invariant-loop-client
invariant-loop-client l = l.out ++ text_of (client_lines (drop l.client-index l.clients) l.rest) ≡ l.fn.out ++ text_of (client_lines l.clients l.told)
