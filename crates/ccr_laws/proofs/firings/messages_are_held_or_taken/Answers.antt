use Rattle.std.proofs.Common.{sym}
use Rattle.ccr_laws.proofs.HeldTaken.{held_or_taken}
use Rattle.ccr_laws.proofs.firings.messages_are_held_or_taken.Goals as goal

pub returns : goal.returns
returns c = λ w valid h legal. sym (held_or_taken w valid h legal)
