use Rattle.std.proofs.Common.{◌≡◌, take}
use Rattle.ccr_port.specs.Entries.{messages_under}
use Rattle.ccr_port.proofs.claims.copies_of.Given as goal

abbrev pub invariant-loop-key : goal.invariant-loop-key
invariant-loop-key l = l.copies.items ≡ messages_under (take l.key-index l.keys) l.items
