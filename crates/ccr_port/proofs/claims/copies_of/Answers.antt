use Rattle.std.proofs.Common.{refl, rules}
use Rattle.ccr_port.proofs.Listing.{under-at}
use Rattle.ccr_port.proofs.claims.copies_of.Goals as goal

pub message-requires : goal.message-requires
message-requires c = under-at c.args.keys.now c.args.items.now c.loop-key.key-index _ c.requires (search rules) refl
