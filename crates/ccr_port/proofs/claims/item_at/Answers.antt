use Rattle.std.proofs.Common.{◌≡◌, ◌∙◌, sym, ap, arith}
use Rattle.std.specs.List.{slice_get}
use Rattle.ccr_port.specs.Entries.{keys_of}
use Rattle.ccr_port.proofs.Listing.{has-at, some_at, none_past, keys-long, stands}
use Rattle.ccr_port.proofs.claims.item_at.Goals as goal

pub returns-then-index-len : goal.returns-then-index-len
returns-then-index-len c = none_past c.args.items.now c.args.index (omega arith)

pub unreachable-requires : goal.unreachable-requires
unreachable-requires c = some_at (keys_of c.args.items.now) c.loop-before._before (omega (arith, keys-long c.args.items.now)) (sym c.loop-before.invariant ∙ c.in_default.is)

pub behind-key-requires : goal.behind-key-requires
behind-key-requires c = has-at (keys_of c.args.items.now) c.loop-before._before c.in-Some.here (sym c.loop-before.invariant ∙ c.in-Some.is)

pub loop-before-preserved : goal.loop-before-preserved
loop-before-preserved c = c.behind-key.ensures c.loop-before._before (sym c.loop-before.invariant ∙ c.in-Some.is)

pub unreachable-requires-in_default-key : goal.unreachable-requires-in_default-key
unreachable-requires-in_default-key c = some_at (keys_of c.args.items.now) c.loop-before._before (omega (arith, keys-long c.args.items.now)) (sym c.loop-before.invariant ∙ c.in_default-key.is)

pub message-requires : goal.message-requires
message-requires c = has-at (keys_of c.args.items.now) c.loop-before._before c.in-Some-key.here (sym c.loop-before.invariant ∙ c.in-Some-key.is)

pub returns : goal.returns
returns c =
    let last : c.loop-before._before ≡ c.args.index = omega arith in
    let stand = stands c.args.items.now c.args.index c.in-Some-key.here (ap (slice_get (keys_of c.args.items.now)) (sym last) ∙ sym c.loop-before.invariant ∙ c.in-Some-key.is) in
    sym c.message.ensures ∙ stand.under c.len.ensures.apart ∙ sym stand.at
