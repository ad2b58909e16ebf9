use Rattle.std.proofs.Common.{◌∙◌, get_or, arith, rules}
use Rattle.ccr_port.proofs.LaneLists.{next-there, rest-there, rest-left, can-leave-all, left-all}
use Rattle.ccr_port.proofs.claims.take_marked.Goals as goal

pub take-message-requires : goal.take-message-requires
take-message-requires c = next-there c.args.keys.now c.loop-key.key-index (search rules) c.loop-key.items c.loop-key.invariant.there

pub leave_all-requires : goal.leave_all-requires
leave_all-requires c = can-leave-all c.loop-key.items (get_or c.args.keys.now c.loop-key.key-index 0) c.take-message.result c.take-message.ensures.message c.loop-key.lanes.items c.loop-key.invariant.lanes

pub loop-key-preserved : goal.loop-key-preserved
loop-key-preserved c = rw (c.take-message.ensures.rest, c.leave_all.ensures) (record {
  there = rest-there c.args.keys.now c.loop-key.key-index (search rules) c.loop-key.items c.loop-key.invariant.there;
  rest = rest-left c.args.keys.now c.loop-key.key-index (search rules) c.loop-key.items c.loop-key.invariant.there ∙ c.loop-key.invariant.rest;
  lanes = left-all c.loop-key.items (get_or c.args.keys.now c.loop-key.key-index 0) c.take-message.result c.take-message.ensures.message c.loop-key.lanes.items c.loop-key.invariant.lanes;
})
