use Rattle.std.proofs.Common.{◌≡◌, ◌++◌, drop, map, flat_map}
use Rattle.ccr_base.specs.declared.messages.Msg.{Msg}
use Rattle.ccr_cause.specs.Causes.{union}
use Rattle.ccr_ledger.proofs.loads.with_messages.Given as goal

abbrev pub invariant-loop-message : goal.invariant-loop-message
invariant-loop-message l = record {
  values : l.values.items ++ map (λ (m : Msg). m.value) (drop l.message-index l.messages) ≡ l.fn.load.values ++ map (λ (m : Msg). m.value) l.messages;
  causes : union l.causes (flat_map (λ (m : Msg). m.causes) (drop l.message-index l.messages)) ≡ union l.fn.load.causes (flat_map (λ (m : Msg). m.causes) l.messages);
}
