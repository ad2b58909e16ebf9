use Rattle.std.proofs.Common.{◌≡◌, drop}
use Rattle.ccr_handler.specs.Playing.{after_await}
use Rattle.ccr_handler.proofs.actions.after_await.Given as goal

abbrev pub invariant-loop-index : goal.invariant-loop-index
invariant-loop-index l = after_await l.actions ≡ after_await (drop l.index l.actions)
