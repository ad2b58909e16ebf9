use Rattle.std.proofs.Common.{◌+◌, sym, subst}
use Rattle.ccr_net.specs.Schedules.{AreStarted}
use Rattle.ccr_net.proofs.Played.PlayedRunsGoOn.{started_push}
use Rattle.ccr_net.proofs.schedules.all_actors.Goals as goal

pub loop-number-preserved : goal.loop-number-preserved
loop-number-preserved c =
    let n = c.loop-number.number in
    subst (AreStarted c.args.wiring.now (n + 1)) (sym c.in_ok-push.ensures.items) (started_push c.args.wiring.now n c.loop-number.actors.items c.in_ok-start.field-0 c.loop-number.invariant c.in_ok-start.ensures.started)
