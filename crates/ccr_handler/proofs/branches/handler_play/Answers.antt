use Rattle.std.proofs.Common.{◌≡◌, map, arith}
use Rattle.ccr_handler.specs.Playing.{actions_from}
use Rattle.ccr_wiring.specs.declared.parts.CausePart.{CausePart}
use Rattle.ccr_handler.proofs.SamePlays.{play-ports}
use Rattle.ccr_handler.proofs.branches.handler_play.Goals as goal

pub returns : goal.returns
returns c =
    let ports = c.deref.result.now in
    let are : ports ≡ map (λ (part : CausePart). part.port) c.args.wiring.now.causes = grind (arith, c.deref.ensures.value) in
    rw (← play-ports c.args.wiring.now ports are c.args.values.now c.args.segment c.args.causes.now (actions_from c.args.segment c.args.handler.now.actions)) c.plays.ensures
