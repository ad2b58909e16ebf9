use Rattle.std.proofs.Common.{sym, subst, arith}
use Rattle.ccr_model.specs.Legal.{IsAllowed}
use Rattle.ccr_checker.specs.Judges.{Judged}
use Rattle.ccr_checker.proofs.LegalEventsOneByOne.{allowed_at}
use Rattle.ccr_checker.proofs.checker.Checker.behind.Goals as goal

pub accept-requires : goal.accept-requires
accept-requires c =
    subst (λ (j : Judged). IsAllowed j.wiring j.history c.event-item.result) (sym c.loop-event.invariant)
    (allowed_at c.args.wiring.now c.args.events.now c.loop-event.event-index c.event-item.result c.requires (omega arith) c.event-item.is)
