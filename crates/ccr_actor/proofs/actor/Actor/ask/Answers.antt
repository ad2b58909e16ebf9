use Rattle.std.proofs.Common.{ap, ◌∙◌}
use Rattle.ccr_claim.specs.declared.asks.Asked.{Asked}
use Rattle.ccr_actor.specs.Acting.{Acting, due_in, next}
use Rattle.ccr_actor.proofs.Dues.{asks_of, due_sent}
use Rattle.ccr_actor.proofs.actor.Actor.ask.Goals as goal

pub returns-clause-asked : goal.returns-clause-asked
returns-clause-asked g c = asks_of (next c.args.self.now) c.in-Some.place c.in-Some.ask c.in-Some.ensures.asked

pub returns-clause-due : goal.returns-clause-due
returns-clause-due g c =
    let a = c.args.self.now in
    let one : Asked = record { place = c.in-Some.place; ask = c.in-Some.ask } in
    ap (λ (x : Acting). due_in x.asking) c.in-Some.ensures.sent ∙ due_sent a one (asks_of (next a) c.in-Some.place c.in-Some.ask c.in-Some.ensures.asked)
