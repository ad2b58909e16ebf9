use Rattle.std.proofs.Common.{◌∙◌, subst}
use Rattle.ccr_turns.specs.Seated.{Won}
use Rattle.ccr_turns.proofs.Acting.{ready_again}
use Rattle.ccr_turns.proofs.turns.Turns.look.Goals as goal

pub try_lock-requires : goal.try_lock-requires
try_lock-requires g c =
    let inv = c.loop.invariant in
    (inv.0 ∙ c.requires.0, c.requires.1, ready_again _ _ inv.1 c.requires.2)

pub returns-then-try_lock-clause-won : goal.returns-then-try_lock-clause-won
returns-then-try_lock-clause-won g c = subst (λ m. Won g.O.Kept.value g.O.Kept.seen c.args.self.now.table.shared.table_id.slots c.args.place m c.try_lock.new.token.me) c.loop.invariant.1 c.if-try_lock.ensures.won
