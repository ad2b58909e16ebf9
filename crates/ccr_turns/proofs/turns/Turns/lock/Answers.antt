use Rattle.std.proofs.Common.{◌∙◌, subst}
use Rattle.ccr_turns.specs.Seated.{Won}
use Rattle.ccr_turns.proofs.turns.Turns.lock.Goals as goal

pub returns-then-look-clause-won : goal.returns-then-look-clause-won
returns-then-look-clause-won g c = subst (λ m. Won g.O.Kept.value g.O.Kept.seen c.args.self.now.table.shared.table_id.slots c.args.place m c.look.new.token.me) c.if-try_lock.ensures.won c.if-look.ensures.won

pub returns-clause-won : goal.returns-clause-won
returns-clause-won g c = subst (λ m. Won g.O.Kept.value g.O.Kept.seen c.args.self.now.table.shared.table_id.slots c.args.place m c.sleep.new.token.me) (c.if-look.ensures.won ∙ c.if-try_lock.ensures.won) c.sleep.ensures.won
